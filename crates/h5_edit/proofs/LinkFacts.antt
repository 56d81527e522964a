-- Links made in place, and objects that are made with one: what decides whether they are refused, and what they make of an opened image
-- (File Format Specification 3.0, sections III.A.1 and III.C).
use Rattle.std.proofs.Common.{◌≡◌, ℕ, Bool, ◌+◌, ◌*◌, ◌<◌, ◌&&◌, List, [], ◌∷◌, ◌++◌, length, refl, sym, ap, ap₂, ◌∙◌, subst, true, false, Option, Some, None, nat_lt, inl, inr, arith}
use Rattle.std.proofs.lemmas.Bool.Decides.{nat_tests}
use Rattle.std.specs.Prelude.{◌↔◌, IsSome, IsTrue, MatchResult, OnErr, OnOk, is_some, Result, Ok, Err}
use Rattle.std.specs.Option.{option_and_then, option_map, option_map_or}
use Rattle.std.specs.FinMap.{get, insert, empty}
use Rattle.h5_btree.specs.declared.insertion.InsertFault.{InsertFault}
use Rattle.h5_btree.specs.declared.insertion.InsertFault.TheVariants as insertion
use Rattle.h5_model.specs.Edits.Applied.{with_edit, with_link_at, new_dataset, new_object, state_after, named_object}
use Rattle.h5_model.specs.Edits.Bounds.{bound_of, contiguous_data, link_bound, name_span, new_header}
use Rattle.h5_model.specs.Edits.Facts.{Facts}
use Rattle.h5_model.specs.Edits.ImageAnswers.{is_header_full, is_image_full, must_add, new_entries}
use Rattle.h5_model.specs.Edits.Refusal.{new_path, refusal_of, rules_of}
use Rattle.h5_model.proofs.RefusalLaws.{none_holds}
use Rattle.h5_model.specs.Edits.Touched.{touched_by}
use Rattle.h5_model.specs.Format.Addresses.{SymbolTable}
use Rattle.h5_model.specs.Format.Heap.{segment_block}
use Rattle.h5_model.specs.Format.Limits.{most_bytes}
use Rattle.h5_model.specs.Format.Sizes.{group_node, symbol_node, text_span}
use Rattle.h5_model.specs.Format.Superblock.{internal_k, k_values}
use Rattle.h5_model.specs.Format.Messages.{most_messages}
use Rattle.h5_model.specs.Tree.Objects.{Tree, Object, Content, Group, Array, Links, ToObject, Soft, dataset_in, dataset_of, link_in, links_in, links_of}
use Rattle.h5_model.specs.Tree.Paths.{last_of, names_of, parent_at, parent_from}
use Rattle.h5_model.specs.declared.dataset.Spec.{Spec}
use Rattle.h5_model.specs.declared.edits.Edit.{Edit}
use Rattle.h5_model.specs.declared.edits.Edit.TheVariants.{CreateGroup, CreateDataset, HardLink, SoftLink}
use Rattle.h5_model.specs.declared.edits.Edited.{Edited}
use Rattle.h5_model.specs.declared.edit_fault.EditFault.TheVariants as fault
use Rattle.h5_model.specs.declared.k_values.KValues.{KValues}
use Rattle.h5_model.specs.declared.object_no.ObjectNo.{ObjectNo}
use Rattle.h5_space.specs.declared.image.SpaceFault.TheVariants as space
use Rattle.h5_laws.specs.Trees.Sound.{IsSoundTree}
use Rattle.h5_laws.proofs.Lists.{In}
use Rattle.h5_laws.proofs.Objects.{content_cases, has_object, in_table}
use Rattle.h5_laws.proofs.SoundLaws.Applied.{object_stands, sound_applied}
use Rattle.h5_laws.proofs.SoundLaws.LinksThere.{GroupAt, group_of}
use Rattle.h5_laws.proofs.SoundLaws.Read.{placed_at, reads_sound}
use Rattle.h5_query.specs.ChangedInPlace.{IsChangedInPlace}
use Rattle.h5_query.specs.LinkAdded.{IsGroupOf, with_link}
use Rattle.h5_query.specs.LinkEdits.{IsFullFor, link_room}
use Rattle.h5_query.specs.ObjectAdded.{tree_with}
use Rattle.h5_query.specs.Opened.Sound.{IsSound}
use Rattle.h5_query.specs.Opened.State.{FileState, state_of}
use Rattle.h5_query.proofs.OpenedLaws.Indexed.{next_free}
use Rattle.h5_query.proofs.PathLaws.{last-parent}
use Rattle.h5_edit.specs.Answers.{added_answer, insert_fault}
use Rattle.h5_edit.specs.Carried.{AreFacts, AreFactsAt, AreGroupFacts, IsGivenInPlace, IsRefused, tree_after}
use Rattle.h5_edit.specs.Edited.{IsEdited, IsTrimmedBy, made_numbers}
use Rattle.h5_edit.specs.Refusals.Allowed.{IsLinkPlaced, IsPlaceAllowed}
use Rattle.h5_edit.specs.declared.rules.place.NewPlace.{NewPlace}
use Rattle.h5_edit.proofs.Fitting.{link_free, linked_at}

-- ---- the group that takes the link

-- a group of a sound image has its tree and its heap where the messages of its header say
pub group_there : (f : FileState) → IsSound f → (number : ℕ) → GroupAt f.tree number → (table : SymbolTable) × IsGroupOf f number table
group_there f sound number g =
    let by = placed_at f.image f.table f.tree sound.placed sound.reads number g.object g.stands in
    let x = by.0 in
    let has = has_object f.image f.table f.tree sound.placed sound.reads.holds x by.1 in
    let content : x.object.content ≡ Group g.links = ap (λ (o : Object). o.content) by.3 ∙ g.is in
    elim (content_cases f.image f.table has.messages x.object.content has.content_blocks has.content) [
      | inl (links, e, found, group, zip) ↦ (
        group.symbol_table,
        record {
          header = x.header;
          at = ap (get f.table) (sym by.2) ∙ in_table f.image f.table f.tree sound.placed sound.reads.holds x by.1;
          messages = has.messages;
          blocks = has.header_blocks;
          listed = has.listed;
          names = group.chosen;
        },
      )
      | inr (d, e, array) ↦ absurd (let never : Array d ≡ Group g.links = sym e ∙ content in cc)
    ]

-- the last name of a path is the one that stands in the group before it
span_is : (tree : Tree) (path : List ℕ) (parent : ℕ) (name : List ℕ) → parent_at tree path ≡ Some (parent, name) → name_span path ≡ text_span name
span_is tree path parent name at = go (names_of path) at where
  go : (o : Option (List (List ℕ))) → option_and_then (parent_from tree (ToObject 0)) o ≡ Some (parent, name) → option_map_or (λ names. text_span (last_of names)) o 0 ≡ text_span name
  go None none = absurd (let never : None ≡ Some (parent, name) = none in cc)
  go (Some names) from = ap text_span (last-parent tree (ToObject 0) names parent name from)

-- ---- an edit that puts a link into a group: what it takes at most, which tree and number it leaves, and which objects it touches

pub record IsLinkEdit (f : FileState) (path : List ℕ) (parent : ℕ) (name : List ℕ) (edit : Edit) (table : SymbolTable) (room : ℕ) (after : Tree) (next : ℕ) (touched : List ℕ) : Type 0 where
  pub at : parent_at f.tree path ≡ Some (parent, name)
  pub bound : (facts : Facts) → facts.k ≡ k_values f.image → facts.heap ≡ (segment_block f.image table.heap).len → bound_of facts f.tree edit ≡ room
  pub light : (facts : Facts) → must_add facts edit ≡ false
  pub one : (facts : Facts) → new_entries facts f.tree edit ≡ 1
  pub asks : (facts : Facts) → AreGroupFacts f path facts → AreFactsAt f edit facts
  pub tree : after ≡ tree_after f edit
  pub counted : next ≡ (state_after (state_of f) edit).next
  pub touches : made_numbers f edit ++ touched_by f.tree edit ≡ touched
  pub trimmed : (now : FileState) → IsTrimmedBy edit f now

-- what a link may add, by the K values and the segment
linked_room : (facts : Facts) (image : List ℕ) (table : SymbolTable) (occupied : ℕ) → facts.k ≡ k_values image → facts.heap ≡ (segment_block image table.heap).len
    → link_bound facts occupied ≡ link_room image table occupied
linked_room facts image table occupied k heap = λ i. 17 * group_node (k i).internal + symbol_node (k i).leaf + 2 * heap i + occupied + 16

module _ (f : FileState) where
  pub hard_edit : {target path : List ℕ} {number : ℕ} {place : NewPlace} → IsLinkPlaced f.tree f.next target path (HardLink target path) (number, place) → (table : SymbolTable)
      → IsLinkEdit f path place.parent place.name.now (HardLink target path) table (link_room f.image table (text_span place.name.now))
      (with_link f.tree place.parent place.name.now (ToObject number)) f.next (place.parent ∷ number ∷ [])
  unfolding with_edit bound_of touched_by
  hard_edit {target} {path} {number} {place} (leads, placed) table = record {
    at = placed.parent;
    bound = λ facts k heap. ap (link_bound facts) (span_is f.tree path place.parent place.name.now placed.parent)
        ∙ linked_room facts f.image table (text_span place.name.now) k heap;
    light = λ facts. refl;
    one = λ facts. refl;
    asks = λ facts are. are;
    trimmed = λ now. tt;
    tree = sym (ap (λ (o : Option ℕ). option_map_or (λ n. with_link_at f.tree path (ToObject n)) o f.tree) leads ∙ linked_at f placed (ToObject number));
    counted = refl;
    touches = ap₂ (λ (p : Option (ℕ × List ℕ)) (o : Option ℕ). option_map_or (λ q. q.0 ∷ []) p [] ++ option_map_or (λ n. n ∷ []) o []) placed.parent leads;
  }

  pub soft_edit : {text path : List ℕ} {place : NewPlace} → IsPlaceAllowed f.tree f.next path (SoftLink text path) place → (table : SymbolTable)
      → IsLinkEdit f path place.parent place.name.now (SoftLink text path) table (link_room f.image table (text_span place.name.now + text_span text))
      (with_link f.tree place.parent place.name.now (Soft text)) f.next (place.parent ∷ [])
  unfolding with_edit bound_of touched_by
  soft_edit {text} {path} {place} placed table = record {
    at = placed.parent;
    bound = λ facts k heap. ap (λ (n : ℕ). link_bound facts (n + text_span text)) (span_is f.tree path place.parent place.name.now placed.parent)
        ∙ linked_room facts f.image table (text_span place.name.now + text_span text) k heap;
    light = λ facts. refl;
    one = λ facts. refl;
    asks = λ facts are. are;
    trimmed = λ now. tt;
    tree = sym (linked_at f placed (Soft text));
    counted = refl;
    touches = ap (λ (p : Option (ℕ × List ℕ)). option_map_or (λ q. q.0 ∷ []) p []) placed.parent;
  }

  -- what a new object of so many bytes has, with what its link may take
  module _ {path : List ℕ} {place : NewPlace} (table : SymbolTable) (bytes : ℕ) where
    pub group_edit : IsPlaceAllowed f.tree f.next path (CreateGroup path) place → bytes ≡ group_node (internal_k f.image) + 160
        → IsLinkEdit f path place.parent place.name.now (CreateGroup path) table (link_room f.image table (text_span place.name.now) + bytes)
        (tree_with f.tree place.parent place.name.now f.next (new_object (Group empty))) (f.next + 1) (f.next ∷ place.parent ∷ [])
    unfolding with_edit bound_of touched_by
    group_edit placed long = record {
      at = placed.parent;
      bound = λ facts k heap.
          let named = span_is f.tree path place.parent place.name.now placed.parent in
          let placed_room = linked_room facts f.image table (text_span place.name.now) k heap in
          let node : group_node (facts.k).internal ≡ group_node (internal_k f.image) = ap (λ (v : KValues). group_node v.internal) k in
          omega (arith, named, placed_room, node, long);
      light = λ facts. refl;
      one = λ facts. refl;
      asks = λ facts are. are;
      trimmed = λ now. tt;
      tree = ap (λ (t : Tree). insert t f.next (new_object (Group empty))) (sym (linked_at f placed (ToObject f.next)));
      counted = refl;
      touches = ap (λ (p : Option (ℕ × List ℕ)). f.next ∷ option_map_or (λ q. q.0 ∷ []) p []) placed.parent;
    }

    pub array_edit : {spec : Spec} → IsPlaceAllowed f.tree f.next path (CreateDataset path spec) place → bytes ≡ new_header spec + contiguous_data spec
        → IsLinkEdit f path place.parent place.name.now (CreateDataset path spec) table (link_room f.image table (text_span place.name.now) + bytes)
        (tree_with f.tree place.parent place.name.now f.next (new_object (Array (new_dataset spec)))) (f.next + 1) (f.next ∷ place.parent ∷ [])
    unfolding with_edit bound_of touched_by
    array_edit {spec} placed long = record {
      at = placed.parent;
      bound = λ facts k heap.
          let named = span_is f.tree path place.parent place.name.now placed.parent in
          let placed_room = linked_room facts f.image table (text_span place.name.now) k heap in
          omega (arith, named, placed_room, long);
      light = λ facts. refl;
      one = λ facts. refl;
      asks = λ facts are. are;
      trimmed = λ now. tt;
      tree = ap (λ (t : Tree). insert t f.next (new_object (Array (new_dataset spec)))) (sym (linked_at f placed (ToObject f.next)));
      counted = refl;
      touches = ap (λ (p : Option (ℕ × List ℕ)). f.next ∷ option_map_or (λ q. q.0 ∷ []) p []) placed.parent;
    }

-- ---- what decides

module _ (f : FileState) (path : List ℕ) (parent : ℕ) (name : List ℕ) (edit : Edit) (table : SymbolTable) (room : ℕ) (after : Tree) (next : ℕ) (touched : List ℕ)
    (is : IsLinkEdit f path parent name edit table room after next touched) (group : IsGroupOf f parent table) where
  -- what the image says, where the tree of the group has room or not
  abbrev facts_of : Bool → Facts
  facts_of full = record {
    length = length f.image;
    k = k_values f.image;
    total = 0;
    has_maxima = false;
    heap = (segment_block f.image table.heap).len;
    is_stored = λ _. false;
    splits_top = λ _. full;
  }

  are_facts : (full : Bool) → IsTrue full ↔ IsFullFor f.image table name → AreFacts f edit (facts_of full)
  are_facts full top = record {
    long = refl;
    k = refl;
    at = is.asks (facts_of full) (record { parent = parent; name = name; at = is.at; table = table; group = group; heap = refl; top = top });
  }

  bound_is : (full : Bool) → bound_of (facts_of full) f.tree edit ≡ room
  bound_is full = is.bound (facts_of full) refl refl

  no_header : (full : Bool) → is_header_full (facts_of full) edit ≡ false
  no_header full = ap (λ (b : Bool). b && nat_lt most_messages 2) (is.light (facts_of full))

  -- by the answer of the call that puts the link
  module _ (accepted : refusal_of f.tree f.next edit ≡ None) (r : Result (Unit {0}) InsertFault) (deep : (r ≡ Err insertion.TreeTooDeep) ↔ IsFullFor f.image table name)
      (full : (r ≡ Err (insertion.Space space.ImageFull)) ↔ ((IsFullFor f.image table name → ⊥) × (most_bytes < length f.image + room))) where
    has_room : (IsFullFor f.image table name → ⊥) → AreFacts f edit (facts_of false)
    has_room fits = are_facts false (λ never. absurd (let no : false ≡ true = never in cc), λ filled. absurd (fits filled))

    fits_ok : (u : Unit {0}) → r ≡ Ok u → IsFullFor f.image table name → ⊥
    fits_ok u ok filled = let never : Ok u ≡ Err insertion.TreeTooDeep = sym ok ∙ deep.1 filled in absurd (cc)

    link_given : (u : Unit {0}) → r ≡ Ok u → IsGivenInPlace f edit None
    link_given u ok = (facts_of false, has_room (fits_ok u ok), (no_header false, refl, by_length (nat_lt most_bytes (length f.image + room)) refl)) where
      by_length : (b : Bool) → nat_lt most_bytes (length f.image + room) ≡ b → is_image_full (facts_of false) f.tree edit ≡ false
      by_length true past =
          absurd (let never : Ok u ≡ Err (insertion.Space space.ImageFull) = sym ok ∙ full.1 (fits_ok u ok, grind (arith, nat_tests, past)) in cc)
      by_length false within = ap (λ (n : ℕ). nat_lt most_bytes (length f.image + n)) (bound_is false) ∙ within

    refused_deep : r ≡ Err insertion.TreeTooDeep → IsRefused f edit fault.TreeTooDeep
    refused_deep so = record {
      given = Some fault.TreeTooDeep;
      allowed = λ _. (
        facts_of true,
        are_facts true (λ _. deep.0 so, λ _. refl),
        (no_header true, (0, omega (arith, is.one (facts_of true)), refl)),
      );
      answer = rw accepted refl;
    }

    refused_long : r ≡ Err (insertion.Space space.ImageFull) → IsRefused f edit fault.ImageFull
    refused_long so =
        let past = full.0 so in
        let long = past.1 in
        record {
          given = Some fault.ImageFull;
          allowed = λ _.
              (facts_of false, has_room past.0, (no_header false, refl, ap (λ (n : ℕ). nat_lt most_bytes (length f.image + n)) (bound_is false) ∙ grind (arith, nat_tests, long)));
          answer = rw accepted refl;
        }

    pub link_refused : (e : InsertFault) → r ≡ Err e → IsRefused f edit (insert_fault e)
    link_refused insertion.TreeTooDeep so = refused_deep so
    link_refused (insertion.Space space.ImageFull) so = refused_long so
    link_refused (insertion.Space space.NoMemory) so = record {
      given = Some fault.NoMemory;
      allowed = λ _. tt;
      answer = rw accepted refl;
    }

    -- ---- what is made

    module _ (u : Unit {0}) (ok : r ≡ Ok u) (now : FileState) (e : Edited) (named : option_map (λ (o : ObjectNo). o.0) e.object ≡ named_object f.tree edit f.next) (refreshed : e.refreshed ≡ 0) where
      pub link_made : IsChangedInPlace f now after next touched room → IsEdited f edit now e
      link_made changed = record {
        accepted = record { accepted = accepted; given = λ _. link_given u ok };
        state = (λ i. record { tree = changed.state.0 i; next = changed.state.1 i }) ∙ (λ i. record { tree = is.tree i; next = is.counted i });
        object = named;
        refreshed = refreshed;
        bytes = bound_of (facts_of false) f.tree edit;
        growth = (facts_of false, has_room (fits_ok u ok), refl);
        trimmed = is.trimmed now;
        changed = subst (λ (n : ℕ). IsChangedInPlace f now (tree_after f edit) (state_after (state_of f) edit).next (made_numbers f edit ++ touched_by f.tree edit) n) (sym (bound_is false))
            (subst (λ (ns : List ℕ). IsChangedInPlace f now (tree_after f edit) (state_after (state_of f) edit).next ns room) (sym is.touches)
            (subst (λ (n : ℕ). IsChangedInPlace f now (tree_after f edit) n touched room) is.counted
            (subst (λ (t : Tree). IsChangedInPlace f now t next touched room) is.tree changed)));
      }

  -- of an object that is made: what it is answered
  module _ (accepted : refusal_of f.tree f.next edit ≡ None) (number : ℕ) (named : Some number ≡ named_object f.tree edit f.next) (now : FileState) where
    pub object_answered : (r : Result (Unit {0}) InsertFault) → (r ≡ Err insertion.TreeTooDeep) ↔ IsFullFor f.image table name
        → (r ≡ Err (insertion.Space space.ImageFull)) ↔ ((IsFullFor f.image table name → ⊥) × (most_bytes < length f.image + room))
        → (Changed : Type 0) → OnOk r Changed → (Changed → IsChangedInPlace f now after next touched room) → OnErr r (now ≡ f)
        → MatchResult (added_answer r number) (IsEdited f edit now) (λ e. IsRefused f edit e × (now ≡ f))
    object_answered (Ok u) deep full Changed changed in_place same = link_made accepted (Ok u) deep full u refl now _ named refl (in_place changed)
    object_answered (Err fault) deep full Changed changed in_place same = (link_refused accepted (Err fault) deep full fault refl, same)

  -- an object whose own bytes, with those of the image, are too many
  pub object_full : refusal_of f.tree f.next edit ≡ None → (fault : InsertFault) → (fault ≡ insertion.TreeTooDeep) ↔ IsFullFor f.image table name
      → (fault ≡ insertion.Space space.ImageFull) ↔ (IsFullFor f.image table name → ⊥) → most_bytes < length f.image + room → IsRefused f edit (insert_fault fault)
  object_full accepted fault deep full long = link_refused accepted (Err fault) (λ so. deep.0 (cc), λ filled. ap Err (deep.1 filled))
      (λ so. (full.0 (cc), long), λ fits. ap Err (full.1 fits.0)) fault refl

-- ---- what the call asks for

-- an accepted hard link leads to no group
no_group : (f : FileState) {target path : List ℕ} {number : ℕ} {place : NewPlace} → IsLinkPlaced f.tree f.next target path (HardLink target path) (number, place)
    → is_some (links_of f.tree number) ≡ false
unfolding refusal_of
no_group f {target} {path} {number} {place} (leads, placed) =
    let rules = none_holds (rules_of f.tree f.next (HardLink target path)) placed.allowed in
    sym (ap (λ (o : Option ℕ). is_some (option_and_then (links_of f.tree) o)) leads) ∙ rules.1.1.1.1.1.1.1.1.1.0

-- but to an array
pub array_target : (f : FileState) → IsSound f → {target path : List ℕ} {number : ℕ} {place : NewPlace}
    → IsLinkPlaced f.tree f.next target path (HardLink target path) (number, place) → IsSome (dataset_of f.tree number)
array_target f sound {target} {path} {number} {place} (leads, placed) =
    by_object (get f.tree number) refl (object_stands f.tree target number (reads_sound f.image f.table f.tree (sound.placed, sound.reads)) leads) where
      by_content : (c : Content) → is_some (links_in c) ≡ false → IsSome (dataset_in c)
      by_content (Group links) none = absurd (let never : true ≡ false = none in cc)
      by_content (Array d) none = refl

      by_object : (found : Option Object) → get f.tree number ≡ found → IsSome found → IsSome (dataset_of f.tree number)
      by_object None there some = absurd (let never : false ≡ true = some in cc)
      by_object (Some o) there some =
          ap (λ (x : Option Object). is_some (option_and_then (λ (y : Object). dataset_in y.content) x)) there
          ∙ by_content o.content (sym (ap (λ (x : Option Object). is_some (option_and_then (λ (y : Object). links_in y.content) x)) there) ∙ no_group f (leads, placed))

module _ (f : FileState) (sound : IsSound f) {path : List ℕ} {edit : Edit} {place : NewPlace} (placed : IsPlaceAllowed f.tree f.next path edit place) (new : In path (new_path edit)) where
  abbrev free_at : (links : Links) × (links_of f.tree place.parent ≡ Some links) × (get links place.name.now ≡ None)
  free_at = link_free f placed new

  pub parent_there : GroupAt f.tree place.parent
  parent_there = (group_of f.tree place.parent free_at.0 free_at.1).0

  pub group_asked : IsSome (links_of f.tree place.parent)
  group_asked = ap (λ (o : Option Links). is_some o) free_at.1

  pub free_asked : link_in f.tree place.parent place.name.now ≡ None
  free_asked = ap (option_and_then (λ (links : Links). get links place.name.now)) free_at.1 ∙ free_at.2

  pub table_there : (table : SymbolTable) × IsGroupOf f place.parent table
  table_there = group_there f sound place.parent parent_there

  pub sound_asked : (after : Tree) → after ≡ tree_after f edit → IsSoundTree after
  sound_asked after is =
      subst IsSoundTree (sym is) (sound_applied f.tree f.next f.next edit (reads_sound f.image f.table f.tree (sound.placed, sound.reads)) (next_free f sound) placed.allowed)

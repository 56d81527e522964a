-- Attributes set and removed in place: what decides whether they are refused, and what they make of an opened image (File Format
-- Specification 3.0, sections IV.A.1.a and IV.A.2.m).
use Rattle.std.proofs.Common.{◌≡◌, ℕ, Bool, ◌+◌, ◌<◌, ◌≤◌, List, [], ◌∷◌, length, refl, sym, ap, ◌∙◌, subst, true, false, Option, Some, None, nat_lt, arith}
use Rattle.std.proofs.lemmas.Bool.Decides.{nat_tests}
use Rattle.std.specs.Option.{option_and_then, option_map, option_map_or}
use Rattle.std.specs.FinMap.{contains_key, get, insert, remove}
use Rattle.std.specs.Prelude.{◌↔◌, IsSome, IsTrue, not, IsFalse, Result, Ok, Err}
use Rattle.std.proofs.lemmas.Bool.{not-false}
use Rattle.h5_bytes.specs.Texts.{pad8}
use Rattle.h5_model.specs.Edits.Applied.{with_edit, attribute_from, with_attributes}
use Rattle.h5_model.specs.Edits.Bounds.{attribute_bound, bound_of}
use Rattle.h5_model.specs.Edits.Facts.{Facts}
use Rattle.h5_model.specs.Edits.Refusal.{has_no_attribute, refusal_of, rules_of}
use Rattle.h5_model.proofs.RefusalLaws.{none_holds}
use Rattle.h5_model.specs.Edits.Touched.{touched_by}
use Rattle.h5_model.specs.Format.Limits.{most_bytes}
use Rattle.h5_model.specs.Format.Messages.{prefix_at, total_in, most_messages}
use Rattle.h5_model.specs.Format.Sizes.{attribute_size}
use Rattle.h5_model.specs.Format.Superblock.{k_values}
use Rattle.h5_model.specs.Tree.Objects.{Tree, Object, with_object}
use Rattle.h5_model.specs.Tree.Paths.{object_at}
use Rattle.h5_model.specs.declared.attribute.AttrSpec.{AttrSpec}
use Rattle.h5_model.specs.declared.edits.Edit.{Edit}
use Rattle.h5_model.specs.declared.edits.Edit.TheVariants.{SetAttr, RemoveAttr}
use Rattle.h5_model.specs.declared.edits.Edited.{Edited}
use Rattle.h5_model.specs.declared.edit_fault.EditFault.TheVariants as fault
use Rattle.h5_model.specs.declared.object_no.ObjectNo.{ObjectNo}
use Rattle.h5_header.specs.declared.add.AddFault.{AddFault}
use Rattle.h5_header.specs.declared.add.AddFault.TheVariants as add
use Rattle.h5_query.specs.Attributed.{IsAttributeThere, has_full_header}
use Rattle.h5_query.specs.ChangedInPlace.{IsChangedInPlace}
use Rattle.h5_query.specs.Opened.Sound.{IsSound}
use Rattle.h5_query.specs.Opened.State.{FileState}
use Rattle.h5_edit.specs.Carried.{AreFacts, IsGivenInPlace, IsRefused, is_total_full, tree_after, total_at}
use Rattle.h5_edit.specs.Edited.{IsEdited, IsGrowth}
use Rattle.h5_edit.specs.Refusals.Allowed.{IsAt}
use Rattle.h5_edit.proofs.Fitting.{stands}

-- ---- what decides

module _ (f : FileState) (path : List ℕ) where
  -- what the image says; the other facts are not asked for
  abbrev facts_of : Facts
  facts_of = record {
    length = length f.image;
    k = k_values f.image;
    total = total_at f path;
    has_maxima = false;
    heap = 0;
    is_stored = λ _. false;
    splits_top = λ _. false;
  }

  -- whether the header of the object at the path is full
  module _ (number : ℕ) (at : object_at f.tree path ≡ Some number) where
    abbrev said : ℕ → ℕ
    said header = total_in (prefix_at f.image header)

    pub full_at : has_full_header f number ≡ is_total_full f path
    full_at = by_found (get f.table number) ∙ sym (ap (λ (found : Option ℕ). nat_lt most_messages (option_map_or said (option_and_then (get f.table) found) 0 + 2)) at) where
      by_found : (found : Option ℕ) → option_map_or (λ header. nat_lt most_messages (total_in (prefix_at f.image header) + 2)) found false ≡ nat_lt most_messages (option_map_or said found 0 + 2)
      by_found None = refl
      by_found (Some header) = refl

  module _ (attr : AttrSpec) where
    abbrev set : Edit
    set = SetAttr path attr

    set_facts : AreFacts f set facts_of
    set_facts = record { long = refl; k = refl; at = refl }

    bound : bound_of facts_of f.tree set ≡ attribute_bound attr
    unfolding bound_of
    bound = refl

    pub set_full : is_total_full f path ≡ true → IsGivenInPlace f set (Some fault.HeaderFull)
    set_full many = (facts_of, set_facts, many)

    pub set_long : is_total_full f path ≡ false → most_bytes < length f.image + attribute_bound attr → IsGivenInPlace f set (Some fault.ImageFull)
    set_long few long = (facts_of, set_facts, (few, refl, grind (arith, nat_tests, long, bound)))

    pub set_given : is_total_full f path ≡ false → length f.image + attribute_bound attr ≤ most_bytes → IsGivenInPlace f set None
    set_given few short = (facts_of, set_facts, (few, refl, grind (arith, nat_tests, short, bound)))

    pub set_grows : (bytes : ℕ) → bytes ≡ attribute_bound attr → IsGrowth f set bytes
    set_grows bytes long = (facts_of, set_facts, long ∙ sym bound)

  module _ (name : List ℕ) where
    removed_facts : AreFacts f (RemoveAttr path name) facts_of
    removed_facts = record { long = refl; k = refl; at = tt }

    pub remove_given : length f.image ≤ most_bytes → IsGivenInPlace f (RemoveAttr path name) None
    unfolding bound_of
    remove_given short = (facts_of, removed_facts, (refl, refl, grind (arith, nat_tests, short)))

    pub remove_grows : IsGrowth f (RemoveAttr path name) 0
    unfolding bound_of
    remove_grows = (facts_of, removed_facts, refl)

-- ---- what the answer of a call says

-- where the header is full exactly where this is so, and the image exactly where that is so
module _ (f : FileState) (path : List ℕ) (attr : AttrSpec) (number : ℕ) (at : object_at f.tree path ≡ Some number) (accepted : refusal_of f.tree f.next (SetAttr path attr) ≡ None)
    (len : ℕ) (long : len ≡ pad8 (attribute_size (length attr.name) attr.dims (attr.fixed).size)) (r : Result (Unit {0}) AddFault)
    (header_full : (r ≡ Err add.HeaderFull) ↔ IsTrue (has_full_header f number))
    (image_full : (r ≡ Err add.ImageFull) ↔ (IsFalse (has_full_header f number) × (most_bytes < length f.image + (32 + len)))) where
  abbrev sets : Edit
  sets = SetAttr path attr

  total_is : (b : Bool) → has_full_header f number ≡ b → is_total_full f path ≡ b
  total_is b is = sym (full_at f path number at) ∙ is

  pub given_ok : (u : Unit {0}) → r ≡ Ok u → IsGivenInPlace f sets None
  given_ok u ok = by_total (has_full_header f number) refl where
    by_length : (b : Bool) → nat_lt most_bytes (length f.image + (32 + len)) ≡ b → has_full_header f number ≡ false → IsGivenInPlace f sets None
    by_length true past roomy =
        absurd (let never : Ok u ≡ Err add.ImageFull = sym ok ∙ image_full.1 (roomy, grind (arith, nat_tests, past)) in cc)
    by_length false within roomy = set_given f path attr (total_is false roomy) (grind (arith, nat_tests, within, long))

    by_total : (b : Bool) → has_full_header f number ≡ b → IsGivenInPlace f sets None
    by_total true full = absurd (let never : Ok u ≡ Err add.HeaderFull = sym ok ∙ header_full.1 full in cc)
    by_total false roomy = by_length (nat_lt most_bytes (length f.image + (32 + len))) refl roomy

  pub refused_full : r ≡ Err add.HeaderFull → IsRefused f sets fault.HeaderFull
  refused_full is = record {
    given = Some fault.HeaderFull;
    allowed = λ _. set_full f path attr (total_is true (header_full.0 is));
    answer = rw accepted refl;
  }

  pub refused_long : r ≡ Err add.ImageFull → IsRefused f sets fault.ImageFull
  refused_long is =
      let past = image_full.0 is in
      let more = past.1 in
      record {
        given = Some fault.ImageFull;
        allowed = λ _. set_long f path attr (total_is false past.0) (omega (arith, more, long));
        answer = rw accepted refl;
      }

-- ---- what is made

-- an image has at most 2 GiB
pub short_image : (f : FileState) → IsSound f → length f.image ≤ most_bytes
short_image f sound =
    let whole = sound.reads.holds.whole in
    let small = sound.reads.holds.superblock.small in
    omega (arith, whole, small)

-- an accepted removal finds its attribute
module _ (f : FileState) (sound : IsSound f) (path name : List ℕ) (number : ℕ) (at : IsAt f.tree f.next path (RemoveAttr path name) number) where
  pub attribute_there : IsAttributeThere f number name
  unfolding refusal_of
  attribute_there = by_object (get f.tree number) refl (stands f sound path number at.object) where
    none : has_no_attribute f.tree (RemoveAttr path name) ≡ false
    none =
        let rules = none_holds (rules_of f.tree f.next (RemoveAttr path name)) at.allowed in
        rules.1.1.1.1.1.1.1.1.1.1.1.1.1.1.1.1.1.1.1.1.1.1.1.0

    by_object : (found : Option Object) → get f.tree number ≡ found → IsSome found → IsAttributeThere f number name
    by_object None is some = absurd (let never : false ≡ true = some in cc)
    by_object (Some o) is some =
        let test = λ (found : Option Object). option_map_or (λ (x : Object). not (contains_key x.attributes name)) found false in
        let has : not (contains_key o.attributes name) ≡ false
        = sym (ap (λ (n : Option ℕ). test (option_and_then (get f.tree) n)) at.object ∙ ap test is) ∙ none in
        (o, is, not-false (contains_key o.attributes name) has)

module _ (f : FileState) (path : List ℕ) (number : ℕ) (now : FileState) (e : Edited) (named : option_map (λ (o : ObjectNo). o.0) e.object ≡ Some number) (refreshed : e.refreshed ≡ 0) where
  abbrev with_change : (Object → Object) → Tree
  with_change change = with_object f.tree number change

  module _ (attr : AttrSpec) (at : IsAt f.tree f.next path (SetAttr path attr) number) where
    abbrev with_it : Object → Object
    with_it = with_attributes (λ m. insert m attr.name (attribute_from attr))

    tree_set : with_change with_it ≡ tree_after f (SetAttr path attr)
    unfolding with_edit
    tree_set = sym (ap (λ (found : Option ℕ). option_map_or (λ n. with_object f.tree n with_it) found f.tree) at.object)

    touched_set : touched_by f.tree (SetAttr path attr) ≡ number ∷ []
    unfolding touched_by
    touched_set = ap (λ (found : Option ℕ). option_map_or (λ n. n ∷ []) found []) at.object

    pub attribute_set : IsGivenInPlace f (SetAttr path attr) None → (bytes : ℕ) → bytes ≡ attribute_bound attr
        → IsChangedInPlace f now (with_change with_it) f.next (number ∷ []) bytes → IsEdited f (SetAttr path attr) now e
    attribute_set given bytes long is = record {
      accepted = record { accepted = at.allowed; given = λ _. given };
      state = (λ i. record { tree = is.state.0 i; next = is.state.1 i }) ∙ ap (λ (t : Tree). record { tree = t; next = f.next }) tree_set;
      object = named ∙ sym at.object;
      refreshed = refreshed;
      bytes = bytes;
      growth = set_grows f path attr bytes long;
      trimmed = tt;
      changed = subst (λ (ns : List ℕ). IsChangedInPlace f now (tree_after f (SetAttr path attr)) f.next ns bytes) (sym touched_set)
          (subst (λ (t : Tree). IsChangedInPlace f now t f.next (number ∷ []) bytes) tree_set is);
    }

  module _ (name : List ℕ) (at : IsAt f.tree f.next path (RemoveAttr path name) number) where
    abbrev without_it : Object → Object
    without_it = with_attributes (λ m. remove m name)

    tree_removed : with_change without_it ≡ tree_after f (RemoveAttr path name)
    unfolding with_edit
    tree_removed = sym (ap (λ (found : Option ℕ). option_map_or (λ n. with_object f.tree n without_it) found f.tree) at.object)

    touched_removed : touched_by f.tree (RemoveAttr path name) ≡ number ∷ []
    unfolding touched_by
    touched_removed = ap (λ (found : Option ℕ). option_map_or (λ n. n ∷ []) found []) at.object

    pub attribute_removed : IsGivenInPlace f (RemoveAttr path name) None → IsChangedInPlace f now (with_change without_it) f.next (number ∷ []) 0
        → IsEdited f (RemoveAttr path name) now e
    attribute_removed given is = record {
      accepted = record { accepted = at.allowed; given = λ _. given };
      state = (λ i. record { tree = is.state.0 i; next = is.state.1 i }) ∙ ap (λ (t : Tree). record { tree = t; next = f.next }) tree_removed;
      object = named ∙ sym at.object;
      refreshed = refreshed;
      bytes = 0;
      growth = remove_grows f path name;
      trimmed = tt;
      changed = subst (λ (ns : List ℕ). IsChangedInPlace f now (tree_after f (RemoveAttr path name)) f.next ns 0) (sym touched_removed)
          (subst (λ (t : Tree). IsChangedInPlace f now t f.next (number ∷ []) 0) tree_removed is);
    }

-- An object that is to be added to an opened image, and the link to it: what is known of the name, of the object's place and of its header
-- before, and what the image is then.
use Rattle.std.proofs.Common.{◌≡◌, ◌↔◌, ℕ, ◌+◌, ◌<◌, ◌≤◌, cond, true, List, [], ◌∷◌, ◌++◌, length, refl, sym, ap, ◌∙◌, subst, arith, Option, Some, None, IsSome}
use Rattle.std.specs.Prelude.{MatchOption, option_and_then}
use Rattle.std.specs.Option.{option_map_or}
use Rattle.std.specs.Ordering.{nat_cmp}
use Rattle.std.specs.BTreeMap.{BTreeMap, is_at, get as lookup}
use Rattle.std.specs.Map.{lookup as lookup_in}
use Rattle.std.specs.FinMap.{get, insert}
use Rattle.std.proofs.lemmas.Option.{slice_get_within}
use Rattle.h5_model.specs.Edits.Applied.{with_links}
use Rattle.h5_model.specs.Format.Addresses.{SymbolTable}
use Rattle.h5_model.specs.Format.Limits.{most_bytes, most_numbers}
use Rattle.h5_model.specs.Format.Messages.{Message}
use Rattle.h5_model.specs.Format.Sizes.{text_span}
use Rattle.h5_model.specs.Tree.Objects.{Tree, Object, Links, Link, ToObject, link_in, links_in}
use Rattle.h5_model.specs.Tree.Paths.{is_name}
use Rattle.h5_space.specs.Space.{Space, next_place}
use Rattle.h5_header.specs.Laid.{IsHeaderBytes}
use Rattle.h5_group.specs.Heap.Links.{Leads}
use Rattle.h5_group.specs.Heap.Written.{texts_span}
use Rattle.h5_group.specs.LinkEdits.{IsFullFor, link_room}
use Rattle.h5_group.specs.Links.{HasNone}
use Rattle.h5_laws.specs.Trees.Sound.{IsSoundTree}
use Rattle.h5_laws.proofs.SoundLaws.Inserted.{number_other}
use Rattle.h5_laws.proofs.SoundLaws.Linked.{linked_one_more, one_more}
use Rattle.h5_laws.proofs.SoundLaws.LinksThere.{GroupAt, link_is}
use Rattle.h5_open.specs.declared.opened.added.ContentBytes.{ContentBytes}
use Rattle.h5_open.specs.declared.opened.added.ObjectBytes.{ObjectBytes}
use Rattle.h5_open.specs.declared.opened.object.OpenedObject.{OpenedObject}
use Rattle.h5_open.specs.ChangedInPlace.{IsChangedInPlace}
use Rattle.h5_open.specs.LinkAdded.{IsGroupOf, IsGroupSlot}
use Rattle.h5_open.specs.ObjectAdded.{IsKeptFor, IsObjectStored, IsToBeMade, lead_at, object_bytes, object_place, tree_with}
use Rattle.h5_open.specs.Opened.Kept.{IsOpened}
use Rattle.h5_open.specs.Opened.Objects.{table_of, tree_of}
use Rattle.h5_open.specs.Opened.State.{FileState, opened_state}
use Rattle.h5_open.proofs.GroupOf.{one_here, told_of}
use Rattle.h5_open.proofs.LinkCalls.{name_is_new}
use Rattle.h5_open.proofs.ObjectPut.{IsObjectPut}
use Rattle.h5_open.proofs.ObjectStored.{object_span}
use Rattle.h5_open.proofs.PutInPlace.{put_changed, put_opened}
use Rattle.h5_open.proofs.RelinkedTree.{group_there}

-- ---- which refusals hold, where one holds of two outcomes or of neither

pub told_neither : (A B X : Type 0) → (A → ⊥) → (B → ⊥) → A ↔ X → B ↔ X
told_neither A B X no_a no_b told = ((λ b. absurd (no_b b)), (λ x. absurd (no_a (told.1 x))))

-- ---- the object that is to be made

module _ (f : FileState) (b : ObjectBytes) (o : Object) (is : IsToBeMade f b o) where
  pub header_laid : (at : ℕ) → at ≡ object_place f b → (ms : List Message) × IsHeaderBytes b.header.now at ms
  header_laid at place = (is.messages, subst (λ (x : ℕ). IsHeaderBytes b.header.now x is.messages) (sym place) is.header)

-- what was kept stays where nothing came to the slots and the numbers
pub still_opened : (s : Space) (slots slots' : List (Option OpenedObject)) (numbers numbers' : BTreeMap ℕ ℕ) → IsOpened s slots numbers → slots' ≡ slots
    → numbers'.entries ≡ numbers.entries → IsOpened s slots' numbers'
still_opened s slots slots' numbers numbers' opened same entries = subst (λ (xs : List (Option OpenedObject)). IsOpened s xs numbers') (sym same) (record {
  reads = opened.reads;
  each = opened.each;
  index = λ header.
      let found : lookup nat_cmp numbers' header ≡ lookup nat_cmp numbers header = ap (λ (es : List (ℕ × ℕ)). lookup_in (is_at (nat_cmp header)) es) entries in
      subst (λ (o : Option ℕ). MatchOption o ((number : ℕ) → get (table_of slots) number ≡ Some header → ⊥) (λ number. get (table_of slots) number ≡ Some header)) (sym found)
      (opened.index header);
  low = opened.low;
  apart = opened.apart;
})

pub place_told : (s : Space) (slots : List (Option OpenedObject)) (f : FileState) → opened_state s slots ≡ f → (b : ObjectBytes) (len at : ℕ) → len ≡ length (object_bytes b)
    → at ≡ next_place len s → at ≡ object_place f b
place_told s slots f view b len at size place =
    place ∙ ap (λ (n : ℕ). next_place n s) size ∙ ap (λ (g : FileState). object_place g b) view

-- ---- the group, and the object when it is put

module _ (old : Space) (slots : List (Option OpenedObject)) (numbers : BTreeMap ℕ ℕ) (opened : IsOpened old slots numbers) (f : FileState) (view : opened_state old slots ≡ f)
    (parent : ℕ) (name : List ℕ) (free : link_in f.tree parent name ≡ None) (t : SymbolTable) (slot : IsGroupSlot slots parent t) where
  abbrev tree : Tree
  tree = tree_of old.bytes slots

  abbrev next : ℕ
  next = length slots

  free_here : link_in tree parent name ≡ None
  free_here = subst (λ (g : FileState). link_in g.tree parent name ≡ None) (sym view) free

  -- the refusals, as they are told of a table of the group
  pub object_deep : (Deep : Type 0) → Deep ↔ IsFullFor old.bytes t name → (u : SymbolTable) → IsGroupOf f parent u → Deep ↔ IsFullFor f.image u name
  object_deep Deep told = told_of old slots numbers opened f view parent t slot (λ (image : List ℕ) (u : SymbolTable). Deep ↔ IsFullFor image u name) told

  pub object_full : (Full : Type 0) (at : ℕ) (c : ContentBytes) (lead : Leads) → lead ≡ lead_at at c → (len bytes : ℕ) → len ≡ bytes
      → Full ↔ ((IsFullFor old.bytes t name → ⊥) × (most_bytes < length old.bytes + (link_room old.bytes t (texts_span (name, lead)) + len)))
      → (u : SymbolTable) → IsGroupOf f parent u → Full ↔ ((IsFullFor f.image u name → ⊥) × (most_bytes < length f.image + (link_room f.image u (text_span name) + bytes)))
  object_full Full at c lead leads len bytes size told =
      told_of old slots numbers opened f view parent t slot
      (λ (image : List ℕ) (u : SymbolTable). Full ↔ ((IsFullFor image u name → ⊥) × (most_bytes < length image + (link_room image u (text_span name) + bytes))))
      (subst (λ (n : ℕ). Full ↔ ((IsFullFor old.bytes t name → ⊥) × (most_bytes < length old.bytes + (link_room old.bytes t (text_span name) + n)))) size
      (subst (λ (n : ℕ). Full ↔ ((IsFullFor old.bytes t name → ⊥) × (most_bytes < length old.bytes + (link_room old.bytes t n + len)))) (object_span at c lead leads name) told))

  pub object_name_new : HasNone old.bytes t name
  object_name_new = name_is_new old slots numbers opened parent slot.0 t slot.1 slot.2 name free_here

  module _ (o : Object) (good : IsSoundTree (tree_with f.tree parent name f.next o)) where
    good_here : IsSoundTree (tree_with tree parent name next o)
    good_here = subst (λ (g : FileState). IsSoundTree (tree_with g.tree parent name g.next o)) (sym view) good

    abbrev group : GroupAt tree parent
    group = group_there old slots numbers opened parent slot.0 t slot.1 slot.2

    free_name : get group.links name ≡ None
    free_name = sym (link_is tree parent group name) ∙ free_here

    abbrev linked : Tree
    linked = one_more tree parent name (ToObject next) group free_name

    other : parent ≡ next → ⊥
    other e = omega (arith, e, slice_get_within slots parent (Some slot.0) slot.1)

    there : link_in (tree_with tree parent name next o) parent name ≡ Some (ToObject next)
    there =
        ap (λ (found : Option Object). link_in (insert (option_map_or (λ (x : Object). insert tree parent (with_links (λ links. insert links name (ToObject next)) x)) found tree) next o) parent name)
        group.stands
        ∙ ap (λ (found : Option Object). option_and_then (λ (links : Links). get links name) (option_and_then (λ (x : Object). links_in x.content) found)) (number_other linked next o parent other)
        ∙ (linked_one_more tree parent name (ToObject next) group free_name).new

    -- its name is one, as the tree with it is sound
    pub object_name_one : is_name name ≡ true
    object_name_one = good_here.named parent name (subst (λ (found : Option Link). IsSome found) (sym there) refl)

  -- ---- the image then

  module _ (b : ObjectBytes) (at : ℕ) (place : at ≡ object_place f b) (few : f.next < most_numbers) (o : OpenedObject) (kept : IsKeptFor at b o)
      (slots' : List (Option OpenedObject)) (grown : slots' ≡ slots ++ Some o ∷ []) (there_at : ℕ) (same : there_at ≡ at) (taken linked new : Space)
      (stored : IsObjectStored old taken linked new t name there_at b) where
    put_there : IsObjectPut old taken linked new slots parent slot.0 o t name at b
    put_there = record {
      group = slot.1;
      kind = slot.2;
      few = let as_many = ap (λ (g : FileState). g.next) view in omega (arith, few, as_many);
      kept = kept;
      stored = subst (λ (n : ℕ). IsObjectStored old taken linked new t name n b) same stored;
    }

    place_here : at ≡ object_place (opened_state old slots) b
    place_here = place ∙ ap (λ (g : FileState). object_place g b) (sym view)

    module _ (object : Object) (to_be : IsToBeMade f b object) (good : IsSoundTree (tree_with f.tree parent name f.next object)) (numbers' : BTreeMap ℕ ℕ)
        (updates : (q : ℕ) → lookup nat_cmp numbers' q ≡ cond (is_at (nat_cmp at) q) (Some next) (lookup nat_cmp numbers q)) where
      to_be_here : IsToBeMade (opened_state old slots) b object
      to_be_here = subst (λ (g : FileState). IsToBeMade g b object) (sym view) to_be

      sound_here : IsSoundTree (tree_with tree parent name next object)
      sound_here = good_here object good

      pub object_opened : IsOpened new slots' numbers'
      object_opened = subst (λ (xs : List (Option OpenedObject)). IsOpened new xs numbers') (sym grown)
          (put_opened old taken linked new slots numbers opened parent slot.0 o t name at b put_there free_here object to_be_here place_here sound_here numbers' updates)

      pub object_changed : length new.bytes ≤ length old.bytes + (link_room old.bytes t (text_span name) + length (object_bytes b)) → (u : SymbolTable) → IsGroupOf f parent u
          → IsChangedInPlace f (opened_state new slots') (tree_with f.tree parent name f.next object) (f.next + 1) (f.next ∷ parent ∷ [])
          (link_room f.image u (text_span name) + length (object_bytes b))
      object_changed room u is =
          subst (λ (v : SymbolTable). IsChangedInPlace f (opened_state new slots') (tree_with f.tree parent name f.next object) (f.next + 1) (f.next ∷ parent ∷ [])
          (link_room f.image v (text_span name) + length (object_bytes b)))
          (one_here old slots numbers opened f view parent t slot u is)
          (subst (λ (g : FileState). IsChangedInPlace g (opened_state new slots') (tree_with g.tree parent name g.next object) (g.next + 1) (g.next ∷ parent ∷ [])
          (link_room g.image t (text_span name) + length (object_bytes b))) view
          (subst (λ (xs : List (Option OpenedObject)). IsChangedInPlace (opened_state old slots) (opened_state new xs) (tree_with tree parent name next object) (next + 1) (next ∷ parent ∷ [])
          (link_room old.bytes t (text_span name) + length (object_bytes b))) (sym grown)
          (put_changed old taken linked new slots numbers opened parent slot.0 o t name at b put_there free_here object to_be_here place_here sound_here numbers' updates
          (link_room old.bytes t (text_span name) + length (object_bytes b)) room)))

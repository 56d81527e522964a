-- An edit in place by what is kept of the objects is an edit in place of the reading: so an image that was opened is opened as it is now.
use Rattle.std.proofs.Common.{◌≡◌, ℕ, ◌+◌, ◌≤◌, Bool, true, false, not, cond, List, ◌∷◌, length, map, refl, sym, ap, ◌∙◌, subst, arith, Option, Some, None, IsSome}
use Rattle.std.specs.Prelude.{option_map, option_and_then, slice_get}
use Rattle.std.specs.Option.{option_flatten, option_map_or}
use Rattle.std.specs.Ordering.{nat_cmp}
use Rattle.std.specs.Cmp.{nat_cmp_total}
use Rattle.std.specs.Cmp.Lexicographic.{nat_list_cmp_total}
use Rattle.std.specs.BTreeMap.{BTreeMap}
use Rattle.std.specs.FinMap.{FinMap, get, entries, same_map, nat_cmp-IsAntisymmetric}
use Rattle.std.proofs.lemmas.Option.{same_Some}
use Rattle.std.proofs.lemmas.Bool.{not-true}
use Rattle.h5_bytes.specs.Blocks.{cover, Inside}
use Rattle.h5_bytes.specs.declared.Block.{Block}
use Rattle.h5_bytes.proofs.BlockLaws.{all_append}
use Rattle.h5_model.specs.Format.Messages.{Message}
use Rattle.h5_model.specs.Format.Reads.{Placed, HasObject, ReadsAs}
use Rattle.h5_model.specs.Format.Superblock.{end_field}
use Rattle.h5_model.specs.Tree.Objects.{Tree, Object, Content, Group, Array, Link, Links, ToObject, Soft, link_in, links_in, links_of}
use Rattle.h5_model.proofs.Members.{filter_in}
use Rattle.h5_header.specs.Listed.{messages_in}
use Rattle.h5_layout.specs.Told.{layout_told, type_told}
use Rattle.h5_space.specs.Space.{Space}
use Rattle.h5_space.proofs.MovesLaws.{moves_same}
use Rattle.h5_laws.specs.InPlace.{AreStillThere, IsStillThere}
use Rattle.h5_laws.specs.Trees.Sound.{IsSoundTree}
use Rattle.h5_laws.proofs.Lists.{In, all_in}
use Rattle.h5_laws.proofs.Maps.{get_of_entry}
use Rattle.h5_open.specs.declared.opened.object.OpenedObject.{OpenedObject}
use Rattle.h5_open.specs.declared.opened.object.OpenedContent.{OpenedContent}
use Rattle.h5_open.specs.declared.opened.object.OpenedContent.TheVariants as content
use Rattle.h5_open.specs.ChangedInPlace.{IsChangedInPlace, is_among}
use Rattle.h5_open.specs.InPlace.{chosen_objects, other_objects, touched_blocks, IsInPlace, IsLeft, IsRemade}
use Rattle.h5_open.specs.Opened.Kept.{IsContentKept, IsIndex, IsObjectKept, IsOpened}
use Rattle.h5_open.specs.Opened.Objects.{content_blocks, header_of, object_blocks, object_in, table_of, tree_of}
use Rattle.h5_open.specs.Opened.State.{opened_state}
use Rattle.h5_open.specs.SlotsInPlace.{IsSlotsInPlace, slot_blocks}
use Rattle.h5_open.proofs.DataLaws.{data_inside}
use Rattle.h5_open.proofs.OpenedLaws.Entries.{get_tree, table_entries}
use Rattle.h5_open.proofs.OpenedLaws.Made.{entries_standing, get_standing}
use Rattle.h5_open.proofs.OpenedStep.{changed_step, header_at, headers_stay, opened_step}
use Rattle.h5_open.proofs.SlotPlaces.{others_stay, place_slots, from_slots, slots_placed, step_found, step_headers, step_objects, step_place, step_standing, step_touched, told_place, told_touched, tree_object}
use Rattle.h5_open.proofs.OpenedLaws.ReadBlocks.{blocks_kept}
use Rattle.h5_open.proofs.OpenedLaws.Sounds.{sound_tree}

-- ---- lists and slots

full_slot : (slot : Option (Option OpenedObject)) (o : OpenedObject) → option_flatten slot ≡ Some o → slot ≡ Some (Some o)
full_slot None o is = absurd (let never : None ≡ Some o = is in cc)
full_slot (Some None) o is = absurd (let never : None ≡ Some o = is in cc)
full_slot (Some (Some p)) o is = ap (λ (x : OpenedObject). Some (Some x)) (same_Some p o is)

some_slot : {X : Type 0} (f : OpenedObject → X) (slot : Option (Option OpenedObject)) → IsSome (option_map f (option_flatten slot)) → (o : OpenedObject) × (slot ≡ Some (Some o))
some_slot f None some = absurd (cc)
some_slot f (Some None) some = absurd (cc)
some_slot f (Some (Some o)) some = (o, refl)

-- a link of an object of a tree
link_of : (t : Tree) (n : ℕ) (o : Object) (links : Links) → get t n ≡ Some o → o.content ≡ Group links → (name : List ℕ) (l : Link) → get links name ≡ Some l → link_in t n name ≡ Some l
link_of t n o links at content name l found =
    ap (option_and_then (λ (ls : Links). get ls name)) (ap (option_and_then (λ (x : Object). links_in x.content)) at ∙ ap links_in content) ∙ found

content_inside : (image : List ℕ) (ms : List Message) (c : OpenedContent) → IsContentKept image ms c → Inside (length image) (content_blocks image ms c)
content_inside image ms (content.Group t) held = held.2.inside
content_inside image ms content.Array held = data_inside image (type_told ms) (layout_told ms) held.1

kept_inside : (image : List ℕ) (o : OpenedObject) → IsObjectKept image o → Inside (length image) (object_blocks image o)
kept_inside image o kept =
    all_append (λ (c : Block). c.at + c.len ≤ length image) o.messages.blocks (content_blocks image (messages_in image o.messages.list) o.content) kept.header.inside
    (content_inside image (messages_in image o.messages.list) o.content kept.content)

-- ---- the edit

module _ (old new : Space) (slots slots' : List (Option OpenedObject)) (numbers : BTreeMap ℕ ℕ) (opened : IsOpened old slots numbers) (tree' : Tree) (touched : ℕ → Bool)
    (good : IsSoundTree tree') (is : IsSlotsInPlace old new slots slots' (tree_of old.bytes slots) tree' touched) where
  abbrev table : FinMap nat_cmp ℕ
  table = table_of slots

  abbrev table' : FinMap nat_cmp ℕ
  table' = table_of slots'

  abbrev tree : Tree
  tree = tree_of old.bytes slots

  reads : ReadsAs old.bytes table tree opened.reads.0
  reads = opened.reads.1

  abbrev placing : ℕ → OpenedObject → Placed
  placing = step_place touched old.bytes new.bytes table tree'

  abbrev pub placed' : List Placed
  placed' = place_slots placing 0 slots'

  placed_is : opened.reads.0 ≡ place_slots (told_place old.bytes table) 0 slots
  placed_is = slots_placed old.bytes slots tree opened.reads.0 opened.each opened.reads.1

  -- ---- the new tree, by the slots

  got : (q : ℕ) → get tree' q ≡ option_map (λ (o : OpenedObject). (placing q o).object) (option_flatten (slice_get slots' q))
  got q = go (touched q) refl where
    here : touched q ≡ true → (found : Option OpenedObject) → option_flatten (slice_get slots' q) ≡ found → get tree' q ≡ option_map (λ (o : OpenedObject). (placing q o).object) found
    here is_touched None at = is.gone q is_touched at
    here is_touched (Some o) at =
        let its = is.remade q o is_touched (full_slot (slice_get slots' q) o at) in
        its.there
        ∙ sym (ap (λ (b : Bool). Some (cond b (tree_object tree' q (object_in old.bytes table o)) (object_in old.bytes table o))) is_touched
        ∙ ap (λ (found : Option Object). Some (option_map_or (λ (x : Object). x) found (object_in old.bytes table o))) its.there)

    there : touched q ≡ false → (found : Option OpenedObject) → option_map (object_in old.bytes table) found ≡ option_map (λ (o : OpenedObject). (placing q o).object) found
    there not_touched None = refl
    there not_touched (Some o) = sym (ap (λ (b : Bool). Some (cond b (tree_object tree' q (object_in old.bytes table o)) (object_in old.bytes table o))) not_touched)

    go : (b : Bool) → touched q ≡ b → get tree' q ≡ option_map (λ (o : OpenedObject). (placing q o).object) (option_flatten (slice_get slots' q))
    go true is_touched = here is_touched (option_flatten (slice_get slots' q)) refl
    go false not_touched =
        is.same q not_touched ∙ get_tree old.bytes slots q ∙ ap (option_map (object_in old.bytes table)) (sym (is.slots_moved.same q not_touched))
        ∙ there not_touched (option_flatten (slice_get slots' q))

  abbrev held : List (Option Object)
  held = step_objects touched old.bytes new.bytes table tree' 0 slots'

  objects_now : entries tree' ≡ map (λ (x : Placed). (x.number, x.object)) placed'
  objects_now =
      ap entries (same_map nat_cmp_total nat_cmp-IsAntisymmetric tree' _ (λ q.
      got q ∙ sym (step_found touched old.bytes new.bytes table tree' 0 q q slots' (omega arith)) ∙ sym (get_standing held q)))
      ∙ entries_standing held ∙ step_standing touched old.bytes new.bytes table tree' 0 slots'

  -- ---- headers stay

  some_now : (q : ℕ) → IsSome (get tree' q) → IsSome (get table' q)
  some_now q some =
      let slot = some_slot (λ (o : OpenedObject). (placing q o).object) (slice_get slots' q) (subst (λ (x : Option Object). IsSome x) (got q) some) in
      subst (λ (x : Option ℕ). IsSome x) (sym (header_at slots' q slot.0 slot.1)) refl

  header_stays : (q : ℕ) → IsSome (get tree q) → IsSome (get tree' q) → get table' q ≡ get table q
  header_stays q before now =
      let slot = some_slot (object_in old.bytes table) (slice_get slots q) (subst (λ (x : Option Object). IsSome x) (get_tree old.bytes slots q) before) in
      let at = header_at slots q slot.0 slot.1 in
      headers_stay slots slots' touched is.slots_moved q (header_of slot.0) at (some_now q now) ∙ sym at

  root_some : (t : Tree) → IsSome (links_of t 0) → IsSome (get t 0)
  root_some t some = go (get t 0) refl some where
    go : (x : Option Object) → get t 0 ≡ x → IsSome (option_and_then (λ (o : Object). links_in o.content) x) → IsSome x
    go None at there = absurd (cc)
    go (Some o) at there = refl

  root_stays : get table' 0 ≡ get table 0
  root_stays = header_stays 0 (root_some tree (sound_tree old slots numbers opened).rooted) (root_some tree' good.rooted)

  -- ---- objects that are not touched

  linked_still : (n : ℕ) (o : Object) (c : Content) → get tree n ≡ Some o → get tree' n ≡ Some o → o.content ≡ c → AreStillThere table table' c
  linked_still n o (Array d) before now content = tt
  linked_still n o (Group links) before now content = all_in (IsStillThere table table') (entries links) each where
    each : (l : List ℕ × Link) → In l (entries links) → IsStillThere table table' l
    each (name, Soft text) at = tt
    each (name, ToObject q) at =
        let found = get_of_entry nat_list_cmp_total links name (ToObject q) at in
        header_stays q ((sound_tree old slots numbers opened).linked n q name (link_of tree n o links before content name (ToObject q) found))
        (good.linked n q name (link_of tree' n o links now content name (ToObject q) found))

  left_of : (x : Placed) → In x (other_objects touched placed') → IsLeft table table' tree tree' x
  left_of x at =
      let there = filter_in (λ (y : Placed). not (touched y.number)) x placed' at in
      let place = from_slots placing 0 slots' x there.0 in
      let m = place.1 in
      let o = place.2 in
      let number : m ≡ x.number = ap (λ (y : Placed). y.number) place.5 in
      let not_touched : touched m ≡ false = ap touched number ∙ not-true (touched x.number) there.1 in
      let slot : slice_get slots' m ≡ Some (Some o) = let k : place.0 ≡ m = omega (arith, place.3) in ap (slice_get slots') (sym k) ∙ place.4 in
      let now : get tree' m ≡ Some (placing m o).object
      = got m ∙ ap (λ (s : Option (Option OpenedObject)). option_map (λ (p : OpenedObject). (placing m p).object) (option_flatten s)) slot in
      subst (IsLeft table table' tree tree') place.5 (record {
        linked = linked_still m (placing m o).object (placing m o).object.content (sym (is.same m not_touched) ∙ now) now refl;
        counts = is.counts m not_touched (subst (λ (y : Option Object). IsSome y) (sym now) refl);
      })

  -- ---- objects that are

  remade_of : (x : Placed) → In x (chosen_objects touched placed') → IsRemade new.bytes table' tree' x
  remade_of x at =
      let there = filter_in (λ (y : Placed). touched y.number) x placed' at in
      let place = from_slots placing 0 slots' x there.0 in
      let m = place.1 in
      let o = place.2 in
      let number : m ≡ x.number = ap (λ (y : Placed). y.number) place.5 in
      let is_touched : touched m ≡ true = ap touched number ∙ there.1 in
      let slot : slice_get slots' m ≡ Some (Some o) = let k : place.0 ≡ m = omega (arith, place.3) in ap (slice_get slots') (sym k) ∙ place.4 in
      let its = is.remade m o is_touched slot in
      subst (IsRemade new.bytes table' tree') place.5 (record {
        made = record {
          there = subst (λ (b : Bool). HasObject new.bytes table' (header_of o) (cond b (tree_object tree' m (object_in old.bytes table o)) (object_in old.bytes table o)) (cond b (object_blocks new.bytes o) (object_blocks old.bytes o)))
              (sym is_touched)
              (subst (λ (found : Option Object). HasObject new.bytes table' (header_of o) (option_map_or (λ (y : Object). y) found (object_in old.bytes table o)) (object_blocks new.bytes o)) (sym its.there)
              (subst (HasObject new.bytes table' (header_of o) its.object) (sym (blocks_kept new.bytes table' o its.object its.blocks its.kept its.has)) its.has));
          counted = its.counted;
        };
        inside = subst (λ (b : Bool). Inside (length new.bytes) (cond b (object_blocks new.bytes o) (object_blocks old.bytes o))) (sym is_touched) (kept_inside new.bytes o its.kept);
      })

  -- ---- so the reading is edited in place

  pub slots_in_place : IsInPlace old new table table' tree tree' opened.reads.0 placed' touched
  slots_in_place = record {
    moves = moves_same old new (end_field old.bytes ∷ slot_blocks old.bytes touched slots) (end_field new.bytes ∷ slot_blocks new.bytes touched slots')
        (end_field old.bytes ∷ touched_blocks touched opened.reads.0) (end_field new.bytes ∷ touched_blocks touched placed')
        (λ p. ap (λ (bs : List Block). cover p (end_field old.bytes ∷ bs)) (ap (touched_blocks touched) placed_is ∙ told_touched touched old.bytes new.bytes table tree' 0 slots))
        (λ p. ap (λ (bs : List Block). cover p (end_field new.bytes ∷ bs)) (step_touched touched old.bytes new.bytes table tree' 0 slots')) is.moves;
    end = is.end;
    small = is.small;
    root = root_stays;
    numbered = table_entries slots' ∙ step_headers touched old.bytes new.bytes table tree' 0 slots';
    objects = objects_now;
    others = others_stay touched old.bytes new.bytes table tree' slots' slots is.slots_moved.same ∙ ap (other_objects touched) (sym placed_is);
    left = all_in (IsLeft table table' tree tree') (other_objects touched placed') left_of;
    remade = all_in (IsRemade new.bytes table' tree') (chosen_objects touched placed') remade_of;
  }

-- the image is opened as it is now
pub slots_opened : (old new : Space) (slots slots' : List (Option OpenedObject)) (numbers numbers' : BTreeMap ℕ ℕ) (opened : IsOpened old slots numbers) (tree' : Tree) (touched : ℕ → Bool)
    → IsSoundTree tree' → IsSlotsInPlace old new slots slots' (tree_of old.bytes slots) tree' touched → IsIndex (table_of slots') numbers' → IsOpened new slots' numbers'
slots_opened old new slots slots' numbers numbers' opened tree' touched good is index =
    opened_step old new slots slots' numbers numbers' opened tree' (placed' old new slots slots' numbers opened tree' touched good is) touched
    (slots_in_place old new slots slots' numbers opened tree' touched good is) good is.slots_moved (λ n o is_touched at. (is.remade n o is_touched at).kept) index

-- and it is changed in place
pub slots_changed : (old new : Space) (slots slots' : List (Option OpenedObject)) (numbers numbers' : BTreeMap ℕ ℕ) (opened : IsOpened old slots numbers) (tree' : Tree) (touched : List ℕ) (bytes : ℕ)
    → IsSoundTree tree' → IsSlotsInPlace old new slots slots' (tree_of old.bytes slots) tree' (is_among touched) → IsIndex (table_of slots') numbers'
    → length new.bytes ≤ length old.bytes + bytes → IsChangedInPlace (opened_state old slots) (opened_state new slots') tree' (length slots') touched bytes
slots_changed old new slots slots' numbers numbers' opened tree' touched bytes good is index room =
    changed_step old new slots slots' numbers numbers' opened tree' (placed' old new slots slots' numbers opened tree' (is_among touched) good is) touched
    (slots_in_place old new slots slots' numbers opened tree' (is_among touched) good is) good is.slots_moved (λ n o is_touched at. (is.remade n o is_touched at).kept) index bytes room

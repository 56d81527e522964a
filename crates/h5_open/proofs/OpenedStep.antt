-- An opened image that was edited in place, where some of its objects were touched: what is kept of the others is kept still, and with
-- what is kept of those that were touched the image is opened as it is now.
use Rattle.std.proofs.Common.{◌≡◌, inl, inr, ℕ, ◌+◌, ◌<◌, ◌≤◌, Bool, true, false, List, ◌∷◌, length, refl, sym, ap, ◌∙◌, subst, arith, Option, Some, None, IsSome}
use Rattle.std.specs.Prelude.{slice_get, option_map}
use Rattle.std.specs.Option.{option_flatten}
use Rattle.std.specs.Ordering.{nat_cmp}
use Rattle.std.specs.BTreeMap.{BTreeMap}
use Rattle.std.specs.FinMap.{FinMap, get}
use Rattle.std.specs.List.{AllByRecursion}
use Rattle.std.specs.Cmp.{nat_cmp_total}
use Rattle.std.proofs.lemmas.Option.{same_Some, slice_get_within}
use Rattle.h5_bytes.specs.Bytes.{byte_at}
use Rattle.h5_bytes.specs.Blocks.{cover, Keeps}
use Rattle.h5_bytes.specs.declared.Block.{Block}
use Rattle.h5_model.specs.Format.Reads.{Placed, IsPlaced, Reads, ReadsAs, HasObject, all_blocks}
use Rattle.h5_model.specs.Format.Superblock.{k_values, end_field}
use Rattle.h5_model.specs.Tree.Objects.{Tree}
use Rattle.h5_space.specs.Space.{Space}
use Rattle.h5_space.specs.Whole.{IsApart}
use Rattle.h5_laws.specs.Trees.Sound.{IsSoundTree}
use Rattle.h5_laws.proofs.Lists.{In, in_all, all_in, in_map, stands_at}
use Rattle.h5_laws.proofs.Maps.{get_of_entry}
use Rattle.h5_laws.proofs.InPlace.OneBlocks.{one_placing}
use Rattle.h5_laws.proofs.InPlace.StillThere.{kept_each}
use Rattle.h5_laws.proofs.SoundLaws.Read.{placed_at}
use Rattle.h5_open.specs.declared.opened.object.OpenedObject.{OpenedObject}
use Rattle.h5_open.specs.ChangedInPlace.{AreSlotsMoved, IsChangedInPlace, is_among}
use Rattle.h5_open.specs.InPlace.{other_objects, touched_blocks, IsInPlace}
use Rattle.h5_open.specs.Opened.Kept.{IsIndex, IsOpened, IsObjectKept}
use Rattle.h5_open.specs.Opened.Objects.{header_of, objects_of, object_blocks, object_in, table_of, tree_of}
use Rattle.h5_open.specs.Opened.Sound.{IsSound, IsWholeFile}
use Rattle.h5_open.specs.Opened.State.{opened_state}
use Rattle.h5_open.proofs.InPlaceLaws.{in_others, in_place_apart, in_place_local, in_place_reads, in_place_whole, k_stays, keeps}
use Rattle.h5_open.proofs.KeptFrames.{kept-same}
use Rattle.h5_open.proofs.OpenedLaws.Entries.{get_table, slot_of}
use Rattle.h5_open.proofs.OpenedLaws.ReadBlocks.{blocks_kept, opened_all}
use Rattle.h5_open.proofs.OpenedLaws.Sounds.{from_objects, object_of, sound}
use Rattle.h5_open.proofs.RenumberedLaws.SameTree.{same_tree}

-- a slot that is the same but for where the list ends
slot_same : (slots slots' : List (Option OpenedObject)) (n : ℕ) (o : OpenedObject) → option_flatten (slice_get slots' n) ≡ option_flatten (slice_get slots n)
    → slice_get slots' n ≡ Some (Some o) → slice_get slots n ≡ Some (Some o)
slot_same slots slots' n o same at = go (slice_get slots n) (sym same ∙ ap option_flatten at) where
  go : (found : Option (Option OpenedObject)) → option_flatten found ≡ Some o → found ≡ Some (Some o)
  go None is = absurd (let never : None ≡ Some o = is in cc)
  go (Some None) is = absurd (let never : None ≡ Some o = is in cc)
  go (Some (Some p)) is = ap (λ (x : OpenedObject). Some (Some x)) (same_Some p o is)

-- the header of what a slot has
pub header_at : (ss : List (Option OpenedObject)) (n : ℕ) (o : OpenedObject) → slice_get ss n ≡ Some (Some o) → get (table_of ss) n ≡ Some (header_of o)
header_at ss n o at = get_table ss n ∙ ap (λ (s : Option (Option OpenedObject)). option_map header_of (option_flatten s)) at

-- ---- the header of an object that stays

module _ (slots slots' : List (Option OpenedObject)) (touched : ℕ → Bool) (moved : AreSlotsMoved slots slots' touched) where
  -- an object that was given out before has the slot that it had
  slot_was : (n : ℕ) (o' : OpenedObject) → n < length slots → slice_get slots' n ≡ Some (Some o')
      → (o : OpenedObject) × (slice_get slots n ≡ Some (Some o)) × (header_of o' ≡ header_of o)
  slot_was n o' low at = go (touched n) refl where
    go : (b : Bool) → touched n ≡ b → (o : OpenedObject) × (slice_get slots n ≡ Some (Some o)) × (header_of o' ≡ header_of o)
    go true is = moved.remains n o' is low at
    go false is = (o', slot_same slots slots' n o' (moved.same n is) at, refl)

  slot_some : (n : ℕ) → IsSome (get (table_of slots') n) → (o' : OpenedObject) × (slice_get slots' n ≡ Some (Some o'))
  slot_some n some = go (get (table_of slots') n) refl some where
    go : (found : Option ℕ) → get (table_of slots') n ≡ found → IsSome found → (o' : OpenedObject) × (slice_get slots' n ≡ Some (Some o'))
    go None is there = absurd (cc)
    go (Some h) is there = let slot = slot_of slots' n h is in (slot.0, slot.1)

  pub headers_stay : (n h : ℕ) → get (table_of slots) n ≡ Some h → IsSome (get (table_of slots') n) → get (table_of slots') n ≡ Some h
  headers_stay n h at some =
      let was = slot_of slots n h at in
      let now = slot_some n some in
      let before = slot_was n now.0 (slice_get_within slots n (Some was.0) was.1) now.1 in
      let one : was.0 ≡ before.0 = same_Some was.0 before.0 (same_Some (Some was.0) (Some before.0) (sym was.1 ∙ before.1)) in
      header_at slots' n now.0 now.1 ∙ ap (λ (x : ℕ). Some x) (before.2 ∙ ap header_of (sym one) ∙ was.2)

  given_stays : (n : ℕ) → n < length slots → IsSome (get (table_of slots') n) → IsSome (get (table_of slots) n)
  given_stays n low some =
      let now = slot_some n some in
      let before = slot_was n now.0 low now.1 in
      subst (λ (x : Option ℕ). IsSome x) (sym (header_at slots n before.0 before.1)) refl

-- ---- the step

module _ (old new : Space) (slots slots' : List (Option OpenedObject)) (numbers numbers' : BTreeMap ℕ ℕ) (opened : IsOpened old slots numbers) (tree' : Tree) (placed' : List Placed)
    (touched : ℕ → Bool) (is : IsInPlace old new (table_of slots) (table_of slots') (tree_of old.bytes slots) tree' opened.reads.0 placed' touched) (good : IsSoundTree tree')
    (moved : AreSlotsMoved slots slots' touched) (kept : (n : ℕ) (o : OpenedObject) → touched n ≡ true → slice_get slots' n ≡ Some (Some o) → IsObjectKept new.bytes o)
    (index : IsIndex (table_of slots') numbers') where
  abbrev table : FinMap nat_cmp ℕ
  table = table_of slots

  abbrev table' : FinMap nat_cmp ℕ
  table' = table_of slots'

  abbrev tree : Tree
  tree = tree_of old.bytes slots

  abbrev placed : List Placed
  placed = opened.reads.0

  reads : ReadsAs old.bytes table tree placed
  reads = opened.reads.1

  apart_was : IsApart (all_blocks old.bytes placed) old.free (length old.bytes)
  apart_was = subst (λ (bs : List Block). IsApart bs old.free (length old.bytes)) (opened_all old.bytes slots tree placed opened.each opened.reads.1) opened.apart

  -- an object that is not touched keeps its bytes
  bytes_stay : (n : ℕ) (o : OpenedObject) → touched n ≡ false → slice_get slots n ≡ Some (Some o) → Keeps old.bytes new.bytes (object_blocks old.bytes o)
  bytes_stay n o not_touched at =
      let of = object_of old slots numbers opened n o at in
      let x = placed_at old.bytes table tree placed reads n (object_in old.bytes table o) of.there in
      let here = get_of_entry nat_cmp_total table (x.0).number (x.0).header
      (subst (In ((x.0).number, (x.0).header)) (sym reads.holds.numbered) (in_map (λ (y : Placed). (y.number, y.header)) x.0 placed x.1)) in
      let header : (x.0).header ≡ o.messages.header = same_Some (x.0).header o.messages.header (sym here ∙ ap (get table) x.2 ∙ of.header) in
      let has : HasObject old.bytes table (x.0).header (x.0).object (x.0).blocks = in_all (IsPlaced old.bytes table) x.0 placed reads.holds.each x.1 in
      let blocks : object_blocks old.bytes o ≡ (x.0).blocks
      = blocks_kept old.bytes table o (x.0).object (x.0).blocks of.kept (subst (λ (h : ℕ). HasObject old.bytes table h (x.0).object (x.0).blocks) header has) in
      let stays = keeps old new table table' tree tree' placed placed' touched reads apart_was is in
      subst (Keeps old.bytes new.bytes) (sym blocks)
      (kept_each old.bytes new.bytes (other_objects touched placed) x.0 stays.1.1 (in_others touched x.0 placed x.1 (ap touched x.2 ∙ not_touched)))

  k_same : k_values new.bytes ≡ k_values old.bytes
  k_same = k_stays old new table table' tree tree' placed placed' touched reads apart_was is

  -- what is kept of an object stands in the new image
  slot_kept : (n : ℕ) (o : OpenedObject) → slice_get slots' n ≡ Some (Some o) → IsObjectKept new.bytes o
  slot_kept n o at = go (touched n) refl where
    go : (b : Bool) → touched n ≡ b → IsObjectKept new.bytes o
    go true is_touched = kept n o is_touched at
    go false not_touched =
        let was = slot_same slots slots' n o (moved.same n not_touched) at in
        kept-same old.bytes new.bytes k_same is.moves.grown o (object_of old slots numbers opened n o was).kept (bytes_stay n o not_touched was)

  each : AllByRecursion (IsObjectKept new.bytes) (objects_of slots')
  each = all_in (IsObjectKept new.bytes) (objects_of slots') (λ o member.
      let stands = stands_at (Some o) slots' (from_objects slots' o member) in
      slot_kept stands.0 o stands.1)

  reads' : ReadsAs new.bytes table' tree' placed'
  reads' = in_place_reads old new table table' tree tree' placed placed' touched reads apart_was is good

  tree_now : tree_of new.bytes slots' ≡ tree'
  tree_now = same_tree new.bytes slots' tree' each (placed', reads')

  -- the image is one that was opened
  pub opened_step : IsOpened new slots' numbers'
  opened_step = record {
    reads = subst (Reads new.bytes table') (sym tree_now) (placed', reads');
    each = each;
    index = index;
    low = moved.few;
    apart = subst (λ (bs : List Block). IsApart bs new.free (length new.bytes)) (sym (opened_all new.bytes slots' tree' placed' each reads'))
        (in_place_apart old new table table' tree tree' placed placed' touched reads apart_was is);
  }

  -- ---- what that is to callers

  sound_now : IsSound (opened_state new slots')
  sound_now = sound new slots' numbers' opened_step

  -- nothing leaks where nothing leaked
  whole_now : IsWholeFile (opened_state old slots) → IsWholeFile (opened_state new slots')
  whole_now whole =
      let one : whole.placed ≡ placed = one_placing old.bytes table tree tree whole.placed placed whole.reads reads in
      record {
        placed = placed';
        reads = subst (λ (t : Tree). ReadsAs new.bytes table' t placed') (sym tree_now) reads';
        covered = in_place_whole old new table table' tree tree' placed placed' touched reads apart_was is
            (λ p. ap (λ (xs : List Placed). cover p (all_blocks old.bytes xs) + cover p old.free) (sym one) ∙ whole.covered p);
      }

  others_now : (xs ys : List Placed) → ReadsAs old.bytes table tree xs → ReadsAs new.bytes table' (tree_of new.bytes slots') ys → other_objects touched ys ≡ other_objects touched xs
  others_now xs ys was now =
      ap (other_objects touched) (one_placing new.bytes table' (tree_of new.bytes slots') tree' ys placed' now reads') ∙ is.others
      ∙ ap (other_objects touched) (one_placing old.bytes table tree tree placed xs reads was)

  local_now : (xs : List Placed) → ReadsAs old.bytes table tree xs → (p : ℕ) → p < length old.bytes
      → cover p (end_field old.bytes ∷ touched_blocks touched xs) ≡ 0 → 1 ≤ cover p (all_blocks old.bytes xs) → byte_at new.bytes p ≡ byte_at old.bytes p
  local_now xs was p low untouched used =
      let one : xs ≡ placed = one_placing old.bytes table tree tree xs placed was reads in
      let mine = ap (λ (zs : List Placed). cover p (end_field old.bytes ∷ touched_blocks touched zs)) one in
      let all = ap (λ (zs : List Placed). cover p (all_blocks old.bytes zs)) one in
      elim (in_place_local old new table table' tree tree' placed placed' touched reads apart_was is p low) [
        | inl same ↦ same
        | inr (inl here) ↦ absurd (omega (arith, here, mine, untouched))
        | inr (inr none) ↦ absurd (omega (arith, none, all, used))
      ]

-- so it is changed in place
pub changed_step : (old new : Space) (slots slots' : List (Option OpenedObject)) (numbers numbers' : BTreeMap ℕ ℕ) (opened : IsOpened old slots numbers) (tree' : Tree)
    (placed' : List Placed) (touched : List ℕ)
    (is : IsInPlace old new (table_of slots) (table_of slots') (tree_of old.bytes slots) tree' opened.reads.0 placed' (is_among touched)) (good : IsSoundTree tree')
    (moved : AreSlotsMoved slots slots' (is_among touched)) (kept : (n : ℕ) (o : OpenedObject) → is_among touched n ≡ true → slice_get slots' n ≡ Some (Some o) → IsObjectKept new.bytes o)
    (index : IsIndex (table_of slots') numbers') (bytes : ℕ) → length new.bytes ≤ length old.bytes + bytes
    → IsChangedInPlace (opened_state old slots) (opened_state new slots') tree' (length slots') touched bytes
changed_step old new slots slots' numbers numbers' opened tree' placed' touched is good moved kept index bytes room = record {
  state = (tree_now old new slots slots' numbers numbers' opened tree' placed' (is_among touched) is good moved kept index, refl);
  sound = sound_now old new slots slots' numbers numbers' opened tree' placed' (is_among touched) is good moved kept index;
  whole = whole_now old new slots slots' numbers numbers' opened tree' placed' (is_among touched) is good moved kept index;
  k = k_same old new slots slots' numbers numbers' opened tree' placed' (is_among touched) is good moved kept index;
  headers = headers_stay slots slots' (is_among touched) moved;
  given = given_stays slots slots' (is_among touched) moved;
  more = moved.more;
  others = others_now old new slots slots' numbers numbers' opened tree' placed' (is_among touched) is good moved kept index;
  local = local_now old new slots slots' numbers numbers' opened tree' placed' (is_among touched) is good moved kept index;
  grown = (is.moves.grown, room);
}

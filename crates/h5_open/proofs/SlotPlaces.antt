-- The objects of slots as a reading places them, by their numbers; and what of them is touched.
use Rattle.std.proofs.Common.{◌≡◌, inl, inr, ℕ, zero, suc, ◌+◌, Bool, true, false, cond, List, [], ◌∷◌, ◌++◌, map, refl, sym, ap, ap₂, ◌∙◌, subst, arith, Option, Some, None}
use Rattle.std.specs.Prelude.{option_map, slice_get}
use Rattle.std.specs.Option.{option_flatten, option_map_or}
use Rattle.std.specs.Ordering.{nat_cmp}
use Rattle.std.specs.FinMap.{FinMap, get}
use Rattle.std.specs.List.{AllByRecursion, flat_map}
use Rattle.h5_bytes.specs.declared.Block.{Block}
use Rattle.h5_model.specs.Format.Reads.{Placed, HasObject, IsPlaced, ReadsAs}
use Rattle.h5_model.specs.Tree.Objects.{Tree, Object}
use Rattle.h5_model.proofs.OneReading.{where_of, first_or}
use Rattle.std.proofs.Common.{drop}
use Rattle.h5_laws.proofs.Lists.{In}
use Rattle.h5_open.specs.declared.opened.object.OpenedObject.{OpenedObject}
use Rattle.h5_open.specs.InPlace.{other_objects, touched_blocks}
use Rattle.h5_open.specs.Opened.Kept.{IsObjectKept}
use Rattle.h5_open.specs.Opened.Objects.{header_of, objects_of, object_blocks, object_in, numbered_objects, table_of}
use Rattle.h5_open.specs.SlotsInPlace.{chosen_slots}
use Rattle.h5_open.proofs.OpenedLaws.Entries.{table_entries}
use Rattle.h5_open.proofs.OpenedLaws.ReadBlocks.{blocks_kept}
use Rattle.h5_open.proofs.RenumberedLaws.SameTree.{object_is}

-- each object placed by its number, in slots that are numbered from n on
abbrev pub place_slots : (ℕ → OpenedObject → Placed) → ℕ → List (Option OpenedObject) → List Placed
place_slots f n [] = []
place_slots f n (None ∷ slots) = place_slots f (n + 1) slots
place_slots f n (Some o ∷ slots) = f n o ∷ place_slots f (n + 1) slots

-- as an image and a table tell it
abbrev pub told_place : List ℕ → FinMap nat_cmp ℕ → ℕ → OpenedObject → Placed
told_place image table n o = record { number = n; header = header_of o; object = object_in image table o; blocks = object_blocks image o }

-- the object of a number, or another where there is none
abbrev pub tree_object : Tree → ℕ → Object → Object
tree_object tree n other = option_map_or (λ o. o) (get tree n) other

-- where it is touched as the new image and the new tree tell it, else as the old ones did
abbrev pub step_place : (ℕ → Bool) → List ℕ → List ℕ → FinMap nat_cmp ℕ → Tree → ℕ → OpenedObject → Placed
step_place touched old new table tree' n o = record {
  number = n;
  header = header_of o;
  object = cond (touched n) (tree_object tree' n (object_in old table o)) (object_in old table o);
  blocks = cond (touched n) (object_blocks new o) (object_blocks old o);
}

-- a place is that of a slot
abbrev pub IsPlaceOf : (ℕ → OpenedObject → Placed) → ℕ → List (Option OpenedObject) → Placed → Type 0
IsPlaceOf f n slots x = (k : ℕ) × (m : ℕ) × (o : OpenedObject) × (n + k ≡ m) × (slice_get slots k ≡ Some (Some o)) × (f m o ≡ x)

module _ (f : ℕ → OpenedObject → Placed) where
  pub from_slots : (n : ℕ) (slots : List (Option OpenedObject)) (x : Placed) → In x (place_slots f n slots) → IsPlaceOf f n slots x
  from_slots n [] x at = absurd at
  from_slots n (None ∷ slots) x at = let more = from_slots (n + 1) slots x at in (suc more.0, more.1, more.2, omega (arith, more.3), more.4, more.5)
  from_slots n (Some o ∷ slots) x (inl e) = (zero, n, o, omega arith, refl, e)
  from_slots n (Some o ∷ slots) x (inr at) = let more = from_slots (n + 1) slots x at in (suc more.0, more.1, more.2, omega (arith, more.3), more.4, more.5)

-- ---- where they stand, and what they are

module _ (touched : ℕ → Bool) (old new : List ℕ) (table : FinMap nat_cmp ℕ) (tree' : Tree) where
  abbrev placing : ℕ → OpenedObject → Placed
  placing = step_place touched old new table tree'

  pub step_headers : (n : ℕ) (slots : List (Option OpenedObject)) → numbered_objects n (map (option_map header_of) slots) ≡ map (λ (x : Placed). (x.number, x.header)) (place_slots placing n slots)
  step_headers n [] = refl
  step_headers n (None ∷ slots) = step_headers (n + 1) slots
  step_headers n (Some o ∷ slots) = ap (λ (es : List (ℕ × ℕ)). (n, header_of o) ∷ es) (step_headers (n + 1) slots)

  -- what each slot has, by its number
  abbrev pub step_objects : ℕ → List (Option OpenedObject) → List (Option Object)
  step_objects n [] = []
  step_objects n (slot ∷ slots) = option_map (λ (o : OpenedObject). (placing n o).object) slot ∷ step_objects (n + 1) slots

  pub step_standing : (n : ℕ) (slots : List (Option OpenedObject)) → numbered_objects n (step_objects n slots) ≡ map (λ (x : Placed). (x.number, x.object)) (place_slots placing n slots)
  step_standing n [] = refl
  step_standing n (None ∷ slots) = step_standing (n + 1) slots
  step_standing n (Some o ∷ slots) = ap (λ (es : List (ℕ × Object)). (n, (placing n o).object) ∷ es) (step_standing (n + 1) slots)

  pub step_found : (n k m : ℕ) (slots : List (Option OpenedObject)) → n + k ≡ m
      → option_flatten (slice_get (step_objects n slots) k) ≡ option_map (λ (o : OpenedObject). (placing m o).object) (option_flatten (slice_get slots k))
  step_found n k m [] is = refl
  step_found n zero m (None ∷ slots) is = refl
  step_found n zero m (Some o ∷ slots) is = let same : n ≡ m = omega (arith, is) in ap (λ (q : ℕ). Some (placing q o).object) same
  step_found n (suc k) m (slot ∷ slots) is = step_found (n + 1) k m slots (omega (arith, is))

  -- ---- what is touched

  pub step_touched : (n : ℕ) (slots : List (Option OpenedObject)) → touched_blocks touched (place_slots placing n slots) ≡ flat_map (object_blocks new) (chosen_slots touched n slots)
  step_touched n [] = refl
  step_touched n (None ∷ slots) = step_touched (n + 1) slots
  step_touched n (Some o ∷ slots) = go (touched n) refl (step_touched (n + 1) slots) where
    go : (b : Bool) → touched n ≡ b → touched_blocks touched (place_slots placing (n + 1) slots) ≡ flat_map (object_blocks new) (chosen_slots touched (n + 1) slots)
        → touched_blocks touched (place_slots placing n (Some o ∷ slots)) ≡ flat_map (object_blocks new) (chosen_slots touched n (Some o ∷ slots))
    go true is more = rw is (ap (λ (bs : List Block). object_blocks new o ++ bs) more)
    go false is more = rw is more

  pub told_touched : (n : ℕ) (slots : List (Option OpenedObject)) → touched_blocks touched (place_slots (told_place old table) n slots) ≡ flat_map (object_blocks old) (chosen_slots touched n slots)
  told_touched n [] = refl
  told_touched n (None ∷ slots) = told_touched (n + 1) slots
  told_touched n (Some o ∷ slots) = go (touched n) refl (told_touched (n + 1) slots) where
    go : (b : Bool) → touched n ≡ b → touched_blocks touched (place_slots (told_place old table) (n + 1) slots) ≡ flat_map (object_blocks old) (chosen_slots touched (n + 1) slots)
        → touched_blocks touched (place_slots (told_place old table) n (Some o ∷ slots)) ≡ flat_map (object_blocks old) (chosen_slots touched n (Some o ∷ slots))
    go true is more = rw is (ap (λ (bs : List Block). object_blocks old o ++ bs) more)
    go false is more = rw is more

  -- ---- what is not

  abbrev others_from : ℕ → List (Option OpenedObject) → List Placed
  others_from n [] = []
  others_from n (None ∷ slots) = others_from (n + 1) slots
  others_from n (Some o ∷ slots) = cond (touched n) (others_from (n + 1) slots) (told_place old table n o ∷ others_from (n + 1) slots)

  step_others : (n : ℕ) (slots : List (Option OpenedObject)) → other_objects touched (place_slots placing n slots) ≡ others_from n slots
  step_others n [] = refl
  step_others n (None ∷ slots) = step_others (n + 1) slots
  step_others n (Some o ∷ slots) = go (touched n) refl (step_others (n + 1) slots) where
    go : (b : Bool) → touched n ≡ b → other_objects touched (place_slots placing (n + 1) slots) ≡ others_from (n + 1) slots
        → other_objects touched (place_slots placing n (Some o ∷ slots)) ≡ others_from n (Some o ∷ slots)
    go true is more = rw is more
    go false is more = rw is (ap (λ (xs : List Placed). told_place old table n o ∷ xs) more)

  told_others : (n : ℕ) (slots : List (Option OpenedObject)) → other_objects touched (place_slots (told_place old table) n slots) ≡ others_from n slots
  told_others n [] = refl
  told_others n (None ∷ slots) = told_others (n + 1) slots
  told_others n (Some o ∷ slots) = go (touched n) refl (told_others (n + 1) slots) where
    go : (b : Bool) → touched n ≡ b → other_objects touched (place_slots (told_place old table) (n + 1) slots) ≡ others_from (n + 1) slots
        → other_objects touched (place_slots (told_place old table) n (Some o ∷ slots)) ≡ others_from n (Some o ∷ slots)
    go true is more = rw is more
    go false is more = rw is (ap (λ (xs : List Placed). told_place old table n o ∷ xs) more)

  -- slots that are the same but for those that are touched

  abbrev first_from : ℕ → Option OpenedObject → List Placed → List Placed
  first_from n None xs = xs
  first_from n (Some o) xs = cond (touched n) xs (told_place old table n o ∷ xs)

  first_same : (n : ℕ) (a b : Option OpenedObject) (xs ys : List Placed) → (touched n ≡ false → a ≡ b) → xs ≡ ys → first_from n a xs ≡ first_from n b ys
  first_same n a b xs ys same more = go (touched n) refl where
    none : (slot : Option OpenedObject) (zs : List Placed) → touched n ≡ true → first_from n slot zs ≡ zs
    none None zs is = refl
    none (Some o) zs is = rw is refl

    go : (t : Bool) → touched n ≡ t → first_from n a xs ≡ first_from n b ys
    go true is = none a xs is ∙ more ∙ sym (none b ys is)
    go false is = ap₂ (λ (s : Option OpenedObject) (zs : List Placed). first_from n s zs) (same is) more

  others_step : (n : ℕ) (slot : Option OpenedObject) (slots : List (Option OpenedObject)) → others_from n (slot ∷ slots) ≡ first_from n slot (others_from (n + 1) slots)
  others_step n None slots = refl
  others_step n (Some o) slots = refl

  others_same : (n : ℕ) (slots' slots : List (Option OpenedObject)) → ((k m : ℕ) → n + k ≡ m → touched m ≡ false → option_flatten (slice_get slots' k) ≡ option_flatten (slice_get slots k))
      → others_from n slots' ≡ others_from n slots
  others_same n [] [] same = refl
  others_same n (a ∷ slots') [] same =
      others_step n a slots'
      ∙ first_same n a None (others_from (n + 1) slots') [] (λ is. same zero n (omega arith) is) (others_same (n + 1) slots' [] (λ k m e is. same (suc k) m (omega (arith, e)) is))
  others_same n [] (b ∷ slots) same =
      sym (others_step n b slots
      ∙ first_same n b None (others_from (n + 1) slots) [] (λ is. sym (same zero n (omega arith) is)) (sym (others_same (n + 1) [] slots (λ k m e is. same (suc k) m (omega (arith, e)) is))))
  others_same n (a ∷ slots') (b ∷ slots) same =
      others_step n a slots'
      ∙ first_same n a b (others_from (n + 1) slots') (others_from (n + 1) slots) (λ is. same zero n (omega arith) is)
      (others_same (n + 1) slots' slots (λ k m e is. same (suc k) m (omega (arith, e)) is))
      ∙ sym (others_step n b slots)

  pub others_stay : (slots' slots : List (Option OpenedObject)) → ((n : ℕ) → touched n ≡ false → option_flatten (slice_get slots' n) ≡ option_flatten (slice_get slots n))
      → other_objects touched (place_slots placing 0 slots') ≡ other_objects touched (place_slots (told_place old table) 0 slots)
  others_stay slots' slots same =
      step_others 0 slots'
      ∙ others_same 0 slots' slots (λ k m e is. let one : k ≡ m = omega (arith, e) in same k (ap touched one ∙ is))
      ∙ sym (told_others 0 slots)

-- ---- a reading places them so

placed_from_slots : (image : List ℕ) (table : FinMap nat_cmp ℕ) → ((a b h : ℕ) → get table a ≡ Some h → get table b ≡ Some h → a ≡ b) → (n : ℕ) (slots : List (Option OpenedObject))
    (placed : List Placed) → numbered_objects n (map (option_map header_of) slots) ≡ map where_of placed → AllByRecursion (IsObjectKept image) (objects_of slots)
    → AllByRecursion (IsPlaced image table) placed → placed ≡ place_slots (told_place image table) n slots
placed_from_slots image table own n [] [] keys kept each = refl
placed_from_slots image table own n [] (x ∷ placed) keys kept each = cc
placed_from_slots image table own n (None ∷ slots) placed keys kept each = placed_from_slots image table own (n + 1) slots placed keys kept each
placed_from_slots image table own n (Some p ∷ slots) [] keys kept each = cc
placed_from_slots image table own n (Some p ∷ slots) (x ∷ placed) keys kept each =
    let number : n ≡ x.number = ap (λ (ks : List (ℕ × ℕ)). (first_or ks).0) keys in
    let header : p.messages.header ≡ x.header = ap (λ (ks : List (ℕ × ℕ)). (first_or ks).1) keys in
    let rest : numbered_objects (n + 1) (map (option_map header_of) slots) ≡ map where_of placed = ap (λ (ks : List (ℕ × ℕ)). drop 1 ks) keys in
    let here : HasObject image table p.messages.header x.object x.blocks
    = subst (λ (h : ℕ). HasObject image table h x.object x.blocks) (sym header) each.0 in
    let object : object_in image table p ≡ x.object = object_is image table own p x.object x.blocks kept.0 here in
    let blocks : object_blocks image p ≡ x.blocks = blocks_kept image table p x.object x.blocks kept.0 here in
    let first : x ≡ told_place image table n p = sym (λ i. record { number = number i; header = header i; object = object i; blocks = blocks i }) in
    ap₂ (λ (y : Placed) (ys : List Placed). y ∷ ys) first (placed_from_slots image table own (n + 1) slots placed rest kept.1 each.1)

pub slots_placed : (image : List ℕ) (slots : List (Option OpenedObject)) (tree : Tree) (placed : List Placed) → AllByRecursion (IsObjectKept image) (objects_of slots)
    → ReadsAs image (table_of slots) tree placed → placed ≡ place_slots (told_place image (table_of slots)) 0 slots
slots_placed image slots tree placed kept reads =
    placed_from_slots image (table_of slots) reads.holds.own 0 slots placed (sym (table_entries slots) ∙ reads.holds.numbered) kept reads.holds.each

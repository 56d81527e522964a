-- Slots with empty ones behind them tell the same.
use Rattle.std.proofs.Common.{◌≡◌, ℕ, zero, suc, ◌+◌, ◌≤◌, List, [], ◌∷◌, ◌++◌, length, length-append, map, replicate, refl, sym, ap, ◌∙◌, subst, arith, Option, Some, None}
use Rattle.std.specs.Prelude.{option_map}
use Rattle.std.specs.List.{AllByRecursion}
use Rattle.std.specs.Ordering.{nat_cmp}
use Rattle.std.specs.BTreeMap.{BTreeMap}
use Rattle.std.specs.FinMap.{FinMap, from_entries}
use Rattle.std.proofs.lemmas.List.{length-replicate}
use Rattle.h5_model.specs.Format.Limits.{most_numbers}
use Rattle.h5_model.specs.Format.Reads.{Reads}
use Rattle.h5_model.specs.Tree.Objects.{Object}
use Rattle.h5_space.specs.Space.{Space}
use Rattle.h5_space.specs.Whole.{IsApart}
use Rattle.h5_open.specs.declared.opened.object.OpenedObject.{OpenedObject}
use Rattle.h5_open.specs.Opened.Kept.{IsOpened, IsIndex, IsObjectKept}
use Rattle.h5_open.specs.Opened.Objects.{header_of, object_in, objects_of, opened_blocks, numbered_objects, table_of, tree_of}

nones_stand : {X : Type 0} (n k : ℕ) → numbered_objects {X = X} n (replicate k None) ≡ []
nones_stand n zero = refl
nones_stand n (suc k) = nones_stand (n + 1) k

standing_grown : {X : Type 0} (n : ℕ) (slots : List (Option X)) (k : ℕ) → numbered_objects n (slots ++ replicate k None) ≡ numbered_objects n slots
standing_grown n [] k = nones_stand n k
standing_grown n (None ∷ slots) k = standing_grown (n + 1) slots k
standing_grown {X = X} n (Some x ∷ slots) k = ap (λ (es : List (ℕ × X)). (n, x) ∷ es) (standing_grown (n + 1) slots k)

nones_map : {X Y : Type 0} (f : X → Y) (k : ℕ) → map (option_map f) (replicate k None) ≡ replicate k None
nones_map f zero = refl
nones_map {Y = Y} f (suc k) = ap (λ (ys : List (Option Y)). None ∷ ys) (nones_map f k)

map_grown : {X Y : Type 0} (f : X → Y) (slots : List (Option X)) (k : ℕ) → map (option_map f) (slots ++ replicate k None) ≡ map (option_map f) slots ++ replicate k None
map_grown f [] k = nones_map f k
map_grown {Y = Y} f (slot ∷ slots) k = ap (λ (ys : List (Option Y)). option_map f slot ∷ ys) (map_grown f slots k)

nones_objects : (k : ℕ) → objects_of (replicate k None) ≡ []
nones_objects zero = refl
nones_objects (suc k) = nones_objects k

objects_grown : (slots : List (Option OpenedObject)) (k : ℕ) → objects_of (slots ++ replicate k None) ≡ objects_of slots
objects_grown [] k = nones_objects k
objects_grown (None ∷ slots) k = objects_grown slots k
objects_grown (Some o ∷ slots) k = ap (λ (os : List OpenedObject). o ∷ os) (objects_grown slots k)

module _ (image : Space) (slots : List (Option OpenedObject)) (k : ℕ) where
  abbrev grown : List (Option OpenedObject)
  grown = slots ++ replicate k None

  told_grown : {X : Type 0} (f : OpenedObject → X) → numbered_objects 0 (map (option_map f) grown) ≡ numbered_objects 0 (map (option_map f) slots)
  told_grown {X = X} f = ap (λ (xs : List (Option X)). numbered_objects 0 xs) (map_grown f slots k) ∙ standing_grown 0 (map (option_map f) slots) k

  table_grown : table_of grown ≡ table_of slots
  table_grown = ap (λ (es : List (ℕ × ℕ)). from_entries es) (told_grown header_of)

  tree_grown : tree_of image.bytes grown ≡ tree_of image.bytes slots
  tree_grown =
      ap (λ (table : FinMap nat_cmp ℕ). from_entries (numbered_objects 0 (map (option_map (object_in image.bytes table)) grown))) table_grown
      ∙ ap (λ (es : List (ℕ × Object)). from_entries es) (told_grown (object_in image.bytes (table_of slots)))

  pub opened_grown : (numbers : BTreeMap ℕ ℕ) → IsOpened image slots numbers → length slots + k ≤ most_numbers → IsOpened image grown numbers
  opened_grown numbers opened low = record {
    reads = subst (Reads image.bytes (table_of grown)) (sym tree_grown)
        (subst (λ table. Reads image.bytes table (tree_of image.bytes slots)) (sym table_grown) opened.reads);
    each = subst (AllByRecursion (IsObjectKept image.bytes)) (sym (objects_grown slots k)) opened.each;
    index = subst (λ table. IsIndex table numbers) (sym table_grown) opened.index;
    low = omega (arith, low, length-append slots (replicate k None), length-replicate {A = Option OpenedObject} k None);
    apart = subst (λ (os : List OpenedObject). IsApart (opened_blocks image.bytes os) image.free (length image.bytes)) (sym (objects_grown slots k)) opened.apart;
  }

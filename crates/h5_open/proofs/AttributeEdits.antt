-- Steps of an edit of attributes in an opened image: room that is made, the end of file address that is written, and the slot that is
-- changed.
use Rattle.std.proofs.Common.{◌≡◌, inl, ℕ, zero, suc, ◌<◌, ◌≤◌, ◌==◌, true, false, List, [], ◌∷◌, length, refl, sym, ap, ◌∙◌, subst, arith, Option, Some}
use Rattle.std.specs.Prelude.{slice_get, slice_set}
use Rattle.std.specs.BTreeMap.{BTreeMap}
use Rattle.std.specs.List.{AllByRecursion}
use Rattle.std.proofs.lemmas.Bool.Decides.{nat_tests}
use Rattle.std.proofs.lemmas.Option.{same_Some}
use Rattle.h5_bytes.specs.Bytes.{little_bytes, number_at, part, with_field}
use Rattle.h5_bytes.specs.declared.Block.{Block}
use Rattle.h5_bytes.proofs.FieldLaws.{number_at-with_field}
use Rattle.h5_bytes.proofs.PartLaws.{length-with_part, part-with_part_other}
use Rattle.h5_model.specs.Format.Limits.{most_bytes}
use Rattle.h5_model.specs.Format.Reads.{Reads}
use Rattle.h5_model.specs.Format.Superblock.{end_of_file, end_field, k_values, superblock_length}
use Rattle.h5_model.proofs.KLaws.{k_values_stay, same_end_field}
use Rattle.h5_space.specs.Moves.{Moves}
use Rattle.h5_space.specs.Space.{Space}
use Rattle.h5_space.specs.Whole.{IsApart}
use Rattle.h5_space.proofs.MovesLaws.{moves_write}
use Rattle.h5_open.specs.declared.opened.object.OpenedObject.{OpenedObject}
use Rattle.h5_open.specs.Opened.Kept.{IsObjectKept, IsOpened}
use Rattle.h5_open.specs.Opened.Objects.{objects_of, opened_blocks, table_of, tree_of}

-- ---- room

-- an image with other room is opened as it was
pub room_opened : (old new : Space) (slots : List (Option OpenedObject)) (numbers : BTreeMap ℕ ℕ) → new.bytes ≡ old.bytes → new.free ≡ old.free
    → IsOpened old slots numbers → IsOpened new slots numbers
room_opened old new slots numbers bytes free opened = record {
  reads = subst (λ (b : List ℕ). Reads b (table_of slots) (tree_of b slots)) (sym bytes) opened.reads;
  each = subst (λ (b : List ℕ). AllByRecursion (IsObjectKept b) (objects_of slots)) (sym bytes) opened.each;
  index = opened.index;
  low = opened.low;
  apart = subst (λ (b : List ℕ). IsApart (opened_blocks b (objects_of slots)) new.free (length b)) (sym bytes)
      (subst (λ (f : List Block). IsApart (opened_blocks old.bytes (objects_of slots)) f (length old.bytes)) (sym free) opened.apart);
}

-- ---- the end of file address

module _ (mid new : Space) (low : superblock_length mid.bytes ≤ length mid.bytes)
    (bytes : new.bytes ≡ with_field mid.bytes (end_field mid.bytes).at 8 (length mid.bytes)) where
  abbrev place : ℕ
  place = (end_field mid.bytes).at

  abbrev written : List ℕ
  written = little_bytes 8 (length mid.bytes)

  eight : length written ≡ 8
  eight = refl

  pub end_length : length new.bytes ≡ length mid.bytes
  end_length = ap length bytes ∙ length-with_part place written mid.bytes (omega (arith, low, eight))

  -- what stands before the field stays
  pub end_k : k_values new.bytes ≡ k_values mid.bytes
  end_k = k_values_stay mid.bytes new.bytes place (omega arith)
      (ap (part 0 place) bytes ∙ part-with_part_other place written mid.bytes 0 place (omega (arith, low, eight)) (inl (omega arith)))

  pub end_is : length mid.bytes ≤ most_bytes → end_of_file new.bytes ≡ length new.bytes
  end_is small =
      ap (λ (b : Block). number_at new.bytes b.at 8) (same_end_field new.bytes mid.bytes end_k)
      ∙ ap (λ (b : List ℕ). number_at b place 8) bytes
      ∙ number_at-with_field mid.bytes place 8 (length mid.bytes) (omega (arith, low)) (omega (arith, small))
      ∙ sym end_length

  pub end_moves : new.free ≡ mid.free → Moves mid new (end_field mid.bytes ∷ []) (end_field new.bytes ∷ [])
  end_moves free = subst (λ (b : Block). Moves mid new (end_field mid.bytes ∷ []) (b ∷ [])) (sym (same_end_field new.bytes mid.bytes end_k))
      (moves_write mid new place 8 written refl (omega (arith, low)) bytes free)

-- ---- the slot

pub slot_there : (slots : List (Option OpenedObject)) (n : ℕ) (s : Option OpenedObject) → n < length slots → slice_get (slice_set slots n s) n ≡ Some s
slot_there [] n s low = absurd (omega (arith, low))
slot_there (x ∷ slots) zero s low = refl
slot_there (x ∷ slots) (suc n) s low = slot_there slots n s (omega (arith, low))

pub slot_beside : (slots : List (Option OpenedObject)) (n k : ℕ) (s : Option OpenedObject) → (n == k) ≡ false → slice_get (slice_set slots n s) k ≡ slice_get slots k
slot_beside [] n k s other = refl
slot_beside (x ∷ slots) zero zero s other = absurd (let never : true ≡ false = other in cc)
slot_beside (x ∷ slots) zero (suc k) s other = refl
slot_beside (x ∷ slots) (suc n) zero s other = refl
slot_beside (x ∷ slots) (suc n) (suc k) s other = let differ : (n == k) ≡ false = grind (arith, nat_tests, other) in slot_beside slots n k s differ

pub slot_length : (slots : List (Option OpenedObject)) (n : ℕ) (s : Option OpenedObject) → length (slice_set slots n s) ≡ length slots
slot_length [] n s = refl
slot_length (x ∷ slots) zero s = refl
slot_length (x ∷ slots) (suc n) s = let rest = slot_length slots n s in omega (arith, rest)

-- a slot that is set to what it has
pub slot_same : (slots : List (Option OpenedObject)) (n : ℕ) (s : Option OpenedObject) → slice_get slots n ≡ Some s → slice_set slots n s ≡ slots
slot_same [] n s at = refl
slot_same (x ∷ slots) zero s at = ap (λ (y : Option OpenedObject). y ∷ slots) (sym (same_Some x s at))
slot_same (x ∷ slots) (suc n) s at = ap (λ (ys : List (Option OpenedObject)). x ∷ ys) (slot_same slots n s at)

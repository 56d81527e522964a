-- The empty file, opened.
use Rattle.std.proofs.Common.{◌≡◌, ℕ, zero, suc, List, [], ◌∷◌, length, refl, sym, ap, ◌∙◌, subst, arith, Option, Some, None}
use Rattle.std.specs.Prelude.{slice_get}
use Rattle.std.specs.Option.{option_flatten}
use Rattle.std.specs.Ordering.{nat_cmp}
use Rattle.std.specs.FinMap.{FinMap, get, len, len-entries}
use Rattle.h5_model.specs.Format.Empty.{empty_file, root_table, root_tree}
use Rattle.h5_model.specs.Format.Reads.{Reads}
use Rattle.h5_model.specs.Format.Superblock.{IsSuperblock, end_of_file}
use Rattle.h5_model.proofs.OneReading.{one_reading}
use Rattle.h5_laws.proofs.Objects.{object_at, in_tree}
use Rattle.h5_edit.specs.Opened.Refused.{ReadsSome}
use Rattle.h5_edit.specs.Opened.Sound.{IsSound, IsWholeFile}
use Rattle.h5_edit.specs.Opened.State.{FileState}
use Rattle.h5_edit.specs.Renumbered.Headers.{table_with}
use Rattle.h5_edit.proofs.OpenedLaws.Made.{entries_standing, get_standing}
use Rattle.h5_edit.proofs.RenumberedLaws.Renumbered.{next_at}
use Rattle.h5_file.specs.State.{created_state}
use Rattle.h5_edit.proofs.EmptyFile.{empty_reading}
use Rattle.h5_edit.proofs.Numbered.{standing_map}

pub empty_superblock : (image : List ℕ) → image ≡ empty_file → IsSuperblock image
empty_superblock image same = subst IsSuperblock (sym same) empty_reading.reads.holds.superblock

pub empty_end : (image : List ℕ) → image ≡ empty_file → end_of_file image ≡ length image
empty_end image same = subst (λ bytes. end_of_file bytes ≡ length bytes) (sym same) empty_reading.reads.holds.whole

-- it reads as the root alone, whose header stands at 96
empty_alone : Reads empty_file (table_with (Some 96 ∷ [])) root_tree
unfolding root_table
empty_alone = (empty_reading.placed, empty_reading.reads)

pub empty_reads : (image : List ℕ) → image ≡ empty_file → ReadsSome image
empty_reads image same = subst ReadsSome (sym same) (table_with (Some 96 ∷ []), root_tree, empty_alone)

-- no byte of it is lost
created_whole : IsWholeFile created_state
created_whole = record { placed = empty_reading.placed; reads = empty_reading.reads; covered = λ p. let here = empty_reading.covered p in omega (arith, here) }

pub is_whole : (f : FileState) → f ≡ created_state → IsWholeFile f
is_whole f same = subst IsWholeFile (sym same) created_whole

module _ (f : FileState) (sound : IsSound f) (image_is : f.image ≡ empty_file) (free_is : f.free ≡ []) (fresh : f.next ≡ len f.tree) where
  alone : Reads f.image (table_with (Some 96 ∷ [])) root_tree
  alone = subst (λ bytes. Reads bytes (table_with (Some 96 ∷ [])) root_tree) (sym image_is) empty_alone

  one : f.next ≡ 1
  one = next_at f sound fresh (Some 96 ∷ []) root_tree alone ∙ len-entries (table_with (Some 96 ∷ [])) ∙ ap length (entries_standing (Some 96 ∷ []))

  no_other : (k : ℕ) (found : Option ℕ) → get f.table (suc k) ≡ found → None ≡ found
  no_other k None is = refl
  no_other k (Some h) is =
      let x = object_at f.image f.table f.tree sound.placed sound.reads.holds (suc k) h is in
      let there = ap (get f.tree) (sym x.2) ∙ in_tree f.image f.table f.tree sound.placed sound.reads.holds x.0 x.1 in
      let low = sound.numbers.given (suc k) (rw there refl) in
      absurd (omega (arith, low, one))

  header_is : (n : ℕ) → option_flatten (slice_get (Some 96 ∷ []) n) ≡ get f.table n
  header_is zero = sym (get_standing (Some 96 ∷ []) 0) ∙ (alone.1).holds.root ∙ sym sound.reads.holds.root
  header_is (suc k) = no_other k (get f.table (suc k)) refl

  table_is : f.table ≡ table_with (Some 96 ∷ [])
  table_is = standing_map f.table (Some 96 ∷ []) header_is

  tree_is : f.tree ≡ root_tree
  tree_is =
      let here : Reads f.image f.table root_tree = subst (λ (t : FinMap nat_cmp ℕ). Reads f.image t root_tree) (sym table_is) alone in
      one_reading f.image f.table f.tree root_tree (sound.placed, sound.reads) here

  pub created : f ≡ created_state
  unfolding root_table
  created = λ i. record { image = image_is i; free = free_is i; table = table_is i; next = one i; tree = tree_is i }

-- The bytes of chunks that stay, where the nodes of their tree are edited (File Format Specification 3.0, section III.A.1).
use Rattle.std.proofs.Common.{◌≡◌, ℕ, Bool, true, false, cond, not, List, [], ◌∷◌, map, refl, sym, ap, ◌∙◌, subst}
use Rattle.std.specs.Prelude.{T}
use Rattle.std.specs.FinMap.{entries, entries-from_sorted, entries_sorted, from_sorted, is_sorted, remove, same_entries_map, values}
use Rattle.std.specs.FinMap.Entries.{is_sorted-where_key, where_key}
use Rattle.std.specs.Ordering.{eq_by_cmp, nat_cmp}
use Rattle.std.specs.Cmp.Lexicographic.{slice_cmp}
use Rattle.std.specs.List.{AllByRecursion}
use Rattle.h5_bytes.specs.Blocks.{Keeps, IsKept, block}
use Rattle.h5_bytes.specs.declared.Block.{Block}
use Rattle.h5_model.specs.Format.Chunks.{Chunks}
use Rattle.h5_model.specs.Format.Reached.{Shape}
use Rattle.h5_model.proofs.MapSteps.{remove_by_name}
use Rattle.h5_laws.proofs.Maps.{true_of}

-- bytes that stay, and stay again
pub keeps_same : (bytes : List ℕ) (bs : List Block) → Keeps bytes bytes bs
keeps_same bytes [] = tt
keeps_same bytes (b ∷ bs) = (refl, keeps_same bytes bs)

-- the blocks of chunks
abbrev pub blocks_of_chunks : Shape → Chunks → List Block
blocks_of_chunks shape chunks = map (λ at. block at shape.bytes) (values chunks)

-- what holds of all values of entries holds of those that pass a test
one_entry : (P : ℕ → Type 0) (b : Bool) (e : List ℕ × ℕ) (es : List (List ℕ × ℕ)) → P e.1 → AllByRecursion P (map (λ (x : List ℕ × ℕ). x.1) es)
    → AllByRecursion P (map (λ (x : List ℕ × ℕ). x.1) (cond b (e ∷ es) es))
one_entry P true e es here all = (here, all)
one_entry P false e es here all = all

some_entries : (P : ℕ → Type 0) (test : List ℕ → Bool) (es : List (List ℕ × ℕ)) → AllByRecursion P (map (λ (e : List ℕ × ℕ). e.1) es)
    → AllByRecursion P (map (λ (e : List ℕ × ℕ). e.1) (where_key (slice_cmp nat_cmp) test es))
some_entries P test [] all = tt
some_entries P test (e ∷ es) all = one_entry P (test e.0) e (where_key (slice_cmp nat_cmp) test es) all.0 (some_entries P test es all.1)

to_blocks : (shape : Shape) (old new : List ℕ) (xs : List ℕ) → AllByRecursion (λ at. IsKept old new (block at shape.bytes)) xs → Keeps old new (map (λ at. block at shape.bytes) xs)
to_blocks shape old new [] all = tt
to_blocks shape old new (x ∷ xs) all = (all.0, to_blocks shape old new xs all.1)

from_blocks : (shape : Shape) (old new : List ℕ) (xs : List ℕ) → Keeps old new (map (λ at. block at shape.bytes) xs) → AllByRecursion (λ at. IsKept old new (block at shape.bytes)) xs
from_blocks shape old new [] all = tt
from_blocks shape old new (x ∷ xs) all = (all.0, from_blocks shape old new xs all.1)

module _ (chunks : Chunks) where
  abbrev listed : List (List ℕ × ℕ)
  listed = entries chunks

  sorted : T (is_sorted (slice_cmp nat_cmp) listed)
  sorted = entries_sorted chunks

  again : chunks ≡ from_sorted listed
  again = same_entries_map chunks (from_sorted listed) (sym (entries-from_sorted (slice_cmp nat_cmp) listed sorted))

  less_entries : (offsets : List ℕ) → entries (remove chunks offsets) ≡ where_key (slice_cmp nat_cmp) (λ x. not (eq_by_cmp (slice_cmp nat_cmp) offsets x)) listed
  less_entries offsets =
      let test : List ℕ → Bool = λ x. not (eq_by_cmp (slice_cmp nat_cmp) offsets x) in
      ap (λ (c : Chunks). entries (remove c offsets)) again ∙ ap entries (remove_by_name listed offsets (true_of _ sorted))
      ∙ entries-from_sorted (slice_cmp nat_cmp) (where_key (slice_cmp nat_cmp) test listed) (is_sorted-where_key (slice_cmp nat_cmp) test listed sorted)

  -- where all chunks keep their bytes, all but one do
  pub less_kept : (shape : Shape) (old new : List ℕ) (offsets : List ℕ) → Keeps old new (blocks_of_chunks shape chunks)
      → Keeps old new (blocks_of_chunks shape (remove chunks offsets))
  less_kept shape old new offsets all =
      to_blocks shape old new (values (remove chunks offsets))
      (subst (λ (es : List (List ℕ × ℕ)). AllByRecursion (λ at. IsKept old new (block at shape.bytes)) (map (λ (e : List ℕ × ℕ). e.1) es)) (sym (less_entries offsets))
      (some_entries (λ at. IsKept old new (block at shape.bytes)) (λ x. not (eq_by_cmp (slice_cmp nat_cmp) offsets x)) listed
      (from_blocks shape old new (values chunks) all)))

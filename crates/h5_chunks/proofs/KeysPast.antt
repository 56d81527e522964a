-- The key behind a chunk is past it (File Format Specification 3.0, section III.A.1).
use Rattle.std.proofs.Common.{◌≡◌, ℕ, suc, ◌+◌, ◌*◌, ◌<◌, ◌≤◌, List, [], ◌∷◌, ◌++◌, length, map, refl, ap, ◌∙◌, subst, arith, Less}
use Rattle.std.specs.Prelude.{slice_index_or}
use Rattle.std.specs.Ordering.{nat_cmp}
use Rattle.std.specs.List.{range_with_len}
use Rattle.std.proofs.lemmas.Bool.Decides.{nat_tests}
use Rattle.h5_bytes.specs.Bytes.{number_at}
use Rattle.h5_model.specs.Format.Chunks.{all_offsets_in, offsets_in}
use Rattle.h5_model.specs.Format.Links.{Before}
use Rattle.h5_chunks.specs.Put.{IsKeyBehind}

less_more : (a b : ℕ) → 1 ≤ b → nat_cmp a (a + b) ≡ Less
less_more a b some = let low : a < a + b = omega (arith, some) in grind (arith, nat_tests, low)

-- the first of its offsets is above that of the chunk
pub key_past : (sizes key last : List ℕ) → IsKeyBehind sizes key last → 1 ≤ length sizes → 1 ≤ slice_index_or sizes 0 0
    → Before (offsets_in (length sizes) key ++ 0 ∷ []) (all_offsets_in (length sizes) last)
key_past [] key last is ranked some = absurd (omega (arith, ranked))
key_past (z ∷ zs) key last is ranked some =
    let g = λ (d : ℕ). number_at last (8 + 8 * d) 8 in
    let first : g 0 ≡ number_at key 8 8 + z = is.offsets 0 (omega arith) in
    let less : nat_cmp (number_at key 8 8) (g 0) ≡ Less = ap (nat_cmp (number_at key 8 8)) first ∙ less_more (number_at key 8 8) z some in
    let count : suc (suc (length zs)) ≡ suc (length zs) + 1 = omega arith in
    subst (λ (n : ℕ). Before (offsets_in (suc (length zs)) key ++ 0 ∷ []) (map g (range_with_len 0 n))) count (rw less refl)

-- The cells of chunks at the edge of an extent (File Format Specification 3.0, section III.A.1).
use Rattle.std.proofs.Common.{◌≡◌, ℕ, suc, ◌+◌, ◌-◌, ◌*◌, ◌/◌, ◌%◌, ◌<◌, ◌≤◌, List, [], ◌∷◌, length, get_or, true, false, inl, inr, refl, ap, ap₂, ◌∙◌, sym, arith}
use Rattle.std.specs.Prelude.{◌&&◌, min, nat_lt}
use Rattle.std.proofs.lemmas.Bool.{cases_lt, or_left, or_right}
use Rattle.std.proofs.lemmas.Bool.Decides.{nat_tests}
use Rattle.std.proofs.lemmas.Nat.{div-add-mod'}
use Rattle.h5_model.specs.Tree.Grid.{corner_of, inner_of}
use Rattle.h5_model.specs.Tree.Places.{is_inside}
use Rattle.h5_chunks.specs.Lists.{reaches_beyond}
use Rattle.h5_layout.specs.Kept.{slices_kept}
use Rattle.h5_layout.proofs.KeptValues.{below_offset}

below_cell : (i c k : ℕ) → 1 ≤ c → nat_lt (i % c) (min c (k - i / c * c)) ≡ nat_lt i k
below_cell i c k some =
    let whole : i / c * c + i % c ≡ i = div-add-mod' i c in
    below_offset (i % c) (i / c * c) c k (omega (arith, some)) ∙ ap (λ n. nat_lt n k) whole

-- a cell is in the slices of its chunk that are kept where its index is inside the kept sizes
pub slices_index : (kept chunk index : List ℕ) → length kept ≡ length chunk → length index ≡ length chunk → ((d : ℕ) → d < length chunk → 1 ≤ get_or chunk d 0)
    → is_inside (slices_kept kept chunk (corner_of chunk index)) (inner_of chunk index) ≡ is_inside kept index
slices_index [] [] [] same long some = refl
slices_index [] [] (i ∷ is) same long some = absurd (omega (arith, long))
slices_index [] (c ∷ cs) index same long some = absurd (omega (arith, same))
slices_index (k ∷ ks) [] index same long some = absurd (omega (arith, same))
slices_index (k ∷ ks) (c ∷ cs) [] same long some = absurd (omega (arith, long))
slices_index (k ∷ ks) (c ∷ cs) (i ∷ is) same long some =
    ap₂ (λ a b. a && b) (below_cell i c k (some 0 (omega arith)))
    (slices_index ks cs is (omega (arith, same)) (omega (arith, long)) (λ d low. some (suc d) (omega (arith, low))))

-- the chunk of a cell that is outside reaches past the extent
pub reaches_outside : (sizes chunk index : List ℕ) → length sizes ≡ length chunk → length index ≡ length chunk → ((d : ℕ) → d < length chunk → 1 ≤ get_or chunk d 0)
    → is_inside sizes index ≡ false → reaches_beyond sizes chunk (corner_of chunk index) ≡ true
reaches_outside [] [] [] same long some out = absurd (cc)
reaches_outside [] [] (i ∷ is) same long some out = absurd (omega (arith, long))
reaches_outside [] (c ∷ cs) index same long some out = absurd (omega (arith, same))
reaches_outside (n ∷ ns) [] index same long some out = absurd (omega (arith, same))
reaches_outside (n ∷ ns) (c ∷ cs) [] same long some out = absurd (omega (arith, long))
reaches_outside (n ∷ ns) (c ∷ cs) (i ∷ is) same long some out =
    elim (cases_lt i n) [
      | inl under ↦
          let first : nat_lt i n ≡ true = grind (arith, nat_tests, under) in
          let rest : is_inside ns is ≡ false = ap (λ b. b && is_inside ns is) (sym first) ∙ out in
          or_right (nat_lt n (i / c * c + c)) (reaches_beyond ns cs (corner_of cs is))
          (reaches_outside ns cs is (omega (arith, same)) (omega (arith, long)) (λ d low. some (suc d) (omega (arith, low))) rest)
      | inr over ↦
          let some_slice : 1 ≤ c = some 0 (omega arith) in
          let whole : i / c * c + i % c ≡ i = div-add-mod' i c in
          let less : i % c < c = omega (arith, some_slice) in
          let past : n < i / c * c + c = omega (arith, whole, less, over) in
          let first : nat_lt n (i / c * c + c) ≡ true = grind (arith, nat_tests, past) in
          or_left (nat_lt n (i / c * c + c)) (reaches_beyond ns cs (corner_of cs is)) first
    ]

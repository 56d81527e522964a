-- An array has at most as many cells as the product of its sizes other than 0.
use Rattle.std.proofs.Common.{◌≡◌, ℕ, zero, suc, ◌*◌, ◌<◌, ◌≤◌, min, IsTrue, true, false, cond, inl, inr, refl, sym, ◌∙◌, arith, List, [], ◌∷◌}
use Rattle.std.proofs.lemmas.Bool.Decides.{nat_tests}
use Rattle.std.proofs.lemmas.Bool.{cases_lt}
use Rattle.std.proofs.Math.Nat.{mul-le-mul_left, mul-le-mul_right}
use Rattle.std.specs.Prelude.{nat_le, ◌==◌}
use Rattle.h5_model.specs.Tree.Places.{cells, extent_cells}

pub cells_le : (sizes : List ℕ) → cells sizes ≤ extent_cells sizes
cells_le [] = omega arith
cells_le (d ∷ ds) = elim (d == 0) as (λ b. (d == 0) ≡ b → d * cells ds ≤ cond b 1 d * extent_cells ds) [
  | true ↦ λ e. let none : d ≡ 0 = grind (arith, nat_tests) in rw none (omega arith)
  | false ↦ λ _. mul-le-mul_left d (cells_le ds)
] refl

-- the same, from the test of a saturated product
pub cells_few : (sizes : List ℕ) (most top : ℕ) → most < top → IsTrue (nat_le (min (extent_cells sizes) top) most) → cells sizes ≤ most
cells_few sizes most top room h =
    let product : min (extent_cells sizes) top ≤ most = grind (arith, nat_tests) in
    omega (arith, cells_le sizes)

-- ---- saturated products

left_large : (top n m : ℕ) → top ≤ n → 0 < m → min (n * m) top ≡ top
left_large top n m large some = let once : n * 1 ≤ n * m = mul-le-mul_left n some in omega (arith, once)

right_large : (top n m : ℕ) → top ≤ m → 0 < n → min (n * m) top ≡ top
right_large top n m large some = let once : 1 * m ≤ n * m = mul-le-mul_right m some in omega (arith, once)

-- of saturated numbers
pub min_product : (top n m : ℕ) → min (min n top * min m top) top ≡ min (n * m) top
min_product top zero m = let none : min zero top ≡ 0 = omega arith in rw none (omega arith)
min_product top (suc n) zero = let none : min zero top ≡ 0 = omega arith in rw none (omega arith)
min_product zero (suc n) (suc m) = omega arith
min_product (suc t) (suc n) (suc m) = elim (cases_lt (suc t) (suc n)) [
  | inl more ↦
      left_large (suc t) (min (suc n) (suc t)) (min (suc m) (suc t)) (omega arith) (omega arith)
      ∙ sym (left_large (suc t) (suc n) (suc m) (omega arith) (omega arith))
  | inr less ↦ elim (cases_lt (suc t) (suc m)) [
    | inl more ↦
        right_large (suc t) (min (suc n) (suc t)) (min (suc m) (suc t)) (omega arith) (omega arith)
        ∙ sym (right_large (suc t) (suc n) (suc m) (omega arith) (omega arith))
    | inr few ↦
        let first : min (suc n) (suc t) ≡ suc n = omega arith in
        let second : min (suc m) (suc t) ≡ suc m = omega arith in
        (λ i. min (first i * second i) (suc t))
  ]
]

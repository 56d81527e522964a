-- The numbers that an axis selects, by their positions.
use Rattle.std.proofs.Common.{◌≡◌, ℕ, zero, suc, ◌+◌, ◌-◌, ◌*◌, ◌/◌, ◌%◌, ◌^◌, ◌<◌, ◌≤◌, inl, inr, false, true, refl, ap, arith}
use Rattle.std.specs.Prelude.{◌↔◌, min, max}
use Rattle.std.proofs.lemmas.Bool.{cases_lt}
use Rattle.std.proofs.lemmas.Bool.Decides.{nat_tests}
use Rattle.std.proofs.lemmas.Nat.{div_below, mod_below, div-add-mod'}
use Rattle.std.proofs.Math.Nat.{mul-le-mul_right, mul-le-mul_left}
use Rattle.h5_model.specs.declared.hyperslab.Axis.{Axis}
use Rattle.h5_model.specs.Views.Selection.{fits_along, overlaps}
use Rattle.h5_model.proofs.PlaceLaws.{positive}
use Rattle.h5_shape.specs.InBox.{IsBelow, number_along}

top_is : (a : Axis) → fits_along (2 ^ 63) a ≡ true → a.start + (a.count - 1) * a.stride + a.block ≤ 2 ^ 63
top_is a top = grind (arith, nat_tests)

-- it is below 2^63
pub number_low : (a : Axis) (t : ℕ) → t < a.count * a.block → fits_along (2 ^ 63) a ≡ true → number_along a t < 2 ^ 63
number_low a t inside top =
    let some : 0 < a.block = positive t a.count a.block inside in
    let block : t / a.block < a.count = div_below t a.block a.count some inside in
    let step : t / a.block * a.stride ≤ (a.count - 1) * a.stride = mul-le-mul_right a.stride (omega arith) in
    omega (arith, step, mod_below t a.block some, top_is a top)

-- the step from block to block is at least a block, where there are several
pub same_step : (a : Axis) (S : ℕ) → S ≡ max a.stride a.block → overlaps a ≡ false → (i : ℕ) → i < a.count → i * a.stride ≡ i * S
same_step a S is apart i low = elim (cases_lt a.stride a.block) [
  | inl less ↦
      let few : a.count ≤ 1 = grind (arith, nat_tests) in
      let first : i ≡ 0 = omega (arith, few, low) in
      let left : i * a.stride ≡ 0 * a.stride = ap (λ n. n * a.stride) first in
      let right : i * S ≡ 0 * S = ap (λ n. n * S) first in
      omega (arith, left, right)
  | inr least ↦ let same : a.stride ≡ S = omega (arith, is, least) in ap (λ n. i * n) same
]

-- fewer than 2^64 are selected
pub few_cells : (a : Axis) → overlaps a ≡ false → fits_along (2 ^ 63) a ≡ true → 0 < a.count → a.count * a.block < 2 ^ 64
few_cells a apart top some = elim (cases_lt a.stride a.block) [
  | inl less ↦
      let few : a.count ≤ 1 = grind (arith, nat_tests) in
      let one : a.count * a.block ≤ 1 * a.block = mul-le-mul_right a.block few in
      omega (arith, one, top_is a top)
  | inr least ↦
      let more : (a.count - 1) * a.block ≤ (a.count - 1) * a.stride = mul-le-mul_left (a.count - 1) least in
      let all : a.count * a.block ≡ (a.count - 1 + 1) * a.block = ap (λ n. n * a.block) (omega (arith, some)) in
      omega (arith, more, all, top_is a top)
]

module _ (a : Axis) (x S full r : ℕ) (far : x ≡ a.start + (full * S + r)) (rest : r < S) (wide : a.block ≤ S)
    (steps : (i : ℕ) → i < a.count → i * a.stride ≡ i * S) where
  module _ (t : ℕ) (inside : t < a.count * a.block) where
    some : 0 < a.block
    some = positive t a.count a.block inside

    abbrev i : ℕ
    i = t / a.block

    abbrev j : ℕ
    j = t % a.block

    is : i * a.block + j ≡ t
    is = div-add-mod' t a.block

    low : i < a.count
    low = div_below t a.block a.count some inside

    small : j < a.block
    small = mod_below t a.block some

    number : number_along a t ≡ a.start + i * S + j
    number = ap (λ n. a.start + n + j) (steps i low)

    early : i < full → (number_along a t < x) × (t < full * a.block)
    early less =
        let by_step : (i + 1) * S ≤ full * S = mul-le-mul_right S (omega arith) in
        let by_block : (i + 1) * a.block ≤ full * a.block = mul-le-mul_right a.block (omega arith) in
        (omega (arith, number, far, small, wide, by_step), omega (arith, is, small, by_block))

    late : full < i → (x ≤ number_along a t) × (full * a.block + a.block ≤ t)
    late more =
        let by_step : (full + 1) * S ≤ i * S = mul-le-mul_right S (omega arith) in
        let by_block : (full + 1) * a.block ≤ i * a.block = mul-le-mul_right a.block (omega arith) in
        (omega (arith, number, far, rest, by_step), omega (arith, is, by_block))

    in_it : (m : ℕ) → m ≡ min r a.block → full ≡ i → (number_along a t < x) ↔ (t < full * a.block + m)
    in_it m least same =
        let step : full * S ≡ i * S = ap (λ n. n * S) same in
        let block : full * a.block ≡ i * a.block = ap (λ n. n * a.block) same in
        (λ below. omega (arith, least, number, far, step, block, is, small, below), λ before. omega (arith, least, number, far, step, block, is, small, before))

    at_all : (m : ℕ) → m ≡ min r a.block → (number_along a t < x) ↔ (t < full * a.block + m)
    at_all m least = elim (cases_lt i full) [
      | inl less ↦ let both = early less in (λ below. omega (arith, both.1), λ before. both.0)
      | inr at_least ↦ elim (cases_lt full i) [
        | inl more ↦ let both = late more in
            (λ below. absurd (omega (arith, both.0, below)), λ before. absurd (omega (arith, both.1, least, before)))
        | inr at_most ↦ in_it m least (omega (arith, at_least, at_most))
      ]
    ]

    all_below : a.count ≤ full → number_along a t < x
    all_below many = (early (omega (arith, low, many))).0

  pub below_some : (m : ℕ) → m ≡ min r a.block → full < a.count → IsBelow a x (full * a.block + m)
  below_some m least less =
      let room : (full + 1) * a.block ≤ a.count * a.block = mul-le-mul_right a.block (omega arith) in
      (omega (arith, least, room), λ t inside. at_all t inside m least)

  pub below_every : a.count ≤ full → IsBelow a x (a.count * a.block)
  below_every many = (omega arith, λ t inside. (λ below. inside, λ before. all_below t inside many))

pub some_block : (n : ℕ) → (n ≡ 0 → ⊥) → 0 < n
some_block zero some = absurd (some refl)
some_block (suc n) some = omega arith

-- also where no block is
pub cells_low : (a : Axis) → overlaps a ≡ false → fits_along (2 ^ 63) a ≡ true → a.count * a.block < 2 ^ 64
cells_low a apart top = elim (cases_lt 0 a.count) [
  | inl some ↦ few_cells a apart top some
  | inr none ↦
      let zero : a.count ≡ 0 = omega (arith, none) in
      let cells : a.count * a.block ≡ 0 * a.block = ap (λ n. n * a.block) zero in
      omega (arith, cells)
]

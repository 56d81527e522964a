-- A selection with one more dimension, by loops over its blocks and over the cells of a block.
use Rattle.std.proofs.Common.{◌≡◌, ℕ, suc, ◌+◌, ◌-◌, ◌*◌, ◌^◌, ◌<◌, ◌≤◌, List, [], ◌∷◌, length, take, drop, inl, inr, ap, arith, true, false}
use Rattle.std.proofs.lemmas.Bool.{cases_lt, and_parts, or_parts}
use Rattle.std.proofs.lemmas.Bool.Decides.{nat_tests}
use Rattle.std.proofs.Math.Seq.{take-length}
use Rattle.std.proofs.Math.Nat.{mul-le-mul_left, mul-le-mul_right}
use Rattle.std.specs.List.{list_any}
use Rattle.h5_model.specs.Format.Limits.{most_cells}
use Rattle.h5_model.specs.Tree.Places.{cells}
use Rattle.h5_model.specs.declared.Axis.{Axis}
use Rattle.h5_model.specs.Views.Selection.{Slab, fits_along, fits_all, has_no_cell, overlaps, selects_none}

pub tail_is : {X : Type 0} (x : X) (xs : List X) → take (length (x ∷ xs) - 1) xs ≡ xs
tail_is x xs = let less : length (x ∷ xs) - 1 ≡ length xs = omega arith in rw less (take-length xs)

steps_room : (m stride d c : ℕ) → 1 ≤ m → m * stride ≤ d → suc m * (stride * c) ≤ 2 * (d * c)
steps_room m stride d c some low =
    let one : 1 * stride ≤ m * stride = mul-le-mul_right stride some in
    let first : stride * c ≤ d * c = mul-le-mul_right c (omega arith) in
    let rest : (m * stride) * c ≤ d * c = mul-le-mul_right c low in
    omega arith

axis_room : (a : Axis) (d c : ℕ) → fits_along d a ≡ true → 1 < a.count → a.count * (a.stride * c) ≤ 2 * (d * c)
axis_room a d c fits more =
    let room : a.start + (a.count - 1) * a.stride + a.block ≤ d = grind (arith, nat_tests) in
    let whole : suc (a.count - 1) ≡ a.count = omega arith in
    rw whole at (steps_room (a.count - 1) a.stride d c (omega arith) (omega arith))

pub step_room : (sizes : List ℕ) (a : Axis) (rest : Slab) → 1 ≤ length sizes → fits_all sizes (a ∷ rest) ≡ true
    → 1 < a.count → cells sizes ≤ most_cells → (c : ℕ) → c ≡ cells (take (length sizes - 1) (drop 1 sizes))
    → a.count * (a.stride * c) < 2 ^ 64
step_room [] a rest long fits more small c below = absurd (omega arith)
step_room (d ∷ ds) a rest long fits more small c below =
    let under : c ≡ cells ds = rw (tail_is d ds) at below in
    let split : (fits_along d a ≡ true) × (fits_all ds rest ≡ true) = and_parts (fits_along d a) (fits_all ds rest) fits in
    let room : a.count * (a.stride * cells ds) ≤ 2 * (d * cells ds) = axis_room a d (cells ds) split.0 more in
    rw under (omega arith)

-- an axis selects no more numbers than the size
pub axis_cells : (a : Axis) (d : ℕ) → fits_along d a ≡ true → overlaps a ≡ false → 0 < a.count → a.count * a.block ≤ d
axis_cells a d fits apart some =
    let room : a.start + (a.count - 1) * a.stride + a.block ≤ d = grind (arith, nat_tests) in
    elim (cases_lt a.stride a.block) [
      | inl less ↦
          let few : a.count ≤ 1 = grind (arith, nat_tests) in
          let one : a.count * a.block ≤ 1 * a.block = mul-le-mul_right a.block few in
          omega (arith, one, room)
      | inr least ↦
          let more : (a.count - 1) * a.block ≤ (a.count - 1) * a.stride = mul-le-mul_left (a.count - 1) least in
          let all : a.count * a.block ≡ (a.count - 1 + 1) * a.block = ap (λ n. n * a.block) (omega (arith, some)) in
          omega (arith, more, all, room)
    ]

-- so do as many things as there are cells in the dimensions below, or fewer, once for each cell of a block, and once for each block
pub depth_room : (sizes : List ℕ) (a : Axis) (rest : Slab) → 1 ≤ length sizes → fits_all sizes (a ∷ rest) ≡ true → selects_none (a ∷ rest) ≡ false
    → list_any overlaps (a ∷ rest) ≡ false → (c n m : ℕ) → c ≡ cells (take (length sizes - 1) (drop 1 sizes)) → n ≤ c → m ≤ n * a.block
    → (m ≤ cells sizes) × (m * a.count ≤ cells sizes)
depth_room [] a rest long fits some apart c n m below low few = absurd (omega arith)
depth_room (d ∷ ds) a rest long fits some apart c n m below low few =
    let under : c ≡ cells ds = rw (tail_is d ds) at below in
    let split : (fits_along d a ≡ true) × (fits_all ds rest ≡ true) = and_parts (fits_along d a) (fits_all ds rest) fits in
    let parts : (has_no_cell a ≡ false) × (selects_none rest ≡ false) = or_parts (has_no_cell a) (selects_none rest) some in
    let blocks : (overlaps a ≡ false) × (list_any overlaps rest ≡ false) = or_parts (overlaps a) (list_any overlaps rest) apart in
    let count : 0 < a.count = grind (arith, nat_tests, parts.0) in
    let cells_along : a.count * a.block ≤ d = axis_cells a d split.0 blocks.0 count in
    let rows : (a.count * a.block) * c ≤ d * c = mul-le-mul_right c cells_along in
    let first : n * (a.count * a.block) ≤ c * (a.count * a.block) = mul-le-mul_right (a.count * a.block) low in
    let times : m * a.count ≤ (n * a.block) * a.count = mul-le-mul_right a.count few in
    let once : m * 1 ≤ m * a.count = mul-le-mul_left m count in
    let top : d * c ≡ d * cells ds = ap (λ (k : ℕ). d * k) under in
    let all : m * a.count ≤ d * cells ds = omega (arith, top, times, first, rows) in
    (omega (arith, once, all), all)

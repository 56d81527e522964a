-- Values of attributes.
use Rattle.std.proofs.Common.{◌≡◌, ℕ, zero, suc, ◌+◌, ◌*◌, ◌<◌, ◌≤◌, List, length, slice_get, ap, ◌∙◌, arith, Some, ℤ, pos}
use Rattle.std.proofs.lemmas.List.FromFn.{length-map-range_with_len, get_or-map-range_with_len}
use Rattle.std.proofs.lemmas.Option.{slice_get-get_or}
use Rattle.std.proofs.Math.Nat.{mul-le-mul_right}
use Rattle.h5_model.specs.Format.Fixed.{Fixed, value_at}
use Rattle.h5_model.specs.Format.AttributeBody.{values_at}

pub length-values : (t : Fixed) (bytes : List ℕ) (place n : ℕ) → length (values_at t bytes place n) ≡ n
length-values t bytes place n = length-map-range_with_len (λ k. value_at t bytes (place + k * t.size)) 0 n

pub value_in : (t : Fixed) (bytes : List ℕ) (place n k : ℕ) → k < n → slice_get (values_at t bytes place n) k ≡ Some (value_at t bytes (place + k * t.size))
value_in t bytes place n k low =
    let long = length-values t bytes place n in
    slice_get-get_or (values_at t bytes place n) k (pos 0) (omega arith)
    ∙ ap (λ (v : ℤ). Some v) (get_or-map-range_with_len (λ k. value_at t bytes (place + k * t.size)) 0 n k k (pos 0) low (omega arith))

-- a cell's bytes end inside the data
pub cell_room : (place k n size long : ℕ) → k < n → place + n * size ≤ long → place + k * size + size ≤ long
cell_room place k n size long low room =
    let next : (k + 1) * size ≤ n * size = mul-le-mul_right size (omega arith) in
    let split : (k + 1) * size ≡ k * size + size = omega arith in
    omega arith

-- there are no more cells than bytes
pub cells_few : (place n size long : ℕ) → 1 ≤ size → place + n * size ≤ long → n ≤ long
cells_few place n zero long some room = absurd (omega arith)
cells_few place n (suc s) long some room = let whole : n * suc s ≡ n + n * s = omega arith in omega arith

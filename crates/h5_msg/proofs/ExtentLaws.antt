-- What a dataspace's body says of each dimension.
use Rattle.std.proofs.Common.{◌≡◌, ◌≢◌, ℕ, zero, suc, ◌+◌, ◌-◌, ◌*◌, ◌<◌, ◌≤◌, List, length, map, get_or, slice_index, slice_get, Option, Some, None, refl, sym, ap, ◌∙◌, arith, true, false, eq-eqb}
use Rattle.std.proofs.lemmas.Bool.Decides.{nat_tests}
use Rattle.std.proofs.lemmas.List.FromFn.{length-map-range_with_len, get_or-map-range_with_len}
use Rattle.std.proofs.lemmas.Option.{slice_get-get_or}
use Rattle.std.specs.Prelude.{◌==◌}
use Rattle.std.specs.List.{range_with_len}
use Rattle.h5_bytes.specs.Bytes.{number_at, byte_at, undefined_address}
use Rattle.h5_model.specs.Format.Limits.{most_dimensions}
use Rattle.h5_model.specs.Tree.Places.{cells}
use Rattle.h5_model.specs.Format.Extent.{Extent, extent_in, is_dataspace, rank_in, size_in, maximum_in}

-- the sizes are there, and the maxima where the flag is set
pub record HasRoom (body : List ℕ) : Type 0 where
  pub rank : rank_in body ≤ most_dimensions
  pub flag : byte_at body 2 ≤ 1
  pub sizes : 8 + 8 * rank_in body ≤ length body
  pub maxima : byte_at body 2 ≡ 1 → 8 + 8 * rank_in body + 8 * rank_in body ≤ length body

room_for : (rank flag long : ℕ) → 8 + 8 * (rank * (1 + flag)) ≤ long → 8 + 8 * rank ≤ long
room_for rank flag long h = let wide : rank * (1 + flag) ≡ rank + rank * flag = omega arith in omega arith

room_for_both : (rank flag long : ℕ) → 8 + 8 * (rank * (1 + flag)) ≤ long → flag ≡ 1 → 8 + 8 * rank + 8 * rank ≤ long
room_for_both rank flag long h set = let doubled : 8 + 8 * (rank * (1 + 1)) ≤ long = rw set at h in omega arith

pub room_in : (body : List ℕ) → is_dataspace body ≡ true → HasRoom body
room_in body form =
    let numbers : 8 + 8 * (rank_in body * (1 + byte_at body 2)) ≤ length body = grind (arith, nat_tests) in
    record {
      rank = grind (arith, nat_tests);
      flag = grind (arith, nat_tests);
      sizes = room_for (rank_in body) (byte_at body 2) (length body) numbers;
      maxima = λ set. room_for_both (rank_in body) (byte_at body 2) (length body) numbers set;
    }

pub length-sizes : (body : List ℕ) (e : Extent) → extent_in body ≡ e → length e.sizes ≡ rank_in body
length-sizes body e is = ap (λ (x : Extent). length x.sizes) (sym is) ∙ length-map-range_with_len (size_in body) 0 (rank_in body)

pub length-maxima : (body : List ℕ) (e : Extent) → extent_in body ≡ e → length e.maxima ≡ rank_in body
length-maxima body e is = ap (λ (x : Extent). length x.maxima) (sym is) ∙ length-map-range_with_len (maximum_in body) 0 (rank_in body)

pub size_at : (body : List ℕ) (e : Extent) (k : ℕ) → extent_in body ≡ e → k < length e.sizes → slice_index e.sizes k ≡ size_in body k
size_at body e k is low =
    let long = length-sizes body e is in
    ap (λ (x : Extent). slice_index x.sizes k) (sym is) ∙ get_or-map-range_with_len (size_in body) 0 (rank_in body) k k 0 (omega arith) (omega arith)

pub maximum_at : (body : List ℕ) (e : Extent) (k : ℕ) → extent_in body ≡ e → k < length e.sizes → slice_get e.maxima k ≡ Some (maximum_in body k)
maximum_at body e k is low =
    let long = length-sizes body e is in
    let tall = length-maxima body e is in
    let here : get_or e.maxima k (maximum_in body k) ≡ maximum_in body k
    = ap (λ (x : Extent). get_or x.maxima k (maximum_in body k)) (sym is) ∙ get_or-map-range_with_len (maximum_in body) 0 (rank_in body) k k (maximum_in body k) (omega arith) (omega arith) in
    slice_get-get_or e.maxima k (maximum_in body k) (omega arith) ∙ ap (λ (x : Option ℕ). Some x) here

pub cells_step : (f : ℕ → ℕ) (k n : ℕ) → n ≢ 0 → cells (map f (range_with_len k n)) ≡ f k * cells (map f (range_with_len (k + 1) (n - 1)))
cells_step f k zero some = absurd (some refl)
cells_step f k (suc n) some = let less : suc n - 1 ≡ n = omega arith in rw less refl

-- ---- the maximum in a dimension, by the flag

pub maximum_absent : (body : List ℕ) (k : ℕ) → byte_at body 2 ≡ 0 → maximum_in body k ≡ Some (size_in body k)
maximum_absent body k clear = let none : (byte_at body 2 == 1) ≡ false = grind (arith, nat_tests) in rw none refl

set_flag : (flag : ℕ) → flag ≤ 1 → flag ≢ 0 → flag ≡ 1
set_flag flag low some = grind arith

pub maximum_unlimited : (body : List ℕ) (k n : ℕ) → byte_at body 2 ≤ 1 → byte_at body 2 ≢ 0 → n ≡ number_at body (8 + 8 * rank_in body + 8 * k) 8 → n ≡ undefined_address → maximum_in body k ≡ None
maximum_unlimited body k n flag some same last =
    let there : byte_at body 2 ≡ 1 = set_flag (byte_at body 2) flag some in
    let set : (byte_at body 2 == 1) ≡ true = eq-eqb (byte_at body 2) 1 there in
    let ones : (n == undefined_address) ≡ true = eq-eqb n undefined_address last in
    rw (set, ← same, ones) refl

pub maximum_limited : (body : List ℕ) (k n : ℕ) → byte_at body 2 ≤ 1 → byte_at body 2 ≢ 0 → n ≡ number_at body (8 + 8 * rank_in body + 8 * k) 8 → n ≢ undefined_address → maximum_in body k ≡ Some n
maximum_limited body k n flag some same below =
    let there : byte_at body 2 ≡ 1 = set_flag (byte_at body 2) flag some in
    let set : (byte_at body 2 == 1) ≡ true = eq-eqb (byte_at body 2) 1 there in
    let ones : (n == undefined_address) ≡ false = grind (arith, nat_tests) in
    rw (set, ← same, ones) refl

-- Sizes that are not above the maxima that a Dataspace message has: these can stand in one beside them (File Format Specification 3.0,
-- section IV.A.2.b).
use Rattle.std.proofs.Common.{◌≡◌, ℕ, zero, suc, ◌+◌, ◌*◌, ◌≤◌, true, false, cond, ◌==◌, List, [], ◌∷◌, length, map, Option, Some, None, refl, sym, ◌∙◌, subst, arith}
use Rattle.std.proofs.lemmas.Bool.{or_parts}
use Rattle.std.specs.Prelude.{nat_le, nat_lt}
use Rattle.std.specs.List.{AllByRecursion, range_with_len}
use Rattle.std.proofs.lemmas.Bool.Decides.{nat_tests}
use Rattle.std.proofs.lemmas.List.FromFn.{length-map-range_with_len}
use Rattle.std.proofs.lemmas.Option.{cond_some, option_and_then_some}
use Rattle.std.proofs.Math.Nat.{mul-le-mul_left, mul-le-mul_right}
use Rattle.h5_bytes.specs.Bytes.{number_at, undefined_address}
use Rattle.h5_model.specs.Format.Limits.{most_cells, most_dimensions}
use Rattle.h5_model.specs.Format.MessageTypes.{dataspace_kind}
use Rattle.h5_model.specs.Edits.Refusal.{are_maxima, some_above}
use Rattle.h5_model.specs.Format.Extent.{Extent, extent_in, extent_of, has_maxima, is_dataspace, maximum_from, maximum_in, rank_in, size_in}
use Rattle.h5_model.specs.Format.Messages.{Message, first_body}
use Rattle.h5_model.specs.Format.Described.{Described, HasArray}
use Rattle.h5_model.specs.Tree.Places.{extent_cells}
use Rattle.h5_layout.specs.Extents.{CanHaveSizes}

-- ---- sizes

pub extent_positive : (sizes : List ℕ) → 1 ≤ extent_cells sizes
extent_positive [] = omega arith
extent_positive (d ∷ ds) = elim (d == 0) as (λ b. (d == 0) ≡ b → 1 ≤ cond b 1 d * extent_cells ds) [
  | true ↦ λ e. omega (arith, extent_positive ds)
  | false ↦ λ e.
      let some : 1 ≤ d = grind (arith, nat_tests, e) in
      let more : 1 * extent_cells ds ≤ d * extent_cells ds = mul-le-mul_right (extent_cells ds) some in
      omega (arith, more, extent_positive ds)
] refl

-- no size is above the product of those other than 0
pub sizes_below : (sizes : List ℕ) (most : ℕ) → extent_cells sizes ≤ most → AllByRecursion (λ n. n ≤ most) sizes
sizes_below [] most few = tt
sizes_below (d ∷ ds) most few = elim (d == 0) as (λ b. (d == 0) ≡ b → cond b 1 d * extent_cells ds ≤ most → (d ≤ most) × AllByRecursion (λ n. n ≤ most) ds) [
  | true ↦ λ e low. let none : d ≡ 0 = grind (arith, nat_tests, e) in (omega (arith, none), sizes_below ds most (omega (arith, low)))
  | false ↦ λ e low.
      let some : 1 ≤ d = grind (arith, nat_tests, e) in
      let rest : 1 * extent_cells ds ≤ d * extent_cells ds = mul-le-mul_right (extent_cells ds) some in
      let own : d * 1 ≤ d * extent_cells ds = mul-le-mul_left d (extent_positive ds) in
      (omega (arith, own, low), sizes_below ds most (omega (arith, rest, low)))
] refl few

-- ---- maxima that are read are not the mark of an unlimited one

abbrev IsUnmarked : Option ℕ → Type 0
IsUnmarked None = Unit {0}
IsUnmarked (Some n) = (n == undefined_address) ≡ false

module _ (body : List ℕ) where
  maximum_unmarked : (k : ℕ) → size_in body k ≤ most_cells → IsUnmarked (maximum_in body k)
  maximum_unmarked k low =
      let n = number_at body (8 + 8 * rank_in body + 8 * k) 8 in
      elim (has_maxima body) as (λ b. IsUnmarked (cond b (maximum_from n) (Some (size_in body k)))) [
        | true ↦ elim (n == undefined_address) as (λ c. (n == undefined_address) ≡ c → IsUnmarked (cond c None (Some n))) [
          | true ↦ λ is. tt
          | false ↦ λ is. is
        ] refl
        | false ↦ grind (arith, nat_tests, low)
      ]

  all_unmarked : (from n : ℕ) → AllByRecursion (λ s. s ≤ most_cells) (map (size_in body) (range_with_len from n))
      → AllByRecursion IsUnmarked (map (maximum_in body) (range_with_len from n))
  all_unmarked from zero low = tt
  all_unmarked from (suc n) low = (maximum_unmarked from low.0, all_unmarked (from + 1) n low.1)

-- what a body that is read says
record IsReadExtent (e : Extent) : Type 0 where
  ranked : length e.maxima ≡ length e.sizes
  few : length e.sizes ≤ most_dimensions
  unmarked : AllByRecursion (λ s. s ≤ most_cells) e.sizes → AllByRecursion IsUnmarked e.maxima

read_extent : (body : List ℕ) (e : Extent) → extent_of body ≡ Some e → IsReadExtent e
unfolding extent_of
read_extent body e is =
    let p = cond_some (is_dataspace body) (extent_in body) e is in
    subst IsReadExtent p.1 (record {
      ranked = length-map-range_with_len (maximum_in body) 0 (rank_in body) ∙ sym (length-map-range_with_len (size_in body) 0 (rank_in body));
      few = let test : nat_le (rank_in body) 32 ≡ true = grind (arith, nat_tests, p.0) in
          let low : rank_in body ≤ most_dimensions = grind (arith, nat_tests, test) in
          omega (arith, low, length-map-range_with_len (size_in body) 0 (rank_in body));
      unmarked = all_unmarked body 0 (rank_in body);
    })

-- ---- sizes that are not above them

bounded : (sizes : List ℕ) (maxima : List (Option ℕ)) → length maxima ≡ length sizes → some_above sizes maxima ≡ false
    → AllByRecursion IsUnmarked maxima → are_maxima sizes maxima ≡ true
bounded [] [] ranked below unmarked = refl
bounded [] (m ∷ ms) ranked below unmarked = absurd (omega (arith, ranked))
bounded (d ∷ ds) [] ranked below unmarked = absurd (omega (arith, ranked))
bounded (d ∷ ds) (None ∷ ms) ranked below unmarked = bounded ds ms (omega (arith, ranked)) below unmarked.1
bounded (d ∷ ds) (Some n ∷ ms) ranked below unmarked =
    let low : nat_lt n d ≡ false = (or_parts (nat_lt n d) (some_above ds ms) below).0 in
    let fits : nat_le d n ≡ true = grind (arith, nat_tests, low) in
    let later : are_maxima ds ms ≡ true = bounded ds ms (omega (arith, ranked)) (or_parts (nat_lt n d) (some_above ds ms) below).1 unmarked.1 in
    rw (fits, unmarked.0, later) refl

module _ (ms : List Message) (a : Described) (has : HasArray ms a) where
  extent_read : IsReadExtent (record { sizes = a.sizes; maxima = a.maxima })
  extent_read = option_and_then_some extent_of (first_body dataspace_kind ms) (record { sizes = a.sizes; maxima = a.maxima }) has.space
      (λ body there told. read_extent body (record { sizes = a.sizes; maxima = a.maxima }) told)

  pub few_sizes : length a.sizes ≤ most_dimensions
  few_sizes = extent_read.few

  pub sizes_bounded : (sizes : List ℕ) → CanHaveSizes a sizes → are_maxima sizes a.maxima ≡ true
  sizes_bounded sizes can =
      bounded sizes a.maxima (omega (arith, extent_read.ranked, can.ranked)) can.below (extent_read.unmarked (sizes_below a.sizes most_cells has.small))

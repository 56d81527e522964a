-- The extent of an array is read back from its dataspace message (File Format Specification 3.0, section IV.A.2.b).
use Rattle.std.proofs.Common.{◌≡◌, ℕ, ◌+◌, ◌*◌, ◌%◌, ◌^◌, ◌<◌, ◌≤◌, ◌==◌, ◌||◌, List, [], ◌∷◌, length, map, refl, sym, ap, ◌∙◌, arith, Bool, true, false, cond, not, Option, Some, None, eqb-true}
use Rattle.std.proofs.lemmas.Bool.{and_parts}
use Rattle.std.proofs.lemmas.Bool.Decides.{nat_tests}
use Rattle.std.specs.Prelude.{if◌then◌else◌}
use Rattle.std.specs.List.{AllByRecursion, AllZip}
use Rattle.h5_model.specs.Format.Extent.{Extent, extent_of}
use Rattle.h5_model.specs.Edits.Refusal.{are_maxima, is_maximum}
use Rattle.h5_model.specs.Format.Limits.{most_dimensions}
use Rattle.h5_model.specs.Format.Sizes.{dataspace_length, message_size}
use Rattle.h5_model.specs.Tree.Objects.{are_sizes}
use Rattle.h5_model.specs.Format.Bodies.{dataspace_bytes, bounded_bytes, or_undefined}
use Rattle.h5_model.proofs.PaddedLaws.{padded_full}
use Rattle.h5_msg.proofs.WordLaws.{words_long, bounds_long}
use Rattle.h5_msg.proofs.DataspaceLaws.{Small, plain_back, bounded_back}
use Rattle.h5_repack.specs.Bodies.Bodies.{space_body}
use Rattle.h5_repack.specs.Bodies.Sound.{IsBound}

pub maxima_fit : (sizes : List ℕ) (maxima : List (Option ℕ)) → AllZip IsBound sizes maxima → are_maxima sizes maxima ≡ true
maxima_fit [] [] bound = refl
maxima_fit [] (m ∷ ms) bound = absurd bound
maxima_fit (d ∷ ds) [] bound = absurd bound
maxima_fit (d ∷ ds) (None ∷ ms) bound = maxima_fit ds ms bound.1
maxima_fit (d ∷ ds) (Some m ∷ ms) bound =
    let own : is_maximum d (Some m) ≡ true = let low = bound.0.0 in let other = bound.0.1 in grind (arith, nat_tests) in
    rw own (maxima_fit ds ms bound.1)

maxima_low : (sizes : List ℕ) (maxima : List (Option ℕ)) → AllZip IsBound sizes maxima → AllByRecursion (λ n. n < 2 ^ 64) (map or_undefined maxima)
maxima_low [] [] bound = tt
maxima_low [] (m ∷ ms) bound = absurd bound
maxima_low (d ∷ ds) [] bound = absurd bound
maxima_low (d ∷ ds) (None ∷ ms) bound = (omega arith, maxima_low ds ms bound.1)
maxima_low (d ∷ ds) (Some m ∷ ms) bound = (let low = bound.0.1 in omega (arith, low), maxima_low ds ms bound.1)

own_maxima : (sizes : List ℕ) (maxima : List (Option ℕ)) → are_sizes sizes maxima ≡ true → maxima ≡ map (λ (n : ℕ). Some n) sizes
own_maxima [] [] own = refl
own_maxima [] (m ∷ ms) own = absurd (cc)
own_maxima (d ∷ ds) [] own = absurd (cc)
own_maxima (d ∷ ds) (None ∷ ms) own = absurd (cc)
own_maxima (d ∷ ds) (Some m ∷ ms) own =
    let same : (m == d) ≡ true = (and_parts (m == d) (are_sizes ds ms) own).0 in
    (λ i. Some (eqb-true m d same i) ∷ own_maxima ds ms (and_parts (m == d) (are_sizes ds ms) own).1 i)

-- where no maxima are written, the cells are not in chunks, and each maximum is the size
pub no_maxima : (chunked own : Bool) → (chunked || not own) ≡ false → own ≡ true
no_maxima true own e = absurd (cc)
no_maxima false true e = refl
no_maxima false false e = absurd (cc)

module _ (chunked : Bool) (sizes : List ℕ) (maxima : List (Option ℕ)) where
  abbrev extent : Extent
  extent = record { sizes = sizes; maxima = maxima }

  -- whether maxima are written
  abbrev written : Bool
  written = chunked || not (are_sizes sizes maxima)

  abbrev body_by : Bool → List ℕ
  body_by b = cond b (bounded_bytes sizes maxima) (dataspace_bytes sizes)

  plain_read : length sizes ≤ most_dimensions → Small sizes → are_sizes sizes maxima ≡ true → extent_of (dataspace_bytes sizes) ≡ Some extent
  plain_read rank small own =
      plain_back sizes (length (dataspace_bytes sizes)) (dataspace_bytes sizes) rank small (sym (padded_full (dataspace_bytes sizes) (length (dataspace_bytes sizes)) refl))
      ∙ ap (λ (ms : List (Option ℕ)). Some (record { sizes = sizes; maxima = ms })) (sym (own_maxima sizes maxima own))

  bounded_read : length sizes ≤ most_dimensions → Small sizes → AllZip IsBound sizes maxima → extent_of (bounded_bytes sizes maxima) ≡ Some extent
  bounded_read rank small bound =
      bounded_back sizes maxima (length (bounded_bytes sizes maxima)) (bounded_bytes sizes maxima) rank small (maxima_fit sizes maxima bound)
      (maxima_low sizes maxima bound) (sym (padded_full (bounded_bytes sizes maxima) (length (bounded_bytes sizes maxima)) refl))

  -- an extent is read back
  pub space_back : length sizes ≤ most_dimensions → Small sizes → AllZip IsBound sizes maxima → extent_of (space_body chunked sizes maxima) ≡ Some extent
  space_back rank small bound = elim written as (λ b. written ≡ b → extent_of (body_by b) ≡ Some extent) [
    | true ↦ λ bounded. bounded_read rank small bound
    | false ↦ λ plain. plain_read rank small (no_maxima chunked (are_sizes sizes maxima) plain)
  ] refl

  -- 8 bytes, 8 for each size, and 8 more for each where there are maxima
  pub length-space_body : length maxima ≡ length sizes
      → length (space_body chunked sizes maxima) ≡ dataspace_length (length sizes) + (if chunked || not (are_sizes sizes maxima) then 8 * length sizes else 0)
  length-space_body same = elim written as (λ b. length (body_by b) ≡ dataspace_length (length sizes) + (if b then 8 * length sizes else 0)) [
    | true ↦ omega (arith, bounds_long sizes maxima same)
    | false ↦ omega (arith, words_long sizes)
  ]

by_length : (n rank : ℕ) (b : Bool) → rank ≤ most_dimensions → n ≡ dataspace_length rank + (if b then 8 * rank else 0) → (n % 8 ≡ 0) × (n < 65536) × (8 + n ≡ message_size n)
by_length n rank true most e = (omega (arith, e), omega (arith, most, e), omega (arith, e))
by_length n rank false most e = (omega (arith, e), omega (arith, most, e), omega (arith, e))

-- a multiple of 8 bytes, which a message may have
pub space_padded : (chunked : Bool) (sizes : List ℕ) (maxima : List (Option ℕ)) → length sizes ≤ most_dimensions → length maxima ≡ length sizes
    → (length (space_body chunked sizes maxima) % 8 ≡ 0) × (length (space_body chunked sizes maxima) < 65536)
    × (8 + length (space_body chunked sizes maxima) ≡ message_size (length (space_body chunked sizes maxima)))
space_padded chunked sizes maxima rank same =
    by_length (length (space_body chunked sizes maxima)) (length sizes) (chunked || not (are_sizes sizes maxima)) rank (length-space_body chunked sizes maxima same)

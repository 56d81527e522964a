-- The maxima of an array that is read are not below its sizes, and can be told from none (File Format
-- Specification 3.0, section IV.A.2.b).
use Rattle.std.proofs.Common.{◌≡◌, ℕ, zero, suc, ◌+◌, ◌*◌, ◌^◌, ◌<◌, ◌≤◌, List, map, Some, None, true, false, cond, refl, subst, arith}
use Rattle.std.specs.Prelude.{nat_le, ◌==◌}
use Rattle.std.specs.Option.{IfSome}
use Rattle.std.specs.List.{AllByRecursion, AllZip, range_with_len}
use Rattle.std.proofs.lemmas.Bool.Decides.{nat_tests}
use Rattle.std.proofs.lemmas.Option.{cond_some}
use Rattle.h5_bytes.specs.Bytes.{number_at, undefined_address}
use Rattle.h5_model.specs.Format.Extent.{Extent, extent_of, extent_in, is_dataspace, rank_in, size_in, maximum_in, maximum_from, maximum_fits, has_maxima}
use Rattle.h5_model.specs.Format.Limits.{most_cells}
use Rattle.h5_model.specs.Scripts.Tests.{each_below}
use Rattle.h5_model.specs.Tree.Places.{extent_cells}
use Rattle.h5_model.proofs.TestLaws.{each_below_at}
use Rattle.h5_layout.proofs.ExtentBounds.{sizes_below}
use Rattle.h5_repack.specs.Bodies.Sound.{IsBound}
use Rattle.h5_edit.specs.Fits.Laws.{AreBytes}
use Rattle.h5_edit.proofs.FitLaws.PlainBodies.{long_low}

-- ---- maxima that are read

module _ (body : List ℕ) (low : AreBytes body) (form : is_dataspace body ≡ true) where
  maximum_bounded : (k : ℕ) → k < rank_in body → size_in body k ≤ most_cells → IsBound (size_in body k) (maximum_in body k)
  unfolding maximum_fits
  maximum_bounded k below few =
      let n = number_at body (8 + 8 * rank_in body + 8 * k) 8 in
      elim (has_maxima body) as (λ b. has_maxima body ≡ b → IfSome (cond b (maximum_from n) (Some (size_in body k))) (λ m. (size_in body k ≤ m) × (m < undefined_address))) [
        | true ↦ λ flag.
            let all : each_below (rank_in body) (maximum_fits body) ≡ true = grind (arith, nat_tests, form, flag) in
            let above : nat_le (size_in body k) n ≡ true = each_below_at (rank_in body) (maximum_fits body) k all below in
            elim (n == undefined_address) as (λ c. (n == undefined_address) ≡ c → IfSome (cond c None (Some n)) (λ m. (size_in body k ≤ m) × (m < undefined_address))) [
              | true ↦ λ _. tt
              | false ↦ λ other. (grind (arith, nat_tests, above), let low_n : n < 2 ^ 64 = long_low body (8 + 8 * rank_in body + 8 * k) low in grind (arith, nat_tests, other, low_n))
            ] refl
        | false ↦ λ _. (omega arith, omega (arith, few))
      ] refl

  each_bounded : (from n : ℕ) → from + n ≤ rank_in body → AllByRecursion (λ s. s ≤ most_cells) (map (size_in body) (range_with_len from n))
      → AllZip IsBound (map (size_in body) (range_with_len from n)) (map (maximum_in body) (range_with_len from n))
  each_bounded from zero within few = tt
  each_bounded from (suc n) within few = (maximum_bounded from (omega (arith, within)) few.0, each_bounded (from + 1) n (omega (arith, within)) few.1)

pub read_bounded : (body : List ℕ) (x : Extent) → AreBytes body → extent_of body ≡ Some x → extent_cells x.sizes ≤ most_cells → AllZip IsBound x.sizes x.maxima
unfolding extent_of
read_bounded body x low h =
    let p = cond_some (is_dataspace body) (extent_in body) x h in
    subst (λ (e : Extent). extent_cells e.sizes ≤ most_cells → AllZip IsBound e.sizes e.maxima) p.1
    (λ small. each_bounded body low p.0 0 (rank_in body) (omega arith) (sizes_below (map (size_in body) (range_with_len 0 (rank_in body))) most_cells small))

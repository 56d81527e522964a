-- Where a text ends.
use Rattle.std.proofs.Common.{◌≡◌, ◌≢◌, ℕ, zero, suc, ◌<◌, ◌≤◌, List, [], ◌∷◌, length, get_or, take, refl, ap, arith, false}
use Rattle.std.specs.Prelude.{◌==◌}
use Rattle.std.proofs.lemmas.Bool.Decides.{nat_tests}
use Rattle.h5_bytes.specs.Texts.{until_zero}

-- a text ends at the first zero, or where the bytes end
pub until_at : (xs : List ℕ) (k : ℕ) → k ≤ length xs → ((j : ℕ) → j < k → get_or xs j 0 ≢ 0) → get_or xs k 0 ≡ 0 → until_zero xs ≡ take k xs
until_at [] zero low before here = refl
until_at [] (suc k) low before here = absurd (omega arith)
until_at (x ∷ xs) zero low before here = rw here refl
until_at (x ∷ xs) (suc k) low before here =
    let other : x ≢ 0 = before 0 (omega arith) in
    let test : (x == 0) ≡ false = grind (arith, nat_tests) in
    rw test (ap (λ (ys : List ℕ). x ∷ ys) (until_at xs k (omega arith) (λ j less. before (suc j) (omega arith)) here))

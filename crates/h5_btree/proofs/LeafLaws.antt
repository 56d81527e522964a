-- What stands below a row of two parts is what stands below the first, and then below the second.
use Rattle.std.proofs.Common.{◌≡◌, ℕ, zero, suc, List, [], ◌++◌, refl, ap, ◌∙◌}
use Rattle.std.proofs.lemmas.Grind.{flat_map-append}
use Rattle.h5_model.specs.Format.Rows.{Reading, next_row, leaves}

module _ (V : Reading) where
  pub next_row-append : (xs ys : List ℕ) → next_row V (xs ++ ys) ≡ next_row V xs ++ next_row V ys
  next_row-append xs ys = flat_map-append (λ n. (V n).children) xs ys

  pub leaves-append : (level : ℕ) (xs ys : List ℕ) → leaves V level (xs ++ ys) ≡ leaves V level xs ++ leaves V level ys
  leaves-append zero xs ys = next_row-append xs ys
  leaves-append (suc level) xs ys = ap (leaves V level) (next_row-append xs ys) ∙ leaves-append level (next_row V xs) (next_row V ys)

  -- below an empty row there is nothing
  pub leaves-nil : (level : ℕ) → leaves V level [] ≡ []
  leaves-nil zero = refl
  leaves-nil (suc level) = leaves-nil level

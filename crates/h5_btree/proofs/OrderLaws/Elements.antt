-- What holds of each element of a list, as far as it was looked at.
use Rattle.std.proofs.Common.{◌≡◌, ℕ, ◌+◌, ◌<◌, ◌≤◌, List, [], ◌∷◌, ◌++◌, length, take, get_or, ap, ◌∙◌, subst}
use Rattle.std.specs.List.{AllByRecursion}
use Rattle.std.proofs.lemmas.List.{take_more, take_all}
use Rattle.std.proofs.lemmas.List.Elements.{All-get_or, All-from_recursion}
use Rattle.h5_bytes.proofs.BlockLaws.{all_append}

module _ {X : Type 0} (P : X → Type 0) (xs : List X) where
  pub all_at : (k : ℕ) (x : X) → k < length xs → get_or xs k x ≡ x → AllByRecursion P xs → P x
  all_at k x low is all = subst P is (All-get_or P xs k x low (All-from_recursion P xs all))

  pub all_more : (k : ℕ) (x : X) → k < length xs → get_or xs k x ≡ x → AllByRecursion P (take k xs) → P x → AllByRecursion P (take (k + 1) xs)
  all_more k x low is all here =
      let more : take (k + 1) xs ≡ take k xs ++ x ∷ [] = take_more xs k x low ∙ ap (λ (y : X). take k xs ++ y ∷ []) is in
      rw more (all_append P (take k xs) (x ∷ []) all (here, tt))

  pub all_done : (k : ℕ) → length xs ≤ k → AllByRecursion P (take k xs) → AllByRecursion P xs
  all_done k end all = rw (take_all k xs end) at all

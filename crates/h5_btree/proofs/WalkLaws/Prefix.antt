-- The first elements of a list, one after another.
use Rattle.std.proofs.Common.{◌≡◌, ℕ, ◌+◌, ◌<◌, ◌≤◌, List, [], ◌∷◌, ◌++◌, length, take, drop, get_or, slice_get, Some, sym, ap, subst, inl, inr, ◌∙◌, arith, add-one}
use Rattle.std.specs.Prelude.{unwrap_or}
use Rattle.std.proofs.lemmas.Bool.{cases_lt}
use Rattle.std.proofs.Math.Seq.{take-suc}
use Rattle.std.proofs.lemmas.Option.{slice_get-get_or}
use Rattle.std.proofs.lemmas.List.{length-take, take-append-drop}

pub prefix_long : (xs : List ℕ) (i : ℕ) → i ≤ length xs → length (take i xs) ≡ i
prefix_long xs i low = omega (arith, length-take i xs)

-- what is got at a place stands there
pub got_is : {X : Type 0} (xs : List X) (i : ℕ) (x d : X) → i < length xs → slice_get xs i ≡ Some x → get_or xs i d ≡ x
got_is xs i x d low got = ap (λ o. unwrap_or o d) (sym (slice_get-get_or xs i d low) ∙ got)

pub prefix_next : (xs : List ℕ) (i x : ℕ) → i < length xs → slice_get xs i ≡ Some x → take (i + 1) xs ≡ take i xs ++ x ∷ []
prefix_next xs i x low got = rw add-one (take-suc xs i x low ∙ ap (λ (y : ℕ). take i xs ++ y ∷ []) (got_is xs i x x low got))

-- the elements before one, that one, and those behind it
pub prefix_split : (xs : List ℕ) (i x : ℕ) → i < length xs → slice_get xs i ≡ Some x → xs ≡ (take i xs ++ x ∷ []) ++ drop (i + 1) xs
prefix_split xs i x low got = sym (take-append-drop (i + 1) xs) ∙ ap (λ (ys : List ℕ). ys ++ drop (i + 1) xs) (prefix_next xs i x low got)

-- what holds below k, and at k, holds below the next number
pub next_case : (P : ℕ → Type 0) (k : ℕ) → ((j : ℕ) → j < k → P j) → P k → (j : ℕ) → j < k + 1 → P j
next_case P k below here j low = elim (cases_lt j k) [
  | inl few ↦ below j few
  | inr past ↦ let same : k ≡ j = omega (arith, low, past) in subst P same here
]

-- The test whether a number is among some, and numbers of which none stands twice.
use Rattle.std.proofs.Common.{◌≡◌, inl, inr, ℕ, Bool, true, false, List, [], ◌∷◌, ◌++◌, refl, sym, ap, ◌∙◌, arith}
use Rattle.std.specs.Prelude.{◌==◌, ◌||◌}
use Rattle.std.specs.List.{IsDistinct}
use Rattle.std.specs.Ordering.{eq_by_cmp, nat_cmp}
use Rattle.std.specs.Cmp.{unsigned_tied}
use Rattle.std.proofs.lemmas.Bool.Decides.{nat_tests}
use Rattle.std.proofs.lemmas.Map.Keys.{IsDistinct-head, IsDistinct-tail}
use Rattle.h5_laws.proofs.Lists.{In, in_all, in_either}
use Rattle.h5_open.specs.ChangedInPlace.{is_among}
use Rattle.h5_open.specs.SlotsInPlace.{AreOnce}

pub among_in : (numbers : List ℕ) (n : ℕ) → is_among numbers n ≡ true → In n numbers
among_in [] n is = absurd (let never : false ≡ true = is in cc)
among_in (m ∷ numbers) n is = go (m == n) refl is (among_in numbers n) where
  go : (b : Bool) → (m == n) ≡ b → (b || is_among numbers n) ≡ true → (is_among numbers n ≡ true → In n numbers) → In n (m ∷ numbers)
  go true same mine more = inl (grind (arith, nat_tests, same))
  go false other mine more = inr (more mine)

pub in_among : (numbers : List ℕ) (n : ℕ) → In n numbers → is_among numbers n ≡ true
in_among [] n at = absurd at
in_among (m ∷ numbers) n (inl same) =
    let here : (m == n) ≡ true = grind (arith, nat_tests, same) in
    ap (λ (b : Bool). b || is_among numbers n) here
in_among (m ∷ numbers) n (inr at) = go (m == n) (in_among numbers n at) where
  go : (b : Bool) → is_among numbers n ≡ true → (b || is_among numbers n) ≡ true
  go true mine = refl
  go false mine = mine

pub not_among : (numbers : List ℕ) (n : ℕ) → (In n numbers → ⊥) → is_among numbers n ≡ false
not_among numbers n out = go (is_among numbers n) refl where
  go : (b : Bool) → is_among numbers n ≡ b → is_among numbers n ≡ false
  go true mine = absurd (out (among_in numbers n mine))
  go false other = other

pub none_among : (numbers : List ℕ) (n : ℕ) → is_among numbers n ≡ false → In n numbers → ⊥
none_among numbers n out at = let never : true ≡ false = sym (in_among numbers n at) ∙ out in absurd (cc)

pub once_distinct : (numbers : List ℕ) → IsDistinct (eq_by_cmp nat_cmp) numbers → AreOnce numbers
once_distinct [] distinct = tt
once_distinct (n ∷ numbers) distinct = (
  not_among numbers n (λ at. itself (in_all (λ (m : ℕ). eq_by_cmp nat_cmp n m ≡ false) n numbers (IsDistinct-head (eq_by_cmp nat_cmp) n numbers distinct) at)),
  once_distinct numbers (IsDistinct-tail (eq_by_cmp nat_cmp) n numbers distinct),
) where
  itself : eq_by_cmp nat_cmp n n ≡ false → ⊥
  itself never =
      let differs : (n == n) ≡ false = sym (unsigned_tied n n) ∙ never in
      grind (arith, nat_tests, differs)

pub once_append : (m n : List ℕ) → AreOnce m → AreOnce n → ((k : ℕ) → In k m → In k n → ⊥) → AreOnce (m ++ n)
once_append [] n first second apart = second
once_append (k ∷ m) n first second apart = (
  not_among (m ++ n) k (λ at. elim (in_either k m n at) [
    | inl here ↦ none_among m k first.0 here
    | inr there ↦ apart k (inl refl) there
  ]),
  once_append m n first.1 second (λ j here there. apart j (inr here) there),
)

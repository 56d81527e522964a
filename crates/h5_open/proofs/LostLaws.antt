-- Objects that have lost links, as one link after another is counted.
use Rattle.std.proofs.Common.{◌≡◌, ◌⊎◌, inl, inr, ℕ, zero, suc, ◌+◌, ◌<◌, ◌≤◌, ◌==◌, Bool, true, false, List, [], ◌∷◌, ◌++◌, get_or, length, take, refl, sym, ap, ◌∙◌, subst, arith, Some, append_assoc}
use Rattle.std.specs.Prelude.{if◌then◌else◌, unwrap_or}
use Rattle.std.proofs.lemmas.Bool.Decides.{nat_tests}
use Rattle.std.proofs.lemmas.List.{append-nil}
use Rattle.std.specs.Cmp.{unsigned_tied}
use Rattle.std.specs.BTreeMap.{BTreeMap, IsEmpty, Updates, is_at}
use Rattle.std.specs.Map.{lookup as find}
use Rattle.std.specs.List.{Contains}
use Rattle.std.specs.Ordering.{nat_cmp, eq_by_cmp}
use Rattle.h5_laws.proofs.Lists.{In, contains_in, in_contains, in_either, in_left, in_right}
use Rattle.h5_laws.proofs.Pigeonhole.{Apart, apart_of_distinct, distinct_of_apart, apart_push}
use Rattle.h5_group.proofs.LinkLists.{in_take}
use Rattle.h5_open.specs.LostLinks.{HaveLostLinks, AreMoreLost, links_lost}
use Rattle.h5_open.specs.declared.opened.losses.LostLinks.{LostLinks}

-- ---- elements of a list, and the first of them

pub apart_take : (k : ℕ) (xs : List ℕ) → Apart xs → Apart (take k xs)
apart_take zero xs apart = tt
apart_take (suc k) [] apart = tt
apart_take (suc k) (x ∷ xs) apart = ((λ at. apart.0 (in_take x xs k at)), apart_take k xs apart.1)

-- an element that is read is one of the list
pub in_get : {X : Type 0} (xs : List X) (i : ℕ) (d : X) → i < length xs → In (get_or xs i d) xs
in_get [] i d low = absurd (omega (arith, low))
in_get (x ∷ xs) zero d low = inl refl
in_get (x ∷ xs) (suc i) d low = inr (in_get xs i d (omega (arith, low)))

-- ---- no link yet

pub none_of : (counts : BTreeMap ℕ ℕ) → IsEmpty counts → (n : ℕ) → links_lost counts n ≡ 0
none_of counts empty n = ap (λ (es : List (ℕ × ℕ)). unwrap_or (find (is_at (nat_cmp n)) es) 0) empty

pub none_lost : (numbers : List ℕ) (counts : BTreeMap ℕ ℕ) → numbers ≡ [] → IsEmpty counts → HaveLostLinks numbers counts
none_lost numbers counts none empty =
    subst (λ (ns : List ℕ). HaveLostLinks ns counts) (sym none) (record {
      once = distinct_of_apart [] tt;
      each = λ n. ((λ at. absurd (in_contains n [] at)), (λ some. absurd (omega (arith, some, none_of counts empty n))));
    })

-- ---- one link more

pub at_itself : (number : ℕ) → ◌≡◌ {A = ℕ} (if number == number then 1 else 0) 1
at_itself number = let same : (number == number) ≡ true = grind (arith, nat_tests) in ap {B = ℕ} (λ (b : Bool). if b then 1 else 0) same

-- the count of the object is put one higher
pub lost_put : (old new : BTreeMap ℕ ℕ) (number before : ℕ) → before ≡ links_lost old number → Updates nat_cmp old new number (Some (before + 1))
    → (n : ℕ) → links_lost new n ≡ links_lost old n + (if n == number then 1 else 0)
lost_put old new number before had is n = go (n == number) refl where
  go : (b : Bool) → (n == number) ≡ b → links_lost new n ≡ links_lost old n + (if b then 1 else 0)
  go true e =
      let same : n ≡ number = grind (arith, nat_tests, e) in
      let now = ap (λ o. unwrap_or o 0) is.1 in
      let at = ap (links_lost new) same in
      let was = ap (links_lost old) same in
      omega (arith, now, at, was, had)
  go false e =
      let other : eq_by_cmp nat_cmp number n ≡ false = unsigned_tied number n ∙ let tested : (number == n) ≡ false = grind (arith, nat_tests, e) in tested in
      let kept = ap (λ o. unwrap_or o 0) (is.2 n other) in
      omega (arith, kept)

module _ (numbers : List ℕ) (old new : BTreeMap ℕ ℕ) (number : ℕ) (are : HaveLostLinks numbers old) (more : (n : ℕ) → links_lost new n ≡ links_lost old n + (if n == number then 1 else 0)) where
  -- it has lost one now, and any other as many as before
  had_or : (n : ℕ) → 1 ≤ links_lost new n → (n ≡ number) ⊎ (1 ≤ links_lost old n)
  had_or n lost = go (n == number) refl where
    go : (b : Bool) → (n == number) ≡ b → (n ≡ number) ⊎ (1 ≤ links_lost old n)
    go true e = inl (let same : n ≡ number = grind (arith, nat_tests, e) in same)
    go false e = inr (let none = ap {B = ℕ} (λ (b : Bool). if b then 1 else 0) e in omega (arith, lost, more n, none))

  has_now : 1 ≤ links_lost new number
  has_now = omega (arith, more number, at_itself number)

  -- it had lost one
  pub lost_again : 1 ≤ links_lost old number → HaveLostLinks numbers new
  lost_again some = record {
    once = are.once;
    each = λ n. (
      (λ there. let had = (are.each n).0 there in omega (arith, more n, had)),
      (λ lost. elim (had_or n lost) [
        | inl same ↦ subst (Contains numbers) (sym same) ((are.each number).1 some)
        | inr had ↦ (are.each n).1 had
      ]),
    );
  }

  -- it had lost none
  pub lost_first : links_lost old number ≡ 0 → HaveLostLinks (numbers ++ number ∷ []) new
  lost_first none = record {
    once = distinct_of_apart (numbers ++ number ∷ []) (apart_push numbers number (apart_of_distinct numbers are.once) (λ at.
        let had = (are.each number).0 (contains_in number numbers at) in omega (arith, none, had)));
    each = λ n. (
      (λ there. elim (in_either n numbers (number ∷ []) (in_contains n (numbers ++ number ∷ []) there)) [
        | inl old ↦ let had = (are.each n).0 (contains_in n numbers old) in omega (arith, more n, had)
        | inr last ↦ elim last [
          | inl same ↦ subst (λ (k : ℕ). 1 ≤ links_lost new k) same has_now
          | inr never ↦ absurd never
        ]
      ]),
      (λ lost. elim (had_or n lost) [
        | inl same ↦ contains_in n (numbers ++ number ∷ []) (in_right n numbers (number ∷ []) (inl (sym same)))
        | inr had ↦ contains_in n (numbers ++ number ∷ []) (in_left n numbers (number ∷ []) (in_contains n numbers ((are.each n).1 had)))
      ]),
    );
  }

-- ---- several links more

pub more_none : (lost : LostLinks) → HaveLostLinks lost.numbers.items lost.counts → AreMoreLost lost lost (λ n. 0)
more_none lost are = record { lost = are; counts = λ n. omega arith; behind = []; numbers = sym (append-nil lost.numbers.items) }

pub more_then : (old mid new : LostLinks) (a b : ℕ → ℕ) → AreMoreLost old mid a → AreMoreLost mid new b → AreMoreLost old new (λ n. a n + b n)
more_then old mid new a b first second = record {
  lost = second.lost;
  counts = λ n. omega (arith, first.counts n, second.counts n);
  behind = first.behind ++ second.behind;
  numbers = second.numbers ∙ ap (λ (ns : List ℕ). ns ++ second.behind) first.numbers ∙ append_assoc old.numbers.items first.behind second.behind;
}

pub more_is : (old new : LostLinks) (a b : ℕ → ℕ) → ((n : ℕ) → a n ≡ b n) → AreMoreLost old new a → AreMoreLost old new b
more_is old new a b same is = record { lost = is.lost; counts = λ n. is.counts n ∙ ap (λ (k : ℕ). links_lost old.counts n + k) (same n); behind = is.behind; numbers = is.numbers }

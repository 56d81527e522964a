-- As many different fields as name a header are among the links that lead to it.
use Rattle.std.proofs.Common.{◌≡◌, inl, inr, ℕ, zero, suc, ◌+◌, ◌≤◌, List, [], ◌∷◌, ◌++◌, length, refl, sym, ap, ◌∙◌, subst, arith, eqb, true, false, Some}
use Rattle.std.proofs.lemmas.Bool.Decides.{nat_tests}
use Rattle.std.specs.Prelude.{◌==◌, if◌then◌else◌, slice_get}
use Rattle.std.specs.Ordering.{nat_cmp, eq_by_cmp}
use Rattle.std.specs.Cmp.{unsigned_tied}
use Rattle.std.specs.List.{AllByRecursion, IsDistinct}
use Rattle.std.proofs.lemmas.Map.Keys.{IsDistinct-head, IsDistinct-tail, IsDistinct-cons}
use Rattle.h5_laws.proofs.Lists.{In, in_all, all_in, in_at, in_either}

-- how many of these fields lead to a header
abbrev pub linking : ℕ → List (ℕ × ℕ) → ℕ
linking h [] = 0
linking h (z ∷ zs) = (if z.1 == h then 1 else 0) + linking h zs

pub linking-append : (h : ℕ) (xs ys : List (ℕ × ℕ)) → linking h (xs ++ ys) ≡ linking h xs + linking h ys
linking-append h [] ys = omega arith
linking-append h (z ∷ xs) ys = omega (arith, linking-append h xs ys)

-- no number stands twice
abbrev pub Apart : List ℕ → Type 0
Apart [] = Unit {0}
Apart (x ∷ xs) = (In x xs → ⊥) × Apart xs

-- a number more, which was none of them
pub apart_push : (xs : List ℕ) (y : ℕ) → Apart xs → (In y xs → ⊥) → Apart (xs ++ y ∷ [])
apart_push [] y apart other = ((λ never. never), tt)
apart_push (x ∷ xs) y apart other = (
  (λ at. elim (in_either x xs (y ∷ []) at) [
    | inl there ↦ apart.0 there
    | inr last ↦ elim last [ inl same ↦ other (inl (sym same)) | inr never ↦ never ]
  ]),
  apart_push xs y apart.1 (λ at. other (inr at)),
)

-- a number that stands once stands at one place
pub one_place : (xs : List ℕ) → Apart xs → (a b x : ℕ) → slice_get xs a ≡ Some x → slice_get xs b ≡ Some x → a ≡ b
one_place [] apart a b x p q = absurd (cc)
one_place (y ∷ xs) apart zero zero x p q = refl
one_place (y ∷ xs) apart zero (suc b) x p q = absurd (apart.0 (in_at xs b y (q ∙ sym p)))
one_place (y ∷ xs) apart (suc a) zero x p q = absurd (apart.0 (in_at xs a y (p ∙ sym q)))
one_place (y ∷ xs) apart (suc a) (suc b) x p q = ap suc (one_place xs apart.1 a b x p q)

head_apart : (x : ℕ) (xs : List ℕ) → AllByRecursion (λ y. eq_by_cmp nat_cmp x y ≡ false) xs → In x xs → ⊥
head_apart x xs all at =
    let not_same : eq_by_cmp nat_cmp x x ≡ false = in_all (λ y. eq_by_cmp nat_cmp x y ≡ false) x xs all at in
    let itself : eqb x x ≡ true = grind (arith, nat_tests) in
    let never : false ≡ true = sym not_same ∙ unsigned_tied x x ∙ itself in
    absurd (cc)

pub apart_of_distinct : (xs : List ℕ) → IsDistinct (eq_by_cmp nat_cmp) xs → Apart xs
apart_of_distinct [] is = tt
apart_of_distinct (x ∷ xs) is =
    (head_apart x xs (IsDistinct-head (eq_by_cmp nat_cmp) x xs is), apart_of_distinct xs (IsDistinct-tail (eq_by_cmp nat_cmp) x xs is))

other_tested : (x y : ℕ) → (y ≡ x → ⊥) → eq_by_cmp nat_cmp x y ≡ false
other_tested x y other = unsigned_tied x y ∙ let tested : eqb x y ≡ false = grind (arith, nat_tests, other) in tested

pub distinct_of_apart : (xs : List ℕ) → Apart xs → IsDistinct (eq_by_cmp nat_cmp) xs
unfolding IsDistinct
distinct_of_apart [] apart = tt
distinct_of_apart (x ∷ xs) apart =
    IsDistinct-cons (eq_by_cmp nat_cmp) x xs
    (all_in (λ y. eq_by_cmp nat_cmp x y ≡ false) xs (λ y at. other_tested x y (λ e. apart.0 (subst (λ (z : ℕ). In z xs) e at))))
    (distinct_of_apart xs apart.1)

-- a list around a member
pub split_in : {X : Type 0} (x : X) (xs : List X) → In x xs → (before : List X) × (after : List X) × (xs ≡ before ++ x ∷ after)
split_in x [] at = absurd at
split_in {X = X} x (y ∷ ys) (inl e) = ([], ys, ap (λ (z : X). z ∷ ys) e)
split_in {X = X} x (y ∷ ys) (inr at) = let rest = split_in x ys at in (y ∷ rest.0, rest.1, ap (λ (zs : List X). y ∷ zs) rest.2)

-- another member stands in what is left
pub left_over : {X : Type 0} (y x : X) (before after : List X) → (x ≡ y → ⊥) → In y (before ++ x ∷ after) → In y (before ++ after)
left_over y x [] after other (inl e) = absurd (other e)
left_over y x [] after other (inr at) = at
left_over y x (z ∷ before) after other (inl e) = inl e
left_over y x (z ∷ before) after other (inr at) = inr (left_over y x before after other at)

linking_here : (h f : ℕ) → linking h ((f, h) ∷ []) ≡ 1
linking_here h f = let same : (h == h) ≡ true = grind (arith, nat_tests) in rw same refl

linking_split : (h f : ℕ) (before after : List (ℕ × ℕ)) → linking h (before ++ (f, h) ∷ after) ≡ 1 + linking h (before ++ after)
linking_split h f before after =
    let a = linking-append h before ((f, h) ∷ after) in
    let b = linking-append h before after in
    let c : linking h ((f, h) ∷ after) ≡ linking h ((f, h) ∷ []) + linking h after = linking-append h ((f, h) ∷ []) after in
    omega (arith, a, b, c, linking_here h f)

pub no_more : (h : ℕ) (fields : List ℕ) (links : List (ℕ × ℕ)) → Apart fields → ((f : ℕ) → In f fields → In (f, h) links) → length fields ≤ linking h links
no_more h [] links apart all = omega arith
no_more h (f ∷ fields) links apart all =
    let s = split_in (f, h) links (all f (inl refl)) in
    let rest = no_more h fields (s.0 ++ s.1) apart.1 (λ g at.
    left_over (g, h) (f, h) s.0 s.1
    (λ e. apart.0 (subst (λ (n : ℕ). In n fields) (sym (ap (λ (z : ℕ × ℕ). z.0) e)) at))
    (subst (In (g, h)) s.2 (all g (inr at)))) in
    let count : linking h links ≡ 1 + linking h (s.0 ++ s.1) = ap (linking h) s.2 ∙ linking_split h f s.0 s.1 in
    omega (arith, rest, count)

-- and different numbers that are all in a list are no more than it has
pub no_longer : (xs ys : List ℕ) → Apart xs → ((x : ℕ) → In x xs → In x ys) → length xs ≤ length ys
no_longer [] ys apart all = omega arith
no_longer (x ∷ xs) ys apart all =
    let s = split_in x ys (all x (inl refl)) in
    let rest = no_longer xs (s.0 ++ s.1) apart.1 (λ y at.
    left_over y x s.0 s.1 (λ e. apart.0 (subst (λ (n : ℕ). In n xs) (sym e) at)) (subst (In y) s.2 (all y (inr at)))) in
    let count : length ys ≡ 1 + length (s.0 ++ s.1) = ap length s.2 ∙ longer s.0 s.1 in
    omega (arith, rest, count) where
      longer : (before after : List ℕ) → length (before ++ x ∷ after) ≡ 1 + length (before ++ after)
      longer [] after = omega arith
      longer (z ∷ before) after = omega (arith, longer before after)

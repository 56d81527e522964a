-- Sums over lists that have the same members, each once, in whatever order.
use Rattle.std.proofs.Common.{◌≡◌, ℕ, ◌+◌, List, [], ◌∷◌, ◌++◌, map, refl, sym, ap, ◌∙◌, subst, arith, inl, inr}
use Rattle.std.specs.Prelude.{sum_by}
use Rattle.std.proofs.lemmas.List.Sums.{sum_by-cons}
use Rattle.h5_laws.proofs.Lists.{In, in_left, in_right, in_either, in_map}
use Rattle.h5_laws.proofs.Pigeonhole.{Apart, split_in, left_over}

-- ---- sums

abbrev pub total : {X : Type 0} → (X → ℕ) → List X → ℕ
total f [] = 0
total f (x ∷ xs) = f x + total f xs

pub total-sum_by : {X : Type 0} (f : X → ℕ) (xs : List X) → sum_by f xs ≡ total f xs
total-sum_by f [] = refl
total-sum_by f (x ∷ xs) = sum_by-cons f x xs ∙ ap (λ n. f x + n) (total-sum_by f xs)

total-append : {X : Type 0} (f : X → ℕ) (xs ys : List X) → total f (xs ++ ys) ≡ total f xs + total f ys
total-append f [] ys = omega arith
total-append f (x ∷ xs) ys = omega (arith, total-append f xs ys)

total-around : {X : Type 0} (f : X → ℕ) (before : List X) (x : X) (after : List X) → total f (before ++ x ∷ after) ≡ f x + total f (before ++ after)
total-around f before x after = omega (arith, total-append f before (x ∷ after), total-append f before after)

-- ---- members that stand once

abbrev pub Once : {X : Type 0} → List X → Type 0
Once [] = Unit {0}
Once (x ∷ xs) = (In x xs → ⊥) × Once xs

-- where no key stands twice
pub once_by_key : {X : Type 0} (xs : List (ℕ × X)) → Apart (map (λ (x : ℕ × X). x.0) xs) → Once xs
once_by_key [] apart = tt
once_by_key {X = X} (x ∷ xs) apart = ((λ at. apart.0 (in_map (λ (y : ℕ × X). y.0) x xs at)), once_by_key xs apart.1)

in_around : {X : Type 0} (y x : X) (before after : List X) → In y (before ++ after) → In y (before ++ x ∷ after)
in_around y x before after at = elim (in_either y before after at) [
  | inl left ↦ in_left y before (x ∷ after) left
  | inr right ↦ in_right y before (x ∷ after) (inr right)
]

once_around : {X : Type 0} (x : X) (before after : List X) → Once (before ++ x ∷ after) → Once (before ++ after)
once_around x [] after once = once.1
once_around x (z ∷ before) after once = ((λ at. once.0 (in_around z x before after at)), once_around x before after once.1)

alone_around : {X : Type 0} (x : X) (before after : List X) → Once (before ++ x ∷ after) → In x (before ++ after) → ⊥
alone_around x [] after once at = once.0 at
alone_around x (z ∷ before) after once (inl e) = once.0 (subst (λ w. In w (before ++ x ∷ after)) (sym e) (in_right x before (x ∷ after) (inl refl)))
alone_around x (z ∷ before) after once (inr at) = alone_around x before after once.1 at

-- ---- the same members

-- lists of the same members, each once, have the same sum
pub total-same : {X : Type 0} (f : X → ℕ) (xs ys : List X) → Once xs → Once ys → ((x : X) → In x xs → In x ys) → ((x : X) → In x ys → In x xs) → total f xs ≡ total f ys
total-same f [] [] once once' into back = refl
total-same f [] (y ∷ ys) once once' into back = absurd (back y (inl refl))
total-same {X = X} f (x ∷ xs) ys once once' into back =
    let s = split_in x ys (into x (inl refl)) in
    let around : Once (s.0 ++ x ∷ s.1) = subst (λ (zs : List X). Once zs) s.2 once' in
    let rest : total f xs ≡ total f (s.0 ++ s.1) = total-same f xs (s.0 ++ s.1) once.1 (once_around x s.0 s.1 around)
    (λ y at. left_over y x s.0 s.1 (λ e. once.0 (subst (λ (z : X). In z xs) (sym e) at)) (subst (λ (zs : List X). In y zs) s.2 (into y (inr at))))
    (λ y at. left_over y x [] xs (λ e. alone_around x s.0 s.1 around (subst (λ (z : X). In z (s.0 ++ s.1)) (sym e) at))
    (back y (subst (λ (zs : List X). In y zs) (sym s.2) (in_around y x s.0 s.1 at)))) in
    ap (λ n. f x + n) rest ∙ sym (total-around f s.0 x s.1) ∙ sym (ap (total f) s.2)

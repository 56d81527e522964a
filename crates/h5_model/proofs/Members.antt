-- Members of lists.
use Rattle.std.proofs.Common.{◌≡◌, ◌⊎◌, ℕ, zero, suc, ◌+◌, ◌<◌, ◌≤◌, inl, inr, List, [], ◌∷◌, length, Bool, true, false, cond, map, refl, sym, ap, ◌∙◌, subst, arith}
use Rattle.std.specs.List.{AllByRecursion, Contains, filter, range_with_len}

-- x is one of the list
abbrev pub In : {X : Type 0} → X → List X → Type 0
In x [] = ⊥
In x (y ∷ ys) = (y ≡ x) ⊎ In x ys

pub all_in : {X : Type 0} (P : X → Type 0) (xs : List X) → ((x : X) → In x xs → P x) → AllByRecursion P xs
all_in P [] f = tt
all_in P (y ∷ ys) f = (f y (inl refl), all_in P ys (λ x at. f x (inr at)))

-- two facts of each
pub all_both : {X : Type 0} (P Q : X → Type 0) (xs : List X) → AllByRecursion P xs → AllByRecursion Q xs → AllByRecursion (λ x. P x × Q x) xs
all_both P Q [] first second = tt
all_both P Q (x ∷ xs) first second = ((first.0, second.0), all_both P Q xs first.1 second.1)

pub in_map : {X Y : Type 0} (f : X → Y) (x : X) (xs : List X) → In x xs → In (f x) (map f xs)
in_map f x [] at = absurd at
in_map f x (y ∷ ys) (inl e) = inl (ap f e)
in_map f x (y ∷ ys) (inr at) = inr (in_map f x ys at)

pub from_map : {X Y : Type 0} (f : X → Y) (y : Y) (xs : List X) → In y (map f xs) → (x : X) × In x xs × (f x ≡ y)
from_map f y [] at = absurd at
from_map f y (x ∷ xs) (inl e) = (x, inl refl, e)
from_map f y (x ∷ xs) (inr at) = let rest = from_map f y xs at in (rest.0, inr rest.1, rest.2)

-- those that pass a test
pub filter_in : {X : Type 0} (test : X → Bool) (x : X) (xs : List X) → In x (filter test xs) → In x xs × (test x ≡ true)
filter_in {X} test x [] at = absurd at
filter_in {X} test x (y ∷ ys) at = by_test (filter_in test x ys) (test y) refl at where
  by_test : (In x (filter test ys) → In x ys × (test x ≡ true)) → (b : Bool) → test y ≡ b → In x (cond b (y ∷ filter test ys) (filter test ys))
      → In x (y ∷ ys) × (test x ≡ true)
  by_test below true is (inl e) = (inl e, ap test (sym e) ∙ is)
  by_test below true is (inr there) = let rest = below there in (inr rest.0, rest.1)
  by_test below false is there = let rest = below there in (inr rest.0, rest.1)

pub in_filter : {X : Type 0} (test : X → Bool) (x : X) (xs : List X) → In x xs → test x ≡ true → In x (filter test xs)
in_filter {X} test x [] at passes = absurd at
in_filter {X} test x (y ∷ ys) (inl e) passes =
    let own : test y ≡ true = ap test e ∙ passes in
    subst (λ b. In x (cond b (y ∷ filter test ys) (filter test ys))) (sym own) (inl e)
in_filter {X} test x (y ∷ ys) (inr there) passes = by_test (in_filter test x ys there passes) (test y) where
  by_test : In x (filter test ys) → (b : Bool) → In x (cond b (y ∷ filter test ys) (filter test ys))
  by_test below true = inr below
  by_test below false = below

-- a member stands at a place
pub in_contains : {X : Type 0} (x : X) (xs : List X) → Contains xs x → In x xs
in_contains x [] (k, low, is) = absurd (omega (arith, low))
in_contains x (y ∷ ys) (zero, low, is) = inl is
in_contains x (y ∷ ys) (suc k, low, is) = inr (in_contains x ys (k, omega (arith, low), is))

pub contains_in : {X : Type 0} (x : X) (xs : List X) → In x xs → Contains xs x
contains_in x [] at = absurd at
contains_in x (y ∷ ys) (inl e) = (0, omega arith, e)
contains_in x (y ∷ ys) (inr at) = let rest = contains_in x ys at in (suc rest.0, omega (arith, rest.1), rest.2)

pub in_range : (from n i : ℕ) → i < n → In (from + i) (range_with_len from n)
in_range from zero i low = absurd (omega (arith, low))
in_range from (suc n) zero low = inl (omega arith)
in_range from (suc n) (suc i) low =
    let over : from + 1 + i ≡ from + suc i = omega arith in
    inr (subst (λ k. In k (range_with_len (from + 1) n)) over (in_range (from + 1) n i (omega (arith, low))))

-- no more pass a test than there are
pub few_pass : {X : Type 0} (test : X → Bool) (xs : List X) → length (filter test xs) ≤ length xs
few_pass test [] = omega arith
few_pass test (x ∷ xs) = by_test (test x) (few_pass test xs) where
  by_test : (b : Bool) → length (filter test xs) ≤ length xs → length (cond b (x ∷ filter test xs) (filter test xs)) ≤ length (x ∷ xs)
  by_test true less = omega (arith, less)
  by_test false less = omega (arith, less)

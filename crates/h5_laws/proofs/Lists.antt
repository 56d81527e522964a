-- Members of lists, and lists that are written anew.
use Rattle.std.proofs.Common.{◌≡◌, ℕ, zero, suc, ◌+◌, ◌<◌, ◌≤◌, ◌⊎◌, inl, inr, List, [], ◌∷◌, ◌++◌, length, take, drop, refl, sym, ap, ◌∙◌, subst, arith, Some}
use Rattle.std.proofs.lemmas.List.{take_all, take-append-le}
use Rattle.std.proofs.lemmas.Option.{same_Some}
use Rattle.std.specs.Prelude.{slice_get}
use Rattle.std.specs.List.{AllByRecursion, flat_map, range_with_len}
use Rattle.h5_bytes.specs.Tables.{table}
pub use Rattle.h5_model.proofs.Members.{In, all_in, contains_in, from_map, in_contains, in_map, in_range}

pub in_all : {X : Type 0} (P : X → Type 0) (x : X) (xs : List X) → AllByRecursion P xs → In x xs → P x
in_all P x [] all at = absurd at
in_all P x (y ∷ ys) all (inl e) = subst P e all.0
in_all P x (y ∷ ys) all (inr at) = in_all P x ys all.1 at

pub in_left : {X : Type 0} (x : X) (xs ys : List X) → In x xs → In x (xs ++ ys)
in_left x [] ys at = absurd at
in_left x (z ∷ xs) ys (inl e) = inl e
in_left x (z ∷ xs) ys (inr at) = inr (in_left x xs ys at)

pub in_right : {X : Type 0} (x : X) (xs ys : List X) → In x ys → In x (xs ++ ys)
in_right x [] ys at = at
in_right x (z ∷ xs) ys at = inr (in_right x xs ys at)

pub in_either : {X : Type 0} (x : X) (xs ys : List X) → In x (xs ++ ys) → In x xs ⊎ In x ys
in_either x [] ys at = inr at
in_either x (z ∷ xs) ys (inl e) = inl (inl e)
in_either x (z ∷ xs) ys (inr at) = elim (in_either x xs ys at) [ inl l ↦ inl (inr l) | inr r ↦ inr r ]

-- what is in a list with one more is this one, or of the list
pub put_or_old : {X : Type 0} (o e : X) (fs gs : List X) → In o (fs ++ e ∷ gs) → (o ≡ e) ⊎ In o (fs ++ gs)
put_or_old o e [] gs (inl is) = inl (sym is)
put_or_old o e [] gs (inr at) = inr at
put_or_old o e (f ∷ fs) gs (inl is) = inr (inl is)
put_or_old o e (f ∷ fs) gs (inr at) = elim (put_or_old o e fs gs at) [ inl is ↦ inl is | inr more ↦ inr (inr more) ]

pub in_flat : {X Y : Type 0} (f : X → List Y) (x : X) (y : Y) (xs : List X) → In x xs → In y (f x) → In y (flat_map f xs)
in_flat f x y [] at there = absurd at
in_flat f x y (z ∷ xs) (inl e) there = in_left y (f z) (flat_map f xs) (subst (λ w. In y (f w)) (sym e) there)
in_flat f x y (z ∷ xs) (inr at) there = in_right y (f z) (flat_map f xs) (in_flat f x y xs at there)

pub from_flat : {X Y : Type 0} (f : X → List Y) (y : Y) (xs : List X) → In y (flat_map f xs) → (x : X) × In x xs × In y (f x)
from_flat f y [] at = absurd at
from_flat f y (x ∷ xs) at = elim (in_either y (f x) (flat_map f xs) at) [
  | inl here ↦ (x, inl refl, here)
  | inr later ↦ let rest = from_flat f y xs later in (rest.0, inr rest.1, rest.2)
]

-- the place at which it stands, and what stands at a place
pub stands_at : {X : Type 0} (x : X) (xs : List X) → In x xs → (k : ℕ) × (slice_get xs k ≡ Some x)
stands_at x [] at = absurd at
stands_at {X = X} x (y ∷ ys) (inl e) = (zero, ap (λ (z : X). Some z) e)
stands_at x (y ∷ ys) (inr at) = let rest = stands_at x ys at in (suc rest.0, rest.1)

pub in_at : {X : Type 0} (xs : List X) (k : ℕ) (x : X) → slice_get xs k ≡ Some x → In x xs
in_at [] k x at = absurd (cc)
in_at (y ∷ ys) zero x at = inl (same_Some y x at)
in_at (y ∷ ys) (suc k) x at = inr (in_at ys k x at)

pub from_range : (from n k : ℕ) → In k (range_with_len from n) → (i : ℕ) × (i < n) × (k ≡ from + i)
from_range from zero k at = absurd at
from_range from (suc n) k (inl e) = (0, omega arith, sym e ∙ omega arith)
from_range from (suc n) k (inr at) =
    let rest = from_range (from + 1) n k at in (suc rest.0, omega (arith, rest.1), omega (arith, rest.2))

-- the value at each of the first places is in a table
pub in_table : {X : Type 0} (f : ℕ → X) (n i : ℕ) → i < n → In (f i) (table f n)
in_table f n i low =
    let none : 0 + i ≡ i = omega arith in
    subst (λ k. In (f k) (table f n)) none (in_map f (0 + i) (range_with_len 0 n) (in_range 0 n i low))

pub from_table : {X : Type 0} (f : ℕ → X) (n : ℕ) (x : X) → In x (table f n) → (i : ℕ) × (i < n) × (f i ≡ x)
from_table f n x at =
    let one = from_map f x (range_with_len 0 n) at in
    let place = from_range 0 n one.0 one.1 in
    let same : place.0 ≡ one.0 = omega (arith, place.2) in
    (place.0, place.1, ap f same ∙ one.2)

-- a list that was written over another one of its length is all that stands there
pub refilled : {X : Type 0} (n : ℕ) (new old : List X) → length new ≡ length old → n ≡ length old → take n (new ++ drop (length new) old) ≡ new
refilled n new old same is =
    let all : n ≤ length new = omega (arith, same, is) in
    let none : length new ≤ n = omega (arith, same, is) in
    take-append-le n new (drop (length new) old) all ∙ take_all n new none

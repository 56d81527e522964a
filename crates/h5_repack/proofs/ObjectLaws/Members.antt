-- Members of lists: the last one, of a list turned round, and of what a function gives.
use Rattle.std.proofs.Common.{◌≡◌, ◌⊎◌, inl, inr, List, [], ◌∷◌, ◌++◌, refl, sym, ap, ◌∙◌, subst, reverse, Some, None, Option}
use Rattle.std.proofs.lemmas.List.{reverse-append}
use Rattle.std.proofs.lemmas.Option.{same_Some}
use Rattle.std.specs.List.{cons_option, filter_map}
use Rattle.h5_laws.proofs.Lists.{In, in_left, in_right}

-- the last member, or one before it
pub in_front : {X : Type 0} (x y : X) (xs : List X) → In x (xs ++ y ∷ []) → In x xs ⊎ (y ≡ x)
in_front x y [] (inl e) = inr e
in_front x y [] (inr never) = absurd never
in_front x y (z ∷ xs) (inl e) = inl (inl e)
in_front x y (z ∷ xs) (inr at) = elim (in_front x y xs at) [ inl l ↦ inl (inr l) | inr e ↦ inr e ]

pub in_last : {X : Type 0} (x : X) (xs : List X) → In x (xs ++ x ∷ [])
in_last x xs = in_right x xs (x ∷ []) (inl refl)

pub in_reverse : {X : Type 0} (x : X) (xs : List X) → In x xs → In x (reverse xs)
in_reverse x [] at = absurd at
in_reverse x (y ∷ ys) (inl e) = subst (In x) (sym (reverse-append (y ∷ []) ys)) (in_right x (reverse ys) (y ∷ []) (inl e))
in_reverse x (y ∷ ys) (inr at) = subst (In x) (sym (reverse-append (y ∷ []) ys)) (in_left x (reverse ys) (y ∷ []) (in_reverse x ys at))

pub from_reverse : {X : Type 0} (x : X) (xs : List X) → In x (reverse xs) → In x xs
from_reverse x [] at = absurd at
from_reverse x (y ∷ ys) at = elim (in_front x y (reverse ys) (subst (In x) (reverse-append (y ∷ []) ys) at)) [
  | inl l ↦ inr (from_reverse x ys l)
  | inr e ↦ inl e
]

-- ---- what a function gives of members

pub in_given : {Y : Type 0} (o : Option Y) (y : Y) (ys : List Y) → o ≡ Some y → In y (cons_option o ys)
in_given None y ys is = absurd (cc)
in_given (Some w) y ys is = inl (same_Some w y is)

pub in_rest : {Y : Type 0} (o : Option Y) (y : Y) (ys : List Y) → In y ys → In y (cons_option o ys)
in_rest None y ys at = at
in_rest (Some w) y ys at = inr at

from_given : {Y : Type 0} (o : Option Y) (y : Y) (ys : List Y) → In y (cons_option o ys) → (o ≡ Some y) ⊎ In y ys
from_given None y ys at = inr at
from_given (Some w) y ys (inl e) = inl (ap (λ z. Some z) e)
from_given (Some w) y ys (inr at) = inr at

pub in_filter_map : {X Y : Type 0} (h : X → Option Y) (x : X) (y : Y) (xs : List X) → In x xs → h x ≡ Some y → In y (filter_map h xs)
in_filter_map h x y [] at is = absurd at
in_filter_map h x y (z ∷ zs) (inl e) is = in_given (h z) y (filter_map h zs) (ap h e ∙ is)
in_filter_map h x y (z ∷ zs) (inr at) is = in_rest (h z) y (filter_map h zs) (in_filter_map h x y zs at is)

pub from_filter_map : {X Y : Type 0} (h : X → Option Y) (y : Y) (xs : List X) → In y (filter_map h xs) → (x : X) × In x xs × (h x ≡ Some y)
from_filter_map h y [] at = absurd at
from_filter_map h y (z ∷ zs) at = elim (from_given (h z) y (filter_map h zs) at) [
  | inl here ↦ (z, inl refl, here)
  | inr later ↦ let rest = from_filter_map h y zs later in (rest.0, inr rest.1, rest.2)
]

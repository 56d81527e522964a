-- Two lists of which each element of one belongs to that of the other.
use Rattle.std.proofs.Common.{◌≡◌, ℕ, zero, suc, ◌<◌, List, [], ◌∷◌, ◌++◌, true, false, length, refl, sym, ap, ◌∙◌, subst, take, Option, Some, None}
use Rattle.std.proofs.lemmas.Option.{same_Some, slice_get_within}
use Rattle.std.specs.Prelude.{slice_get, IsSome}
use Rattle.std.specs.List.{AllZip}
use Rattle.std.specs.Option.{option_flatten}
use Rattle.h5_repack.specs.Objects.Objects.{IsFilled, SlotsHold}

-- the element that belongs to one, and the one to which it belongs
pub zip_left : {A B : Type 0} (R : A → B → Type 0) (xs : List A) (ys : List B) (n : ℕ) (y : B) → AllZip R xs ys → slice_get ys n ≡ Some y
    → (x : A) × (slice_get xs n ≡ Some x) × R x y
zip_left R [] [] n y all is = absurd (cc)
zip_left R [] (z ∷ ys) n y all is = absurd all
zip_left R (x ∷ xs) [] n y all is = absurd all
zip_left R (x ∷ xs) (z ∷ ys) zero y all is = (x, refl, subst (R x) (same_Some z y is) all.0)
zip_left R (x ∷ xs) (z ∷ ys) (suc n) y all is = zip_left R xs ys n y all.1 is

pub zip_right : {A B : Type 0} (R : A → B → Type 0) (xs : List A) (ys : List B) (n : ℕ) (x : A) → AllZip R xs ys → slice_get xs n ≡ Some x
    → (y : B) × (slice_get ys n ≡ Some y) × R x y
zip_right R [] [] n x all is = absurd (cc)
zip_right R [] (z ∷ ys) n x all is = absurd all
zip_right R (w ∷ xs) [] n x all is = absurd all
zip_right {B = B} R (w ∷ xs) (z ∷ ys) zero x all is = (z, refl, subst (λ v. R v z) (same_Some w x is) all.0)
zip_right R (w ∷ xs) (z ∷ ys) (suc n) x all is = zip_right R xs ys n x all.1 is

-- with one more of each
pub zip_more : {A B : Type 0} (R : A → B → Type 0) (xs : List A) (ys : List B) (i : ℕ) (x : A) (y : B) → slice_get xs i ≡ Some x
    → AllZip R (take i xs) ys → R x y → AllZip R (take (suc i) xs) (ys ++ y ∷ [])
zip_more R [] ys i x y is all r = absurd (cc)
zip_more R (w ∷ xs) [] zero x y is all r = (subst (λ v. R v y) (sym (same_Some w x is)) r, tt)
zip_more R (w ∷ xs) (z ∷ ys) zero x y is all r = absurd all
zip_more R (w ∷ xs) [] (suc i) x y is all r = absurd all
zip_more R (w ∷ xs) (z ∷ ys) (suc i) x y is all r = (all.0, zip_more R xs ys i x y is all.1 r)

-- ---- slots

-- what is in a slot
pub flat_some : {X : Type 0} (slot : Option (Option X)) (x : X) → option_flatten slot ≡ Some x → slot ≡ Some (Some x)
flat_some None x is = absurd (cc)
flat_some (Some None) x is = absurd (cc)
flat_some {X = X} (Some (Some y)) x is = ap (λ (z : X). Some (Some z)) (same_Some y x is)

pub held_some : {X : Type 0} (slot : Option (Option X)) → IsSome (option_flatten slot) → (x : X) × (slot ≡ Some (Some x))
held_some None some = absurd (let never : false ≡ true = some in cc)
held_some (Some None) some = absurd (let never : false ≡ true = some in cc)
held_some (Some (Some x)) some = (x, refl)

pub filled_at : {X : Type 0} (slots : List (Option X)) (n : ℕ) (x : X) → slice_get slots n ≡ Some (Some x) → IsFilled slots n
filled_at slots n x at = rw at refl

pub filled_below : {X : Type 0} (slots : List (Option X)) (n : ℕ) → IsFilled slots n → n < length slots
filled_below slots n filled = let x = held_some (slice_get slots n) filled in slice_get_within slots n (Some x.0) x.1

-- what belongs to what is in one slot is in the other
slot_from : {A B : Type 0} (R : A → B → Type 0) (slot : Option A) (y : B) → SlotsHold R slot (Some y) → (x : A) × (slot ≡ Some x) × R x y
slot_from R None y holds = absurd holds
slot_from R (Some x) y holds = (x, refl, holds)

pub slot_to : {A B : Type 0} (R : A → B → Type 0) (x : A) (slot : Option B) → SlotsHold R (Some x) slot → (y : B) × (slot ≡ Some y) × R x y
slot_to R x None holds = absurd holds
slot_to R x (Some y) holds = (y, refl, holds)

pub slots_left : {A B : Type 0} (R : A → B → Type 0) (xs : List (Option A)) (ys : List (Option B)) (n : ℕ) (y : B) → AllZip (SlotsHold R) xs ys → slice_get ys n ≡ Some (Some y)
    → (x : A) × (slice_get xs n ≡ Some (Some x)) × R x y
slots_left {A = A} R xs ys n y all is =
    let slot = zip_left (SlotsHold R) xs ys n (Some y) all is in
    let x = slot_from R slot.0 y slot.2 in
    (x.0, slot.1 ∙ ap (λ (s : Option A). Some s) x.1, x.2)

pub slots_right : {A B : Type 0} (R : A → B → Type 0) (xs : List (Option A)) (ys : List (Option B)) (n : ℕ) (x : A) → AllZip (SlotsHold R) xs ys → slice_get xs n ≡ Some (Some x)
    → (y : B) × (slice_get ys n ≡ Some (Some y)) × R x y
slots_right {B = B} R xs ys n x all is =
    let slot = zip_right (SlotsHold R) xs ys n (Some x) all is in
    let y = slot_to R x slot.0 slot.2 in
    (y.0, slot.1 ∙ ap (λ (s : Option B). Some s) y.1, y.2)

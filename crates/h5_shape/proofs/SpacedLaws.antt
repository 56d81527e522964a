-- Spaced places.
use Rattle.std.proofs.Common.{◌≡◌, ℕ, zero, suc, ◌+◌, ◌*◌, ◌<◌, ◌≤◌, List, [], ◌∷◌, ◌++◌, refl, ap, ◌∙◌, arith}
use Rattle.std.proofs.lemmas.Grind.{flat_map-append}
use Rattle.std.specs.List.{flat_map}
use Rattle.h5_shape.specs.SpacedPlaces.{spaced_places, ArePlacesBelow}

-- ---- lists

pub same_flat : {X Y : Type 0} (f g : X → List Y) → ((x : X) → f x ≡ g x) → (xs : List X) → flat_map f xs ≡ flat_map g xs
same_flat f g same [] = refl
same_flat f g same (x ∷ xs) = rw (same x, same_flat f g same xs) refl

pub flat_flat : {X Y Z : Type 0} (g : Y → List Z) (f : X → List Y) (xs : List X) → flat_map g (flat_map f xs) ≡ flat_map (λ x. flat_map g (f x)) xs
flat_flat g f [] = refl
flat_flat {X} {Y} {Z} g f (x ∷ xs) = flat_map-append g (f x) (flat_map f xs) ∙ ap (λ (zs : List Z). flat_map g (f x) ++ zs) (flat_flat g f xs)

-- ---- spaced places

pub spaced-append : (m n step p : ℕ) → spaced_places m step p ++ spaced_places n step (p + m * step) ≡ spaced_places (m + n) step p
spaced-append zero n step p =
    let at : p + zero * step ≡ p = omega arith in
    let sum : zero + n ≡ n = omega arith in
    rw (at, sum) refl
spaced-append (suc m) n step p =
    let at : p + suc m * step ≡ (p + step) + m * step = omega arith in
    let sum : suc m + n ≡ suc (m + n) = omega arith in
    rw (at, sum) (ap (λ (xs : List ℕ). p ∷ xs) (spaced-append m n step (p + step)))

-- places that go on where those before them end are one row of places
pub spaced_rows : (n b step p : ℕ) → flat_map (spaced_places b step) (spaced_places n (b * step) p) ≡ spaced_places (n * b) step p
spaced_rows zero b step p = let none : zero * b ≡ 0 = omega arith in rw none refl
spaced_rows (suc n) b step p =
    let all : suc n * b ≡ b + n * b = omega arith in
    rw (all, spaced_rows n b step (p + b * step)) (spaced-append b (n * b) step p)

-- runs that follow one another without a gap are one
pub spaced_join : (n s p : ℕ) → flat_map (spaced_places s 1) (spaced_places n s p) ≡ spaced_places (n * s) 1 p
spaced_join n s p = let unit : s * 1 ≡ s = omega arith in rw unit at (spaced_rows n s 1 p)

-- ---- bounds

pub below-left : (n : ℕ) (xs ys : List ℕ) → ArePlacesBelow n (xs ++ ys) → ArePlacesBelow n xs
below-left n [] ys h = tt
below-left n (x ∷ xs) ys h = (h.0, below-left n xs ys h.1)

pub below-right : (n : ℕ) (xs ys : List ℕ) → ArePlacesBelow n (xs ++ ys) → ArePlacesBelow n ys
below-right n [] ys h = h
below-right n (x ∷ xs) ys h = below-right n xs ys h.1

-- the first places of groups are among their own
pub below_groups : (n m long : ℕ) → n ≤ m → 0 < long → (xs : List ℕ) → ArePlacesBelow n (flat_map (spaced_places long 1) xs) → ArePlacesBelow m xs
below_groups n m zero more some xs h = absurd (omega arith)
below_groups n m (suc long) more some [] h = tt
below_groups n m (suc long) more some (x ∷ xs) h =
    (omega (arith, h.0), below_groups n m (suc long) more some xs (below-right n (spaced_places (suc long) 1 x) (flat_map (spaced_places (suc long) 1) xs) h))

pub last_below : (n len p : ℕ) → 0 < len → ArePlacesBelow n (spaced_places len 1 p) → p + len ≤ n
last_below n zero p some h = absurd (omega arith)
last_below n (suc zero) p some h = omega (arith, h.0)
last_below n (suc (suc len)) p some h = let rest : (p + 1) + suc len ≤ n = last_below n (suc len) (p + 1) (omega arith) h.1 in omega arith

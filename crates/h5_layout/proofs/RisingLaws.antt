-- Offsets of which each is before the next: each is before all behind it, and a member stands there once.
use Rattle.std.proofs.Common.{◌≡◌, ◌↔◌, ℕ, inl, inr, List, [], ◌∷◌, map, refl, subst}
use Rattle.std.specs.Prelude.{T}
use Rattle.std.specs.Ordering.{nat_cmp, is_lt}
use Rattle.std.specs.Cmp.Lexicographic.{slice_cmp}
use Rattle.std.specs.FinMap.{is_sorted}
use Rattle.std.specs.FinMap.Entries.{below_all}
use Rattle.std.specs.List.{Contains}
use Rattle.h5_model.specs.Format.Links.{Before}
use Rattle.h5_model.proofs.ReachLaws.{halves}
use Rattle.h5_laws.proofs.Ascending.{before_trans}
use Rattle.h5_laws.proofs.Lists.{In, contains_in, in_contains}
use Rattle.h5_laws.proofs.Maps.{true_of}
use Rattle.h5_shape.proofs.RisingBoxes.{Rises, same_members}
use Rattle.h5_layout.specs.HeldChunks.{AreRising}

pub rises_rising : (xs : List (List ℕ)) → Rises xs → AreRising xs
rises_rising [] h = tt
rises_rising (x ∷ []) h = tt
rises_rising (x ∷ y ∷ xs) h = (h.0 y (inl refl), rises_rising (y ∷ xs) h.1)

pub rising_rises : (xs : List (List ℕ)) → AreRising xs → Rises xs
rising_rises [] h = tt
rising_rises (x ∷ []) h = ((λ y at. absurd at), tt)
rising_rises (x ∷ y ∷ xs) h = let below = rising_rises (y ∷ xs) h.1 in (above below.0, below) where
  above : ((z : List ℕ) → In z xs → Before y z) → (z : List ℕ) → In z (y ∷ xs) → Before x z
  above below z (inl e) = subst (Before x) e h.0
  above below z (inr at) = before_trans x y z h.0 (below z at)

-- ---- keys of a sorted list

pub sorted_rising : (es : List (List ℕ × ℕ)) → T (is_sorted (slice_cmp nat_cmp) es) → AreRising (map (λ (e : List ℕ × ℕ). e.0) es)
sorted_rising [] sorted = tt
sorted_rising (a ∷ []) sorted = tt
sorted_rising (a ∷ b ∷ es) sorted =
    let split = halves (below_all (slice_cmp nat_cmp) a.0 (b ∷ es)) (is_sorted (slice_cmp nat_cmp) (b ∷ es)) sorted in
    (true_of _ (halves (is_lt (slice_cmp nat_cmp a.0 b.0)) (below_all (slice_cmp nat_cmp) a.0 es) split.0).0, sorted_rising (b ∷ es) split.1)

-- ---- rising lists with the same members are one

pub rising_once : (xs ys : List (List ℕ)) → AreRising xs → AreRising ys → ((x : List ℕ) → Contains xs x ↔ Contains ys x) → xs ≡ ys
rising_once xs ys h k same = same_members xs ys (rising_rises xs h) (rising_rises ys k)
    (λ x at. in_contains x ys ((same x).0 (contains_in x xs at)))
    (λ y at. in_contains y xs ((same y).1 (contains_in y ys at)))

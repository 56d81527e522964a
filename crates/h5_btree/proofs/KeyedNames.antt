-- The names in a symbol node, where a new one comes in at its place, and where the symbol node is cut in two by the last name on its left.
use Rattle.std.proofs.Common.{◌≡◌, ℕ, List, [], ◌∷◌, ◌++◌, sym, subst}
use Rattle.std.specs.Bool.{⊤}
use Rattle.std.specs.List.{AllByRecursion}
use Rattle.h5_bytes.proofs.BlockLaws.{all_left, all_right}
use Rattle.h5_model.specs.Format.Links.{Before, NotAfter}
use Rattle.h5_model.proofs.TextOrder.{before_le, not_after_itself}
use Rattle.h5_laws.specs.KeyEdits.{Grown, IsPut, IsTaken, One, Two}
use Rattle.h5_laws.specs.NameLadders.{name_sides}
use Rattle.h5_laws.proofs.KeyInserts.{IsGrown}
use Rattle.h5_laws.proofs.KeyInstances.{name_parts, name_through}
use Rattle.h5_laws.proofs.NameLadders.{name_order}

abbrev Names : Type 0
Names = List (List ℕ)

-- each name is before all behind it
abbrev pub AreAscending : List (List ℕ) → Type 0
AreAscending [] = ⊤
AreAscending (n ∷ names) = AllByRecursion (Before n) names × AreAscending names

pub ascending_left : (xs ys : List (List ℕ)) → AreAscending (xs ++ ys) → AreAscending xs
ascending_left [] ys all = tt
ascending_left (x ∷ xs) ys all = (all_left (Before x) xs ys all.0, ascending_left xs ys all.1)

pub ascending_right : (xs ys : List (List ℕ)) → AreAscending (xs ++ ys) → AreAscending ys
ascending_right [] ys all = all
ascending_right (x ∷ xs) ys all = ascending_right xs ys all.1

-- with one name more
all_with : (P : List ℕ → Type 0) (front : Names) (x : List ℕ) (back : Names) → AllByRecursion P (front ++ back) → P x → AllByRecursion P (front ++ x ∷ back)
all_with P [] x back all here = (here, all)
all_with P (f ∷ front) x back all here = (all.0, all_with P front x back all.1 here)

with_one : (front : Names) (x : List ℕ) (back : Names) → AreAscending (front ++ back) → AllByRecursion (λ y. Before y x) front → AllByRecursion (Before x) back
    → AreAscending (front ++ x ∷ back)
with_one [] x back all above below = (below, all)
with_one (f ∷ front) x back all above below = (all_with (Before f) front x back all.0 above.0, with_one front x back all.1 above.1 below)

pub ascending_put : (x : List ℕ) (old new : List (List ℕ)) → AreAscending old → IsPut Before x old new → AreAscending new
ascending_put x old new all p = subst AreAscending (sym p.after) (with_one p.front x p.back (subst AreAscending p.before all) p.above p.below)

-- with one name less
all_without : (P : List ℕ → Type 0) (front : Names) (x : List ℕ) (back : Names) → AllByRecursion P (front ++ x ∷ back) → AllByRecursion P (front ++ back)
all_without P [] x back all = all.1
all_without P (f ∷ front) x back all = (all.0, all_without P front x back all.1)

without_one : (front : Names) (x : List ℕ) (back : Names) → AreAscending (front ++ x ∷ back) → AreAscending (front ++ back)
without_one [] x back all = all.1
without_one (f ∷ front) x back all = (all_without (Before f) front x back all.0, without_one front x back all.1)

pub ascending_taken : (x : List ℕ) (old new : List (List ℕ)) → AreAscending old → IsTaken x old new → AreAscending new
ascending_taken x old new all t = subst AreAscending (sym t.after) (without_one t.front x t.back (subst AreAscending t.before all))

-- none is after the last one
up_to_last : (front : Names) (y : List ℕ) → AreAscending (front ++ y ∷ []) → AllByRecursion (λ z. NotAfter z y) (front ++ y ∷ [])
up_to_last [] y all = (not_after_itself y, tt)
up_to_last (f ∷ front) y all = (before_le f y (all_right (Before f) front (y ∷ []) all.0).0, up_to_last front y all.1)

module _ (text : List ℕ → List ℕ) (x : List ℕ) where
  abbrev pub IsNameGrown : List (List ℕ) → Grown (List ℕ) (List (List ℕ)) → Type 0
  IsNameGrown b r = IsGrown (name_sides text) (name_order text) Before (name_through text) (name_parts text) (λ (names : List (List ℕ)). names) AreAscending x 0 b r

  -- a name comes into a symbol node at its place
  pub name_in : (b new : List (List ℕ)) → AreAscending b → IsPut Before x b new → IsNameGrown b (One new)
  name_in b new all put = (ascending_put x b new all put, put)

  -- and the symbol node is cut in two; the key between them is the last name on the left
  pub name_cut : (b front : List (List ℕ)) (y : List ℕ) (c : List (List ℕ)) (u : List ℕ) → AreAscending b → IsPut Before x b ((front ++ y ∷ []) ++ c) → text u ≡ y
      → IsNameGrown b (Two (front ++ y ∷ []) u c)
  name_cut b front y c u all put is =
      let new = ascending_put x b ((front ++ y ∷ []) ++ c) all put in
      let left = ascending_left (front ++ y ∷ []) c new in (
        left,
        ascending_right (front ++ y ∷ []) c new,
        subst (λ (t : List ℕ). AllByRecursion (λ z. NotAfter z t) (front ++ y ∷ [])) (sym is) (up_to_last front y left),
        subst (λ (t : List ℕ). AllByRecursion (Before t) c) (sym is) (after_cut front new),
        put,
      )
    where
      after_cut : (f : Names) → AreAscending ((f ++ y ∷ []) ++ c) → AllByRecursion (Before y) c
      after_cut [] all = all.0
      after_cut (n ∷ f) all = after_cut f all.1

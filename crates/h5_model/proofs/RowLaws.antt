-- Rows of a tree depend on what is read at its own nodes alone.
use Rattle.std.proofs.Common.{◌≡◌, ℕ, zero, suc, List, [], ◌∷◌, ◌++◌, Bool, true, false, ◌==◌, refl, ap, ◌∙◌, subst, arith}
use Rattle.std.specs.Prelude.{if◌then◌else◌}
use Rattle.std.specs.List.{AllByRecursion, list_any}
use Rattle.std.proofs.lemmas.Bool.Decides.{nat_tests}
use Rattle.std.proofs.lemmas.Bool.{or_right}
use Rattle.h5_bytes.specs.Bytes.{undefined_address}
use Rattle.h5_bytes.proofs.BlockLaws.{all_left, all_right}
use Rattle.h5_model.specs.Format.Rows.{Reading, only, next_row, IsRow, AreRows, row_below, leaves, nodes}

-- ---- readings of some addresses alone

-- these addresses are all listed
abbrev AreListed : List ℕ → List ℕ → Type 0
AreListed owned xs = AllByRecursion (λ at. list_any (λ n. n == at) owned ≡ true) xs

pub same_number : (n : ℕ) → (n == n) ≡ true
same_number n = grind (arith, nat_tests)

pub equal_number : (n at : ℕ) → (n == at) ≡ true → n ≡ at
equal_number n at h = grind (arith, nat_tests)

listed_more : (y : ℕ) (owned xs : List ℕ) → AreListed owned xs → AreListed (y ∷ owned) xs
listed_more y owned [] all = tt
listed_more y owned (x ∷ xs) all = (or_right (y == x) (list_any (λ n. n == x) owned) all.0, listed_more y owned xs all.1)

pub all_listed : (owned : List ℕ) → AreListed owned owned
all_listed [] = tt
all_listed (y ∷ ys) = (rw (same_number y) refl, listed_more y ys ys (all_listed ys))

-- a fact about each listed address is one about this address
pub at_listed : (P : ℕ → Type 0) (owned : List ℕ) (at : ℕ) → AllByRecursion P owned → list_any (λ n. n == at) owned ≡ true → P at
at_listed P [] at all found = cc
at_listed P (y ∷ ys) at all found = at_first (y == at) refl (at_listed P ys at all.1) where
  at_first : (b : Bool) → (y == at) ≡ b → (list_any (λ n. n == at) ys ≡ true → P at) → P at
  at_first true e rest = subst P (equal_number y at e) all.0
  at_first false e rest = rest (rw e at found)

chosen : {X : Type 0} (b : Bool) (x y z : X) → (b ≡ true → y ≡ z) → (if b then y else x) ≡ (if b then z else x)
chosen true x y z h = h refl
chosen false x y z h = refl

-- the same reading, where the same is read at each address
pub only-same : {X : Type 0} (x : X) (f g : ℕ → X) (owned : List ℕ) → AllByRecursion (λ at. g at ≡ f at) owned → only x g owned ≡ only x f owned
only-same x f g owned same = λ i at. chosen (list_any (λ n. n == at) owned) x (g at) (f at) (at_listed (λ a. g a ≡ f a) owned at same) i

only_at : {X : Type 0} (x : X) (f : ℕ → X) (owned xs : List ℕ) → AreListed owned xs → AllByRecursion (λ at. f at ≡ only x f owned at) xs
only_at x f owned [] all = tt
only_at x f owned (y ∷ ys) all = (rw all.0 refl, only_at x f owned ys all.1)

-- at its own addresses a reading is what is read there
pub only_here : {X : Type 0} (x : X) (f : ℕ → X) (owned : List ℕ) → AllByRecursion (λ at. f at ≡ only x f owned at) owned
only_here x f owned = only_at x f owned owned (all_listed owned)

-- ---- rows

-- two readings agree at these nodes
abbrev pub Agree : Reading → Reading → List ℕ → Type 0
Agree V W xs = AllByRecursion (λ n. W n ≡ V n) xs

module _ (V W : Reading) where
  pub next_row-same : (row : List ℕ) → Agree V W row → next_row W row ≡ next_row V row
  next_row-same [] same = refl
  next_row-same (n ∷ row) same = rw (same.0, next_row-same row same.1) refl

  pub IsRow-same : (level left : ℕ) (row : List ℕ) → Agree V W row → IsRow V level left row → IsRow W level left row
  IsRow-same level left [] same is = tt
  IsRow-same level left (n ∷ row) same is = rw same.0 (is.0, is.1, is.2, IsRow-same level n row same.1 is.3)

  here : (row more : List ℕ) → Agree V W (row ++ more) → Agree V W row
  here row more same = all_left (λ n. W n ≡ V n) row more same

  under : (row more : List ℕ) → Agree V W (row ++ more) → Agree V W more
  under row more same = all_right (λ n. W n ≡ V n) row more same

  pub AreRows-same : (level : ℕ) (row : List ℕ) → Agree V W (nodes V level row) → AreRows V level row → AreRows W level row
  AreRows-same zero row same are = IsRow-same 0 undefined_address row same are
  AreRows-same (suc level) row same are =
      let above = here row (nodes V level (next_row V row)) same in
      let below = under row (nodes V level (next_row V row)) same in
      (IsRow-same (suc level) undefined_address row above are.0, rw (next_row-same row above) (AreRows-same level (next_row V row) below are.1))

  pub nodes-same : (level : ℕ) (row : List ℕ) → Agree V W (nodes V level row) → nodes W level row ≡ nodes V level row
  nodes-same zero row same = refl
  nodes-same (suc level) row same =
      let above = here row (nodes V level (next_row V row)) same in
      let below = under row (nodes V level (next_row V row)) same in
      ap (λ r. row ++ nodes W level r) (next_row-same row above) ∙ ap (λ ns. row ++ ns) (nodes-same level (next_row V row) below)

  pub row_below-same : (level : ℕ) (row : List ℕ) → Agree V W (nodes V level row) → row_below W level row ≡ row_below V level row
  row_below-same zero row same = refl
  row_below-same (suc level) row same =
      let above = here row (nodes V level (next_row V row)) same in
      let below = under row (nodes V level (next_row V row)) same in
      ap (λ r. row_below W level r) (next_row-same row above) ∙ row_below-same level (next_row V row) below

  -- each row below is one of the rows
  row_below_agrees : (level : ℕ) (row : List ℕ) → Agree V W (nodes V level row) → Agree V W (row_below V level row)
  row_below_agrees zero row same = same
  row_below_agrees (suc level) row same = row_below_agrees level (next_row V row) (under row (nodes V level (next_row V row)) same)

  pub leaves-same : (level : ℕ) (row : List ℕ) → Agree V W (nodes V level row) → leaves W level row ≡ leaves V level row
  leaves-same level row same =
      ap (next_row W) (row_below-same level row same) ∙ next_row-same (row_below V level row) (row_below_agrees level row same)

-- the root says the level
pub root_level : (V : Reading) (level root : ℕ) → AreRows V level (root ∷ []) → (V root).level ≡ level
root_level V zero root are = are.0
root_level V (suc level) root are = are.0.0

-- the root is the first of the nodes
pub root_agrees : (V W : Reading) (level root : ℕ) → Agree V W (nodes V level (root ∷ [])) → W root ≡ V root
root_agrees V W zero root same = same.0
root_agrees V W (suc level) root same = same.0

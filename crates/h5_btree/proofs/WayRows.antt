-- The way from the root down to a node, by the rows that it passes; and what an edit at its end asks of the tree.
use Rattle.std.proofs.Common.{◌≡◌, ℕ, zero, suc, ◌+◌, ◌<◌, ◌≤◌, List, [], ◌∷◌, ◌++◌, length, take, drop, slice_index, refl, sym, ap, ◌∙◌, arith, subst}
use Rattle.std.specs.List.{insert, remove}
use Rattle.std.proofs.lemmas.List.Concat.{flat_map-append}
use Rattle.std.proofs.lemmas.List.Edits.{insert-append_left, insert-append_right, remove-append_left, remove-append_right}
use Rattle.h5_bytes.specs.Bytes.{undefined_address}
use Rattle.h5_model.specs.Format.Rows.{Reading, next_row, row_below, IsRow, AreRows, leaves, nodes}
use Rattle.h5_btree.specs.Climb.{IsBelow, IsWay, IsTreeOf, KeepsRows}
use Rattle.h5_btree.specs.declared.way.Step.{Step}
use Rattle.h5_btree.proofs.ClimbLaws.{row_here, whole}

-- the root stands at the end of no way
pub way_root : (V : Reading) (level root : ℕ) → IsWay V level root [] root [] []
way_root V level root = (refl, refl, refl)

-- from a node to one of its children
module _ (V : Reading) (m root p i : ℕ) (way : List Step) (s : Step) (f bk : List ℕ) (at : s.node ≡ p) (place : s.place ≡ i)
    (w : IsWay V (suc m) root way p f bk) (rows : AreRows V (suc m) (f ++ p ∷ bk)) (low : i < length (V p).children) where
  abbrev pub before : List ℕ
  before = next_row V f ++ take i (V p).children

  abbrev pub behind : List ℕ
  behind = drop (suc i) (V p).children ++ next_row V bk

  below_is : IsBelow V m p i (slice_index (V p).children i) before behind f bk
  below_is = record { place = low; child = refl; fronts = refl; backs = refl; row = rows.0 }

  pub way_down : IsWay V m root (s ∷ way) (slice_index (V p).children i) before behind
  way_down = (
    f,
    bk,
    subst (λ (n : ℕ). IsBelow V m n s.place (slice_index (V p).children i) before behind f bk) (sym at)
        (subst (λ (k : ℕ). IsBelow V m p k (slice_index (V p).children i) before behind f bk) (sym place) below_is),
    subst (λ (n : ℕ). IsWay V (suc m) root way n f bk) (sym at) w,
  )

  pub rows_down : AreRows V m (before ++ slice_index (V p).children i ∷ behind)
  rows_down = subst (AreRows V m) (row_here V m p i (slice_index (V p).children i) before behind f bk below_is) rows.1

-- the children of a row, where one comes in below the node a at place j
pub insert_below : (V : Reading) (front back : List ℕ) (a j c : ℕ) → j ≤ length (V a).children
    → insert (next_row V (front ++ a ∷ back)) (length (next_row V front) + j) c ≡ next_row V front ++ (insert (V a).children j c ++ next_row V back)
insert_below V front back a j c low =
    ap (λ (xs : List ℕ). insert xs (length (next_row V front) + j) c) (flat_map-append (λ n. (V n).children) front (a ∷ back))
    ∙ insert-append_right (next_row V front) (next_row V (a ∷ back)) (length (next_row V front)) (length (next_row V front) + j) c refl (omega arith)
    ∙ ap (λ (k : ℕ). next_row V front ++ insert ((V a).children ++ next_row V back) k c) (omega arith)
    ∙ ap (λ (xs : List ℕ). next_row V front ++ xs) (insert-append_left (V a).children (next_row V back) j c low)

pub remove_below : (V : Reading) (front back : List ℕ) (a i : ℕ) → i < length (V a).children
    → remove (next_row V (front ++ a ∷ back)) (length (next_row V front) + i) ≡ next_row V front ++ (remove (V a).children i ++ next_row V back)
remove_below V front back a i low =
    ap (λ (xs : List ℕ). remove xs (length (next_row V front) + i)) (flat_map-append (λ n. (V n).children) front (a ∷ back))
    ∙ remove-append_right (next_row V front) (next_row V (a ∷ back)) (length (next_row V front)) (length (next_row V front) + i) refl (omega arith)
    ∙ ap (λ (k : ℕ). next_row V front ++ remove ((V a).children ++ next_row V back) k) (omega arith)
    ∙ ap (λ (xs : List ℕ). next_row V front ++ xs) (remove-append_left (V a).children (next_row V back) i low)

-- a node of level 0 at the end of a way: what the tree has at the bottom
module _ (V : Reading) (root p : ℕ) (way : List Step) (front back : List ℕ) (w : IsWay V 0 root way p front back) (row : IsRow V 0 undefined_address (front ++ p ∷ back)) where
  pub leaves_here : IsTreeOf V (length way) root (next_row V (front ++ p ∷ back))
  leaves_here =
      let z : length way + 0 ≡ length way = omega arith in
      subst (λ (l : ℕ). IsTreeOf V l root (next_row V (front ++ p ∷ back))) z (whole V 0 root way p front back w row)

-- ---- where keys alone are others, the rows are the same

module _ (V W : Reading) (same : KeepsRows V W) where
  pub next_row-keyed : (row : List ℕ) → next_row W row ≡ next_row V row
  next_row-keyed [] = refl
  next_row-keyed (n ∷ row) = rw ((same n).1, next_row-keyed row) refl

  pub IsRow-keyed : (level left : ℕ) (row : List ℕ) → IsRow V level left row → IsRow W level left row
  IsRow-keyed level left [] is = tt
  IsRow-keyed level left (n ∷ row) is = rw (same n).1 (is.0, is.1, is.2, IsRow-keyed level n row is.3)

  pub AreRows-keyed : (level : ℕ) (row : List ℕ) → AreRows V level row → AreRows W level row
  AreRows-keyed zero row are = IsRow-keyed 0 undefined_address row are
  AreRows-keyed (suc level) row are =
      (IsRow-keyed (suc level) undefined_address row are.0, rw (next_row-keyed row) (AreRows-keyed level (next_row V row) are.1))

  row_below-keyed : (level : ℕ) (row : List ℕ) → row_below W level row ≡ row_below V level row
  row_below-keyed zero row = refl
  row_below-keyed (suc level) row = ap (row_below W level) (next_row-keyed row) ∙ row_below-keyed level (next_row V row)

  pub leaves-keyed : (level : ℕ) (row : List ℕ) → leaves W level row ≡ leaves V level row
  leaves-keyed level row = ap (next_row W) (row_below-keyed level row) ∙ next_row-keyed (row_below V level row)

  pub nodes-keyed : (level : ℕ) (row : List ℕ) → nodes W level row ≡ nodes V level row
  nodes-keyed zero row = refl
  nodes-keyed (suc level) row =
      ap (λ (r : List ℕ). row ++ nodes W level r) (next_row-keyed row) ∙ ap (λ (ns : List ℕ). row ++ ns) (nodes-keyed level (next_row V row))

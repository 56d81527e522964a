-- How many nodes a tree has, counted by some weight: of the rows above a node, of those under a row, and of a tree that an edit goes up
-- (File Format Specification 3.0, section III.A.1). With the weight 'holds this byte' it is how many of the nodes hold a byte.
use Rattle.std.specs.Prelude.{ℕ, zero, suc, ◌+◌, List, [], ◌∷◌, ◌++◌}
use Rattle.std.specs.List.{insert, remove}
use Rattle.h5_model.specs.Format.Rows.{Reading, next_row, nodes}
use Rattle.h5_btree.specs.Climb.{IsWay, LacksChild, IsOver}
use Rattle.h5_btree.specs.declared.way.Step.{Step}

module _ (w : ℕ → ℕ) where
  abbrev pub total : List ℕ → ℕ
  total [] = 0
  total (x ∷ xs) = w x + total xs

  -- the nodes of the rows above a node at the end of a way
  abbrev pub above_total : (V : Reading) (m root : ℕ) (way : List Step) (a : ℕ) (front back : List ℕ) → IsWay V m root way a front back → ℕ
  above_total V m root [] a front back is = 0
  above_total V m root (s ∷ way) a front back is = total (is.0 ++ s.node ∷ is.1) + above_total V (suc m) root way s.node is.0 is.1 is.3

  -- the nodes of the rows under a row of level m
  abbrev pub under_total : Reading → ℕ → List ℕ → ℕ
  under_total V zero low = 0
  under_total V (suc m) low = total (nodes V m low)

  -- the nodes of a tree that lacks a child, with that child; and of one that has a child too much, without it
  abbrev pub lacks_total : (V : Reading) (m root p : ℕ) (way : List Step) (j child : ℕ) (list : List ℕ) → LacksChild V m root p way j child list → ℕ
  lacks_total V m root p way j child list is =
      above_total V m root way p is.front is.back is.above
      + (total (is.front ++ p ∷ is.back) + under_total V m (next_row V is.front ++ (insert (V p).children j child ++ next_row V is.back)))

  abbrev pub over_total : (V : Reading) (m root p : ℕ) (way : List Step) (i : ℕ) (list : List ℕ) → IsOver V m root p way i list → ℕ
  over_total V m root p way i list is =
      above_total V m root way p is.front is.back is.above
      + (total (is.front ++ p ∷ is.back) + under_total V m (next_row V is.front ++ (remove (V p).children i ++ next_row V is.back)))

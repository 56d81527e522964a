-- Which nodes a tree owns after an edit: as many times as it counts for some weight, the nodes before, those that came and not those
-- that went. With the weight 'holds this byte' it is how many of the nodes hold a byte, so that the blocks of the tree are told.
use Rattle.std.proofs.Common.{◌≡◌, ℕ, zero, suc, ◌+◌, ◌<◌, ◌≤◌, List, [], ◌∷◌, ◌++◌, length, refl, sym, ap, ◌∙◌, arith, subst}
use Rattle.std.specs.List.{insert, remove}
use Rattle.h5_bytes.specs.Bytes.{undefined_address}
use Rattle.h5_bytes.specs.Blocks.{holds, cover}
use Rattle.h5_model.specs.Format.Rows.{Node, Reading, next_row, IsRow, nodes}
use Rattle.h5_model.specs.Format.Nodes.{Kind, node_length, tree_blocks}
use Rattle.h5_model.proofs.RowLaws.{nodes-same}
use Rattle.h5_btree.specs.Climb.{IsNoNode, IsWay, AreUnder, LacksChild, IsOver, Adds, Drops, Splits, RaisesRoot, Unlinks, Refills}
use Rattle.h5_btree.specs.declared.way.Step.{Step}
use Rattle.h5_btree.proofs.RowEdits.{level_here}
use Rattle.h5_btree.proofs.ClimbLaws.{KeepsLevels, row_here, row_with, row_without, agree_rows, IsWay-same, refills_keeps, refills_below, splits_keeps, splits_below, lacks_up}
use Rattle.h5_btree.proofs.DropLaws.{unlinks_keeps, unlinks_below, over_up, remove_alone}
pub use Rattle.h5_btree.specs.Totals.{total, above_total, under_total, lacks_total, over_total}

module _ (w : ℕ → ℕ) where
  pub total-append : (xs ys : List ℕ) → total w (xs ++ ys) ≡ total w xs + total w ys
  total-append [] ys = omega arith
  total-append (x ∷ xs) ys = omega (arith, total-append xs ys)

  nodes_total : (V : Reading) (m : ℕ) (row low : List ℕ) → next_row V row ≡ low → total w (nodes V m row) ≡ total w row + under_total w V m low
  nodes_total V zero row low e = omega arith
  nodes_total V (suc m) row low e = total-append row (nodes V m (next_row V row)) ∙ ap (λ (r : List ℕ). total w row + total w (nodes V m r)) e

  pub whole_total : (V : Reading) (m root : ℕ) (way : List Step) (a : ℕ) (front back : List ℕ) (is : IsWay V m root way a front back)
      → total w (nodes V (length way + m) (root ∷ [])) ≡ above_total w V m root way a front back is + total w (nodes V m (front ++ a ∷ back))
  whole_total V m root [] a front back is =
      let e : front ++ a ∷ back ≡ root ∷ [] = rw (is.1, is.2, is.0) in
      let z : 0 + m ≡ m = omega arith in
      let h : total w (nodes V (0 + m) (root ∷ [])) ≡ total w (nodes V m (front ++ a ∷ back)) = rw z (ap (λ (r : List ℕ). total w (nodes V m r)) (sym e)) in
      omega (arith, h)
  whole_total V m root (s ∷ way) a front back is =
      let e = row_here V m s.node s.place a front back is.0 is.1 is.2 in
      let z : suc (length way) + m ≡ length way + suc m = omega arith in
      let up = whole_total V (suc m) root way s.node is.0 is.1 is.3 in
      let here = total-append (is.0 ++ s.node ∷ is.1) (nodes V m (next_row V (is.0 ++ s.node ∷ is.1))) in
      let low : total w (nodes V m (next_row V (is.0 ++ s.node ∷ is.1))) ≡ total w (nodes V m (front ++ a ∷ back)) = ap (λ (r : List ℕ). total w (nodes V m r)) e in
      ap (λ (l : ℕ). total w (nodes V l (root ∷ []))) z ∙ omega (arith, up, here, low)

  module _ (V W : Reading) (l : ℕ) (same : KeepsLevels V W l) (top : l < 16) where
    above-same : (k root : ℕ) (way : List Step) (a : ℕ) (front back : List ℕ) (le : l ≤ k) (high : length way + k < 16) (is : IsWay V k root way a front back)
        → above_total w W k root way a front back (IsWay-same V W l same top k root way a front back le high is) ≡ above_total w V k root way a front back is
    unfolding IsWay-same
    above-same k root [] a front back le high is = refl
    above-same k root (s ∷ way) a front back le high is =
        ap (λ (n : ℕ). total w (is.0 ++ s.node ∷ is.1) + n) (above-same (suc k) root way s.node is.0 is.1 _ _ is.3)

  under-same : (V W : Reading) (l : ℕ) → KeepsLevels V W l → l < 16 → (low list : List ℕ) → AreUnder V l low list → under_total w W l low ≡ under_total w V l low
  under-same V W zero same top low list u = refl
  under-same V W (suc l) same top low list u = ap (total w) (nodes-same V W l low (agree_rows V W (suc l) same top l low (omega arith) u.0))

  -- a node has other children
  refills_total : (V W : Reading) (m root p : ℕ) (way : List Step) (front back children list : List ℕ) (high : length way + m < 16) (out : IsNoNode V undefined_address)
      (row : IsRow V m undefined_address (front ++ p ∷ back)) (is : IsWay V m root way p front back)
      → AreUnder V m (next_row V front ++ (children ++ next_row V back)) list → Refills V W p children
      → total w (nodes W (length way + m) (root ∷ []))
      ≡ above_total w V m root way p front back is + (total w (front ++ p ∷ back) + under_total w V m (next_row V front ++ (children ++ next_row V back)))
  refills_total V W m root p way front back children list high out row is u t =
      let top : m < 16 = omega (arith, high) in
      let low = next_row V front ++ (children ++ next_row V back) in
      let keeps = refills_keeps V W m p front back children top out row t in
      let le : m ≤ m = omega arith in
      let all = whole_total W m root way p front back (IsWay-same V W m keeps top m root way p front back le high is) in
      let up = above-same V W m keeps top m root way p front back le high is in
      let here = nodes_total W m (front ++ p ∷ back) low (refills_below V W m p front back children top out row t) in
      let down = under-same V W m keeps top low list u in
      omega (arith, all, up, here, down)

  -- the node had room: no node has come
  pub filled_total : (V W : Reading) (m root p : ℕ) (way : List Step) (j child : ℕ) (list : List ℕ) → length way + m < 16 → IsNoNode V undefined_address
      → (lacks : LacksChild V m root p way j child list) → Adds V W p j child
      → total w (nodes W (length way + m) (root ∷ [])) ≡ lacks_total w V m root p way j child list lacks
  filled_total V W m root p way j child list high out lacks t =
      refills_total V W m root p way lacks.front lacks.back (insert (V p).children j child) list high out lacks.row lacks.above lacks.under t

  -- the node was split: q has come
  pub up_total : (V W : Reading) (m root p : ℕ) (s : Step) (way : List Step) (j child q : ℕ) (list : List ℕ) (high : length (s ∷ way) + m < 16) (out : IsNoNode V undefined_address)
      (lacks : LacksChild V m root p (s ∷ way) j child list) (t : Splits V W p j child q)
      → lacks_total w W (suc m) root s.node way (suc s.place) q list (lacks_up V W m root p s way j child q list high out lacks t)
      ≡ w q + lacks_total w V m root p (s ∷ way) j child list lacks
  unfolding lacks_up
  up_total V W m root p s way j child q list high out lacks t =
      let top : m < 16 = omega (arith, high) in
      let front = lacks.front in
      let back = lacks.back in
      let low = next_row V front ++ (insert (V p).children j child ++ next_row V back) in
      let keeps = splits_keeps V W m p j child q front back top out lacks.row t in
      let new = lacks_up V W m root p s way j child q list high out lacks t in
      let is = IsWay-same V W m keeps top m root (s ∷ way) p front back (omega arith) high lacks.above in
      let up = above-same V W m keeps top m root (s ∷ way) p front back (omega arith) high lacks.above in
      let e = row_with W m s.node s.place p front back is.0 is.1 is.2 q in
      let below : under_total w W (suc m) (next_row W new.front ++ (insert (W s.node).children (suc s.place) q ++ next_row W new.back)) ≡ total w (nodes W m (front ++ p ∷ q ∷ back))
      = ap (λ (r : List ℕ). total w (nodes W m r)) e in
      let here = nodes_total W m (front ++ p ∷ q ∷ back) low (splits_below V W m p j child q front back top out lacks.row t) in
      let down = under-same V W m keeps top low list lacks.under in
      let a = total-append front (p ∷ q ∷ back) in
      let b = total-append front (p ∷ back) in
      omega (arith, up, below, here, down, a, b)

  -- the root was split: two nodes have come
  pub raised_total : (V W : Reading) (m root j child : ℕ) (list : List ℕ) → m < 16 → (out : IsNoNode V undefined_address) → (lacks : LacksChild V m root root [] j child list)
      → (t : RaisesRoot V W root j child)
      → next_row W (t.p ∷ t.q ∷ []) ≡ next_row V lacks.front ++ (insert (V root).children j child ++ next_row V lacks.back)
      → total w (nodes W (suc m) (root ∷ [])) ≡ w t.p + (w t.q + lacks_total w V m root root [] j child list lacks)
  raised_total V W m root j child list top out lacks t below =
      let level : (V root).level ≡ m = level_here V m root lacks.front lacks.back top out lacks.row in
      let keeps : KeepsLevels V W m = λ n other low. t.others n low (λ e. other (ap (λ (k : ℕ). (V k).level) e ∙ level)) in
      let low = next_row V lacks.front ++ (insert (V root).children j child ++ next_row V lacks.back) in
      let kids : next_row W (root ∷ []) ≡ t.p ∷ t.q ∷ [] = ap (λ h. h ++ []) (ap (λ (n : Node). n.children) t.at_root) in
      let next : total w (nodes W m (next_row W (root ∷ []))) ≡ total w (nodes W m (t.p ∷ t.q ∷ [])) = ap (λ (r : List ℕ). total w (nodes W m r)) kids in
      let here = nodes_total W m (t.p ∷ t.q ∷ []) low below in
      let down = under-same V W m keeps top low list lacks.under in
      let alone : total w (lacks.front ++ root ∷ lacks.back) ≡ w root + 0 = λ i. total w (lacks.above.1 i ++ root ∷ lacks.above.2 i) in
      omega (arith, next, here, down, alone)

  -- the node has other children: no node has gone
  pub kept_total : (V W : Reading) (m root p : ℕ) (way : List Step) (i : ℕ) (list : List ℕ) → length way + m < 16 → IsNoNode V undefined_address
      → (over : IsOver V m root p way i list) → Drops V W p i
      → total w (nodes W (length way + m) (root ∷ [])) ≡ over_total w V m root p way i list over
  kept_total V W m root p way i list high out over t =
      refills_total V W m root p way over.front over.back (remove (V p).children i) list high out over.row over.above over.under t

  -- the node has gone
  pub over_up_total : (V W : Reading) (m root p : ℕ) (s : Step) (way : List Step) (i : ℕ) (list : List ℕ) (high : length (s ∷ way) + m < 16) (out : IsNoNode V undefined_address)
      (over : IsOver V m root p (s ∷ way) i list) (one : length (V p).children ≡ 1) (t : Unlinks V W p)
      → w p + over_total w W (suc m) root s.node way s.place list (over_up V W m root p s way i list high out over one t)
      ≡ over_total w V m root p (s ∷ way) i list over
  unfolding over_up
  over_up_total V W m root p s way i list high out over one t =
      let top : m < 16 = omega (arith, high) in
      let front = over.front in
      let back = over.back in
      let low = next_row V front ++ next_row V back in
      let keeps = unlinks_keeps V W m p front back top out over.row t in
      let new = over_up V W m root p s way i list high out over one t in
      let is = IsWay-same V W m keeps top m root (s ∷ way) p front back (omega arith) high over.above in
      let up = above-same V W m keeps top m root (s ∷ way) p front back (omega arith) high over.above in
      let e = row_without W m s.node s.place p front back is.0 is.1 is.2 in
      let below : under_total w W (suc m) (next_row W new.front ++ (remove (W s.node).children s.place ++ next_row W new.back)) ≡ total w (nodes W m (front ++ back))
      = ap (λ (r : List ℕ). total w (nodes W m r)) e in
      let here = nodes_total W m (front ++ back) low (unlinks_below V W m p front back top out over.row t) in
      let none : remove (V p).children i ≡ [] = remove_alone (V p).children i one over.place in
      let u = subst (λ (xs : List ℕ). AreUnder V m (next_row V front ++ (xs ++ next_row V back)) list) none over.under in
      let down = under-same V W m keeps top low list u in
      let old : under_total w V m (next_row V front ++ (remove (V p).children i ++ next_row V back)) ≡ under_total w V m low
      = ap (λ (xs : List ℕ). under_total w V m (next_row V front ++ (xs ++ next_row V back))) none in
      let a = total-append front back in
      let b = total-append front (p ∷ back) in
      omega (arith, up, below, here, down, old, a, b)

  -- the root has no child left: it is the only node
  nodes_none : (V : Reading) (m : ℕ) → total w (nodes V m []) ≡ 0
  nodes_none V zero = refl
  nodes_none V (suc m) = nodes_none V m

  under_none_total : (V : Reading) (m : ℕ) → under_total w V m [] ≡ 0
  under_none_total V zero = refl
  under_none_total V (suc m) = nodes_none V m

  pub emptied_total : (V : Reading) (m root i : ℕ) (list : List ℕ) (over : IsOver V m root root [] i list) → length (V root).children ≡ 1
      → over_total w V m root root [] i list over ≡ w root
  emptied_total V m root i list over one =
      let is = over.above in
      let alone : total w (over.front ++ root ∷ over.back) ≡ w root + 0 = λ k. total w (is.1 k ++ root ∷ is.2 k) in
      let none : next_row V over.front ++ (remove (V root).children i ++ next_row V over.back) ≡ []
      = λ k. next_row V (is.1 k) ++ (remove_alone (V root).children i one over.place k ++ next_row V (is.2 k)) in
      let under : under_total w V m (next_row V over.front ++ (remove (V root).children i ++ next_row V over.back)) ≡ 0 = ap (under_total w V m) none ∙ under_none_total V m in
      omega (arith, alone, under)

-- how many of a tree's nodes hold a byte
pub cover_total : (p : ℕ) (kind : Kind) (owned : List ℕ) → cover p (tree_blocks kind owned) ≡ total (λ n. holds p n (node_length kind)) owned
cover_total p kind [] = refl
cover_total p kind (n ∷ owned) = ap (λ (k : ℕ). holds p n (node_length kind) + k) (cover_total p kind owned)

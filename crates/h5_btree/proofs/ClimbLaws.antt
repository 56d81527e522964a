-- An insertion on its way up: a child comes into a node, whose new half, if it is split, comes in above.
use Rattle.std.proofs.Common.{◌≡◌, ◌≢◌, ℕ, zero, suc, ◌+◌, ◌<◌, ◌≤◌, List, [], ◌∷◌, ◌++◌, length, take, drop, get_or, refl, sym, ap, ◌∙◌, arith, add-one, subst}
use Rattle.std.specs.List.{insert, remove}
use Rattle.std.proofs.lemmas.List.{append_assoc, append-nil, take-append-drop, drop_more, take_more}
use Rattle.std.proofs.lemmas.List.Concat.{flat_map-append}
use Rattle.h5_bytes.specs.Bytes.{undefined_address}
use Rattle.h5_model.specs.Format.Rows.{Node, Reading, next_row, first_or_undefined, IsRow, AreRows, leaves, nodes}
use Rattle.h5_model.proofs.RowLaws.{Agree, next_row-same, IsRow-same, AreRows-same, leaves-same}
use Rattle.h5_btree.specs.Climb.{IsNoNode, IsBelow, IsWay, AreUnder, IsTreeOf, LacksChild, Refills, Adds, Splits, RaisesRoot}
use Rattle.h5_btree.specs.declared.way.Step.{Step}
use Rattle.h5_btree.proofs.RowEdits.{
  first_right,
  BackNames,
  agree_at,
  back_names,
  level_here,
  right_here,
  front_level,
  back_level,
  front_other,
  back_other,
  front_not_right,
  back_not_right,
  IsRow-split,
  next_row-split,
  IsRow-refilled,
  next_row-refilled,
}

-- ---- the row of a node, from the row above

module _ (V : Reading) (m p i a : ℕ) (front back f bk : List ℕ) (s : IsBelow V m p i a front back f bk) where
  children_cut : (V p).children ≡ take i (V p).children ++ a ∷ drop (suc i) (V p).children
  children_cut =
      let cs = (V p).children in
      let d : drop i cs ≡ a ∷ drop (suc i) cs = rw (← add-one) (drop_more cs i 0 s.place) ∙ ap (λ x. x ∷ drop (suc i) cs) s.child in
      sym (take-append-drop i cs) ∙ ap (λ t. take i cs ++ t) d

  pub row_here : next_row V (f ++ p ∷ bk) ≡ front ++ a ∷ back
  row_here =
      let cs = (V p).children in
      flat_map-append (λ n. (V n).children) f (p ∷ bk)
      ∙ ap (λ t. next_row V f ++ (t ++ next_row V bk)) children_cut
      ∙ ap (λ t. next_row V f ++ t) (append_assoc (take i cs) (a ∷ drop (suc i) cs) (next_row V bk))
      ∙ sym (append_assoc (next_row V f) (take i cs) (a ∷ (drop (suc i) cs ++ next_row V bk)))
      ∙ ap (λ t. t ++ a ∷ (drop (suc i) cs ++ next_row V bk)) (sym s.fronts)
      ∙ ap (λ t. front ++ a ∷ t) (sym s.backs)

  -- with b behind a
  pub row_with : (b : ℕ) → next_row V f ++ (insert (V p).children (suc i) b ++ next_row V bk) ≡ front ++ a ∷ b ∷ back
  row_with b =
      let cs = (V p).children in
      let t : take (suc i) cs ≡ take i cs ++ a ∷ [] = rw (← add-one) (take_more cs i 0 s.place) ∙ ap (λ x. take i cs ++ x ∷ []) s.child in
      ap (λ h. next_row V f ++ ((h ++ b ∷ drop (suc i) cs) ++ next_row V bk)) t
      ∙ ap (λ h. next_row V f ++ (h ++ next_row V bk)) (append_assoc (take i cs) (a ∷ []) (b ∷ drop (suc i) cs))
      ∙ ap (λ h. next_row V f ++ h) (append_assoc (take i cs) (a ∷ b ∷ drop (suc i) cs) (next_row V bk))
      ∙ sym (append_assoc (next_row V f) (take i cs) (a ∷ b ∷ (drop (suc i) cs ++ next_row V bk)))
      ∙ ap (λ h. h ++ a ∷ b ∷ (drop (suc i) cs ++ next_row V bk)) (sym s.fronts)
      ∙ ap (λ h. front ++ a ∷ b ∷ h) (sym s.backs)

  -- without a
  pub row_without : next_row V f ++ (remove (V p).children i ++ next_row V bk) ≡ front ++ back
  row_without =
      let cs = (V p).children in
      ap (λ h. next_row V f ++ h) (append_assoc (take i cs) (drop (suc i) cs) (next_row V bk))
      ∙ sym (append_assoc (next_row V f) (take i cs) (drop (suc i) cs ++ next_row V bk))
      ∙ ap (λ h. h ++ (drop (suc i) cs ++ next_row V bk)) (sym s.fronts)
      ∙ ap (λ h. front ++ h) (sym s.backs)

-- a way and the rows from its end on are a tree
pub whole : (V : Reading) (m root : ℕ) (way : List Step) (a : ℕ) (front back : List ℕ) → IsWay V m root way a front back → AreRows V m (front ++ a ∷ back)
    → IsTreeOf V (length way + m) root (leaves V m (front ++ a ∷ back))
whole V m root [] a front back w r =
    let e : front ++ a ∷ back ≡ root ∷ [] = rw (w.1, w.2, w.0) in
    let z : 0 + m ≡ m = omega arith in
    rw (z, ← e) (r, refl)
whole V m root (s ∷ rest) a front back w r =
    let e = row_here V m s.node s.place a front back w.0 w.1 w.2 in
    let up = whole V (suc m) root rest s.node w.0 w.1 w.3 (w.2.row, rw e r) in
    let z : suc (length rest) + m ≡ length rest + suc m = omega arith in
    rw z (up.0, up.1 ∙ ap (leaves V m) e)

-- a row and what is under it
pub rows_under : (V : Reading) (m : ℕ) (row low list : List ℕ) → IsRow V m undefined_address row → next_row V row ≡ low → AreUnder V m low list
    → AreRows V m row × (leaves V m row ≡ list)
rows_under V zero row low list r e u = (r, e ∙ u)
rows_under V (suc m) row low list r e u = ((r, rw e u.0), ap (leaves V m) e ∙ u.1)

-- ---- what is written in the row of level l leaves the rows above and below it

-- the nodes of other levels stay; a place that is no node reads as level 16
abbrev pub KeepsLevels : Reading → Reading → ℕ → Type 0
KeepsLevels V W l = (n : ℕ) → (V n).level ≢ l → (V n).level < 16 → W n ≡ V n

module _ (V W : Reading) (l : ℕ) (same : KeepsLevels V W l) (top : l < 16) where
  pub agree_row : (k left : ℕ) (row : List ℕ) → k ≢ l → k < 16 → IsRow V k left row → Agree V W row
  agree_row k left [] other low is = tt
  agree_row k left (x ∷ xs) other low is =
      (same x (λ e. other (sym is.0 ∙ e)) (omega (arith, is.0, low)), agree_row k x xs other low is.3)

  agree_join : (xs ys : List ℕ) → Agree V W xs → Agree V W ys → Agree V W (xs ++ ys)
  agree_join [] ys a b = b
  agree_join (x ∷ xs) ys a b = (a.0, agree_join xs ys a.1 b)

  pub agree_rows : (k : ℕ) (row : List ℕ) → k < l → AreRows V k row → Agree V W (nodes V k row)
  agree_rows zero row lt r = agree_row zero undefined_address row (λ e. omega (arith, e, lt)) (omega arith) r
  agree_rows (suc k) row lt r =
      agree_join row (nodes V k (next_row V row)) (agree_row (suc k) undefined_address row (λ e. omega (arith, e, lt)) (omega (arith, lt, top)) r.0) (agree_rows k (next_row V row) (omega (arith, lt)) r.1)

  pub agree_front : (f : List ℕ) (p : ℕ) (bk : List ℕ) → Agree V W (f ++ p ∷ bk) → Agree V W f × (W p ≡ V p) × Agree V W bk
  agree_front [] p bk a = (tt, a.0, a.1)
  agree_front (x ∷ f) p bk a = let r = agree_front f p bk a.1 in ((a.0, r.0), r.1, r.2)

  -- the way above
  unfoldable pub IsWay-same : (k root : ℕ) (way : List Step) (a : ℕ) (front back : List ℕ) → l ≤ k → length way + k < 16
      → IsWay V k root way a front back → IsWay W k root way a front back
  IsWay-same k root [] a front back le high w = w
  IsWay-same k root (s ∷ rest) a front back le high w =
      let b = w.2 in
      let r = agree_row (suc k) undefined_address (w.0 ++ s.node ∷ w.1) (λ e. omega (arith, e, le)) (omega (arith, high)) b.row in
      let g = agree_front w.0 s.node w.1 r in
      let c = ap (λ (n : Node). n.children) g.1 in (
        w.0,
        w.1,
        record {
          place = rw c b.place;
          child = rw c b.child;
          fronts = rw (next_row-same V W w.0 g.0, c) b.fronts;
          backs = rw (next_row-same V W w.1 g.2, c) b.backs;
          row = IsRow-same V W (suc k) undefined_address (w.0 ++ s.node ∷ w.1) r b.row;
        },
        IsWay-same (suc k) root rest s.node w.0 w.1 (omega (arith, le)) (omega (arith, high)) w.3,
      )

-- what is under the row
pub under_same : (V W : Reading) (l : ℕ) → KeepsLevels V W l → l < 16 → (low list : List ℕ) → AreUnder V l low list → AreUnder W l low list
under_same V W zero same top low list u = u
under_same V W (suc l) same top low list u =
    let a = agree_rows V W (suc l) same top l low (omega arith) u.0 in
    (AreRows-same V W l low a u.0, leaves-same V W l low a ∙ u.1)

-- ---- a node has other children

module _ (V W : Reading) (m p : ℕ) (front back children : List ℕ) (top : m < 16) (out : IsNoNode V undefined_address)
    (row : IsRow V m undefined_address (front ++ p ∷ back)) (t : Refills V W p children) where
  pub refills_keeps : KeepsLevels V W m
  refills_keeps n other low = t.others n low (λ e. other (ap (λ (k : ℕ). (V k).level) e ∙ level_here V m p front back top out row))

  refills_front : Agree V W front
  refills_front = agree_at V W front (λ i less.
      t.others (get_or front i 0) (omega (arith, front_level V m p front back top out row i less, top)) (front_other V m p front back top out row i less))

  refills_back : Agree V W back
  refills_back = agree_at V W back (λ i less.
      t.others (get_or back i 0) (omega (arith, back_level V m p front back top out row i less, top)) (back_other V m p front back top out row i less))

  -- the row below
  pub refills_below : next_row W (front ++ p ∷ back) ≡ next_row V front ++ (children ++ next_row V back)
  refills_below = next_row-refilled V W p children t.keys back t.node refills_back front refills_front

  pub refills_tree : (root : ℕ) (way : List Step) (list : List ℕ) → length way + m < 16 → IsWay V m root way p front back
      → AreUnder V m (next_row V front ++ (children ++ next_row V back)) list → IsTreeOf W (length way + m) root list
  refills_tree root way list high w u =
      let low = next_row V front ++ (children ++ next_row V back) in
      let is = IsRow-refilled V W p children t.keys back t.node refills_back m undefined_address front refills_front row in
      let here = rows_under W m (front ++ p ∷ back) low list is refills_below (under_same V W m refills_keeps top low list u) in
      let up = whole W m root way p front back (IsWay-same V W m refills_keeps top m root way p front back (omega arith) high w) here.0 in
      (up.0, up.1 ∙ here.1)

-- ---- a node is split

module _ (V W : Reading) (m p j child q : ℕ) (front back : List ℕ) (top : m < 16) (out : IsNoNode V undefined_address)
    (row : IsRow V m undefined_address (front ++ p ∷ back)) (t : Splits V W p j child q) where
  pub splits_keeps : KeepsLevels V W m
  splits_keeps n other low = t.others n low
      (λ e. other (ap (λ (k : ℕ). (V k).level) e ∙ level_here V m p front back top out row))
      (λ e. at_right e back refl) where
        at_right : n ≡ (V p).right → (b : List ℕ) → back ≡ b → ⊥
        at_right e [] none =
            let end : n ≡ undefined_address = e ∙ right_here V m p front back top out row ∙ ap first_or_undefined none in
            absurd (omega (arith, ap (λ (k : ℕ). (V k).level) end, low, out))
        at_right e (c ∷ cs) some =
            let first : n ≡ get_or back 0 0 = e ∙ right_here V m p front back top out row ∙ ap first_or_undefined some ∙ sym (ap (λ (b : List ℕ). get_or b 0 0) some) in
            other (ap (λ (k : ℕ). (V k).level) first ∙ back_level V m p front back top out row 0 (omega (arith, ap (λ (b : List ℕ). length b) some)))

  splits_front : Agree V W front
  splits_front = agree_at V W front (λ i less.
      t.others (get_or front i 0) (omega (arith, front_level V m p front back top out row i less, top))
      (front_other V m p front back top out row i less) (front_not_right V m p front back top out row i less))

  splits_back : BackNames V W q back
  splits_back = back_names V W q back
      (λ some.
      let e = first_right V m p front back top out row some in
      let low : (V (V p).right).level < 16 = omega (arith, ap (λ (k : ℕ). (V k).level) e, back_level V m p front back top out row 0 some, top) in
      subst (λ (n : ℕ). W n ≡ record (V n) { left = q }) (sym e) (t.at_next low))
      (λ i less.
      t.others (get_or back (suc i) 0) (omega (arith, back_level V m p front back top out row (suc i) less, top))
      (back_other V m p front back top out row (suc i) less) (back_not_right V m p front back top out row i less))

  at_q : W q ≡ record { level = (V p).level; left = p; right = first_or_undefined back; keys = t.keys_q; children = t.ys }
  at_q = t.at_q ∙ ap (λ (r : ℕ). record { level = (V p).level; left = p; right = r; keys = t.keys_q; children = t.ys }) (right_here V m p front back top out row)

  -- the row below
  pub splits_below : next_row W (front ++ p ∷ q ∷ back) ≡ next_row V front ++ (insert (V p).children j child ++ next_row V back)
  splits_below =
      next_row-split V W p q t.xs t.ys t.keys t.keys_q back t.at_p at_q splits_back front splits_front ∙ ap (λ z. next_row V front ++ (z ++ next_row V back)) t.joined

  -- its row, and what is under it
  pub splits_rows : (list : List ℕ) → AreUnder V m (next_row V front ++ (insert (V p).children j child ++ next_row V back)) list
      → AreRows W m (front ++ p ∷ q ∷ back) × (leaves W m (front ++ p ∷ q ∷ back) ≡ list)
  splits_rows list u =
      let low = next_row V front ++ (insert (V p).children j child ++ next_row V back) in
      let is = IsRow-split V W p q t.xs t.ys t.keys t.keys_q back t.at_p at_q splits_back m undefined_address front splits_front row in
      rows_under W m (front ++ p ∷ q ∷ back) low list is splits_below (under_same V W m splits_keeps top low list u)

-- ---- one step of the climb

-- the node has room: the tree is whole
pub lacks_filled : (V W : Reading) (m root p : ℕ) (way : List Step) (j child : ℕ) (list : List ℕ) → length way + m < 16 → IsNoNode V undefined_address
    → LacksChild V m root p way j child list → Adds V W p j child → IsTreeOf W (length way + m) root list
lacks_filled V W m root p way j child list high out lacks t =
    refills_tree V W m p lacks.front lacks.back (insert (V p).children j child) (omega (arith, high)) out lacks.row t root way list high lacks.above lacks.under

-- the node is full: it lacks nothing any more, and the one above it lacks the new node, behind it
unfoldable pub lacks_up : (V W : Reading) (m root p : ℕ) (s : Step) (way : List Step) (j child q : ℕ) (list : List ℕ) → length (s ∷ way) + m < 16 → IsNoNode V undefined_address
    → LacksChild V m root p (s ∷ way) j child list → Splits V W p j child q → LacksChild W (suc m) root s.node way (suc s.place) q list
lacks_up V W m root p s way j child q list high out lacks t =
    let top : m < 16 = omega (arith, high) in
    let keeps = splits_keeps V W m p j child q lacks.front lacks.back top out lacks.row t in
    let w = IsWay-same V W m keeps top m root (s ∷ way) p lacks.front lacks.back (omega arith) high lacks.above in
    let here = splits_rows V W m p j child q lacks.front lacks.back top out lacks.row t list lacks.under in
    let e = row_with W m s.node s.place p lacks.front lacks.back w.0 w.1 w.2 q in
    record {
      front = w.0;
      back = w.1;
      above = w.3;
      row = w.2.row;
      place = w.2.place;
      under = subst (λ (row : List ℕ). AreRows W m row × (leaves W m row ≡ list)) (sym e) here;
    }

-- the node is the root, and full: the row below its new halves
pub raised_below : (V W : Reading) (m root j child : ℕ) (list : List ℕ) → m < 16 → IsNoNode V undefined_address → (lacks : LacksChild V m root root [] j child list)
    → (t : RaisesRoot V W root j child) → next_row W (t.p ∷ t.q ∷ []) ≡ next_row V lacks.front ++ (insert (V root).children j child ++ next_row V lacks.back)
raised_below V W m root j child list top out lacks t =
    let w = lacks.above in
    let alone : next_row V lacks.front ++ (insert (V root).children j child ++ next_row V lacks.back) ≡ insert (V root).children j child
    = (λ i. next_row V (w.1 i) ++ (insert (V root).children j child ++ next_row V (w.2 i))) ∙ append-nil (insert (V root).children j child) in
    ap (λ h. h ++ ((W t.q).children ++ [])) (ap (λ (n : Node). n.children) t.at_p)
    ∙ ap (λ h. t.xs ++ (h ++ [])) (ap (λ (n : Node). n.children) t.at_q)
    ∙ ap (λ h. t.xs ++ h) (append-nil t.ys) ∙ t.joined ∙ sym alone

-- the node is the root, and full: it stands one level higher, at its address
pub lacks_raised : (V W : Reading) (m root j child : ℕ) (list : List ℕ) → m < 16 → IsNoNode V undefined_address → LacksChild V m root root [] j child list
    → RaisesRoot V W root j child → IsTreeOf W (suc m) root list
lacks_raised V W m root j child list top out lacks t =
    let level : (V root).level ≡ m = level_here V m root lacks.front lacks.back top out lacks.row in
    let keeps : KeepsLevels V W m = λ n other low. t.others n low (λ e. other (ap (λ (k : ℕ). (V k).level) e ∙ level)) in
    let low = next_row V lacks.front ++ (insert (V root).children j child ++ next_row V lacks.back) in
    let kids : next_row W (root ∷ []) ≡ t.p ∷ t.q ∷ [] = ap (λ h. h ++ []) (ap (λ (n : Node). n.children) t.at_root) in
    let row : IsRow W m undefined_address (t.p ∷ t.q ∷ []) = (
      ap (λ (n : Node). n.level) t.at_p ∙ level,
      ap (λ (n : Node). n.left) t.at_p,
      ap (λ (n : Node). n.right) t.at_p,
      (ap (λ (n : Node). n.level) t.at_q ∙ level, ap (λ (n : Node). n.left) t.at_q, ap (λ (n : Node). n.right) t.at_q, tt),
    ) in
    let below = raised_below V W m root j child list top out lacks t in
    let first : IsRow W (suc m) undefined_address (root ∷ []) =
    (ap (λ (n : Node). n.level) t.at_root ∙ ap suc level, ap (λ (n : Node). n.left) t.at_root, ap (λ (n : Node). n.right) t.at_root, tt) in
    let here = rows_under W m (t.p ∷ t.q ∷ []) low list row below (under_same V W m keeps top low list lacks.under) in
    ((first, rw kids here.0), ap (leaves W m) kids ∙ here.1)

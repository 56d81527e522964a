-- A removal on its way up: a child goes from a node, and a node without children goes from its row and from the node above.
use Rattle.std.proofs.Common.{◌≡◌, ◌≢◌, ℕ, zero, suc, ◌+◌, ◌<◌, List, [], ◌∷◌, ◌++◌, length, get_or, refl, sym, ap, ◌∙◌, arith, subst}
use Rattle.std.specs.List.{remove}
use Rattle.h5_bytes.specs.Bytes.{undefined_address}
use Rattle.h5_model.specs.Format.Rows.{Node, Reading, next_row, row_below, first_or_undefined, IsRow, AreRows, leaves}
use Rattle.h5_btree.specs.Climb.{IsNoNode, AreUnder, IsTreeOf, IsOver, Drops, Unlinks, EmptiesRoot}
use Rattle.h5_btree.specs.declared.way.Step.{Step}
use Rattle.h5_btree.proofs.RowEdits.{
  first_right,
  FrontNames,
  BackNames,
  last_of,
  front_names,
  back_names,
  level_here,
  left_here,
  right_here,
  front_level,
  back_level,
  front_other,
  back_other,
  front_not_right,
  back_not_right,
  front_not_left,
  back_not_left,
  front_last,
  IsRow-without,
  next_row-without,
}
use Rattle.h5_btree.proofs.ClimbLaws.{KeepsLevels, IsWay-same, row_without, rows_under, under_same, refills_tree}

-- ---- a node goes

module _ (V W : Reading) (m p : ℕ) (front back : List ℕ) (top : m < 16) (out : IsNoNode V undefined_address)
    (row : IsRow V m undefined_address (front ++ p ∷ back)) (t : Unlinks V W p) where
  not_left : (n : ℕ) → (V n).level ≢ m → (V n).level < 16 → n ≢ (V p).left
  not_left n other low e = go front refl where
    go : (f : List ℕ) → front ≡ f → ⊥
    go [] none =
        let end : n ≡ undefined_address = e ∙ left_here V m p front back top out row ∙ ap (last_of undefined_address) none in
        absurd (omega (arith, ap (λ (k : ℕ). (V k).level) end, low, out))
    go (x ∷ xs) some =
        let fl : suc (length xs) ≡ length front = sym (ap (λ (f : List ℕ). length f) some) in
        let last : n ≡ get_or front (length xs) 0 = e ∙ sym (front_last V m p front back top out row (length xs) fl) in
        other (ap (λ (k : ℕ). (V k).level) last ∙ front_level V m p front back top out row (length xs) (omega (arith, fl)))

  not_right : (n : ℕ) → (V n).level ≢ m → (V n).level < 16 → n ≢ (V p).right
  not_right n other low e = go back refl where
    go : (b : List ℕ) → back ≡ b → ⊥
    go [] none =
        let end : n ≡ undefined_address = e ∙ right_here V m p front back top out row ∙ ap first_or_undefined none in
        absurd (omega (arith, ap (λ (k : ℕ). (V k).level) end, low, out))
    go (c ∷ cs) some =
        let more : 0 < length back = omega (arith, ap (λ (b : List ℕ). length b) some) in
        other (ap (λ (k : ℕ). (V k).level) (e ∙ sym (first_right V m p front back top out row more)) ∙ back_level V m p front back top out row 0 more)

  pub unlinks_keeps : KeepsLevels V W m
  unlinks_keeps n other low =
      t.others n low (λ e. other (ap (λ (k : ℕ). (V k).level) e ∙ level_here V m p front back top out row)) (not_left n other low) (not_right n other low)

  unlinks_front : FrontNames V W (first_or_undefined back) front
  unlinks_front = front_names V W (first_or_undefined back) front
      (λ i less.
      let here : i < length front = omega (arith, less) in
      t.others (get_or front i 0) (omega (arith, front_level V m p front back top out row i here, top)) (front_other V m p front back top out row i here)
      (front_not_left V m p front back top out row i less) (front_not_right V m p front back top out row i here))
      (λ i last.
      let e = front_last V m p front back top out row i last in
      let low : (V (V p).left).level < 16 = omega (arith, ap (λ (k : ℕ). (V k).level) e, front_level V m p front back top out row i (omega (arith, last)), top) in
      subst (λ (n : ℕ). W n ≡ record (V n) { right = first_or_undefined back }) (sym e)
      (t.at_left low ∙ ap (λ (r : ℕ). record (V (V p).left) { right = r }) (right_here V m p front back top out row)))

  unlinks_back : BackNames V W (last_of undefined_address front) back
  unlinks_back = back_names V W (last_of undefined_address front) back
      (λ some.
      let e = first_right V m p front back top out row some in
      let low : (V (V p).right).level < 16 = omega (arith, ap (λ (k : ℕ). (V k).level) e, back_level V m p front back top out row 0 some, top) in
      subst (λ (n : ℕ). W n ≡ record (V n) { left = last_of undefined_address front }) (sym e)
      (t.at_right low ∙ ap (λ (l : ℕ). record (V (V p).right) { left = l }) (left_here V m p front back top out row)))
      (λ i less.
      t.others (get_or back (suc i) 0) (omega (arith, back_level V m p front back top out row (suc i) less, top)) (back_other V m p front back top out row (suc i) less)
      (back_not_left V m p front back top out row (suc i) less) (back_not_right V m p front back top out row i less))

  -- the row below
  pub unlinks_below : next_row W (front ++ back) ≡ next_row V front ++ next_row V back
  unlinks_below = next_row-without V W p back undefined_address front unlinks_front unlinks_back

  -- the row without it, and what is under it
  pub unlinks_rows : (list : List ℕ) → AreUnder V m (next_row V front ++ next_row V back) list
      → AreRows W m (front ++ back) × (leaves W m (front ++ back) ≡ list)
  unlinks_rows list u =
      let is = IsRow-without V W p back m undefined_address front unlinks_front unlinks_back row in
      rows_under W m (front ++ back) (next_row V front ++ next_row V back) list is unlinks_below (under_same V W m unlinks_keeps top (next_row V front ++ next_row V back) list u)

-- ---- one step

-- the node has other children: the tree is whole
pub over_kept : (V W : Reading) (m root p : ℕ) (way : List Step) (i : ℕ) (list : List ℕ) → length way + m < 16 → IsNoNode V undefined_address
    → IsOver V m root p way i list → Drops V W p i → IsTreeOf W (length way + m) root list
over_kept V W m root p way i list high out over t =
    refills_tree V W m p over.front over.back (remove (V p).children i) (omega (arith, high)) out over.row t root way list high over.above over.under

-- the only one of a list goes
pub remove_alone : {X : Type 0} (xs : List X) (i : ℕ) → length xs ≡ 1 → i < length xs → remove xs i ≡ []
remove_alone [] i one low = absurd (omega (arith, low))
remove_alone (x ∷ []) zero one low = refl
remove_alone (x ∷ []) (suc i) one low = absurd (omega (arith, low))
remove_alone (x ∷ y ∷ xs) i one low = absurd (omega (arith, one))

-- the node has no other child: it goes, and the one above has a child too much
unfoldable pub over_up : (V W : Reading) (m root p : ℕ) (s : Step) (way : List Step) (i : ℕ) (list : List ℕ) → length (s ∷ way) + m < 16 → IsNoNode V undefined_address
    → IsOver V m root p (s ∷ way) i list → length (V p).children ≡ 1 → Unlinks V W p → IsOver W (suc m) root s.node way s.place list
over_up V W m root p s way i list high out over one t =
    let top : m < 16 = omega (arith, high) in
    let keeps = unlinks_keeps V W m p over.front over.back top out over.row t in
    let w = IsWay-same V W m keeps top m root (s ∷ way) p over.front over.back (omega arith) high over.above in
    let none : remove (V p).children i ≡ [] = remove_alone (V p).children i one over.place in
    let u = subst (λ (xs : List ℕ). AreUnder V m (next_row V over.front ++ (xs ++ next_row V over.back)) list) none over.under in
    let here = unlinks_rows V W m p over.front over.back top out over.row t list u in
    let e = row_without W m s.node s.place p over.front over.back w.0 w.1 w.2 in
    record {
      front = w.0;
      back = w.1;
      above = w.3;
      row = w.2.row;
      place = w.2.place;
      under = subst (λ (row : List ℕ). AreRows W m row × (leaves W m row ≡ list)) (sym e) here;
    }

-- nothing is below no row
row_below_none : (V : Reading) (m : ℕ) → row_below V m [] ≡ []
row_below_none V zero = refl
row_below_none V (suc m) = row_below_none V m

under_none : (V : Reading) (m : ℕ) (list : List ℕ) → AreUnder V m [] list → [] ≡ list
under_none V zero list u = u
under_none V (suc m) list u = sym (ap (next_row V) (row_below_none V m)) ∙ u.1

-- the root has no other child: it is at level 0, and the tree has nothing at the bottom
pub over_emptied : (V W : Reading) (m root i : ℕ) (list : List ℕ) → IsOver V m root root [] i list → length (V root).children ≡ 1 → EmptiesRoot W root
    → IsTreeOf W 0 root list × (list ≡ [])
over_emptied V W m root i list over one t =
    let w = over.above in
    let none : next_row V over.front ++ (remove (V root).children i ++ next_row V over.back) ≡ []
    = λ k. next_row V (w.1 k) ++ (remove_alone (V root).children i one over.place k ++ next_row V (w.2 k)) in
    let empty : [] ≡ list = under_none V m list (subst (λ (low : List ℕ). AreUnder V m low list) none over.under) in (
      (
        (ap (λ (n : Node). n.level) t.node, ap (λ (n : Node). n.left) t.node, ap (λ (n : Node). n.right) t.node, tt),
        ap (λ (cs : List ℕ). cs ++ []) (ap (λ (n : Node). n.children) t.node) ∙ empty,
      ),
      sym empty,
    )

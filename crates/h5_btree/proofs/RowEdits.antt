-- What becomes of a row of a tree when one of its nodes is split or goes; and no node stands twice in a row.
use Rattle.std.proofs.Common.{◌≡◌, ◌≢◌, ℕ, zero, suc, ◌+◌, ◌-◌, ◌<◌, List, [], ◌∷◌, ◌++◌, length, get_or, refl, sym, ap, ◌∙◌, subst, arith}
use Rattle.std.proofs.lemmas.List.{append_assoc, length-append, get_or-append-add, places}
use Rattle.std.proofs.lemmas.List.Concat.{flat_map-append}
use Rattle.h5_bytes.specs.Bytes.{undefined_address}
use Rattle.h5_model.specs.Format.Rows.{Node, Reading, next_row, first_or_undefined, IsRow}
use Rattle.h5_model.proofs.RowLaws.{Agree, next_row-same, IsRow-same}
use Rattle.h5_btree.specs.Climb.{IsNoNode}

-- ---- places in a row

pub agree_at : (V W : Reading) (xs : List ℕ) → ((i : ℕ) → i < length xs → W (get_or xs i 0) ≡ V (get_or xs i 0)) → Agree V W xs
agree_at V W [] same = tt
agree_at V W (x ∷ xs) same = (same 0 (omega arith), agree_at V W xs (λ i low. same (suc i) (omega (arith, low))))

front_at : (xs ys : List ℕ) (i : ℕ) → i < length xs → get_or (xs ++ ys) i 0 ≡ get_or xs i 0
front_at xs ys i low = grind (arith, places)

back_at : (xs ys : List ℕ) (i : ℕ) → get_or (xs ++ ys) (length xs + i) 0 ≡ get_or ys i 0
back_at xs ys i = get_or-append-add xs ys i 0

module _ (V : Reading) (l : ℕ) where
  row_at : (left : ℕ) (row : List ℕ) (k : ℕ) → IsRow V l left row → k < length row
      → ((V (get_or row k 0)).level ≡ l) × ((V (get_or row k 0)).left ≡ get_or (left ∷ row) k 0)
  row_at left [] k is low = absurd (omega (arith, low))
  row_at left (n ∷ row) zero is low = (is.0, is.1)
  row_at left (n ∷ row) (suc k) is low = row_at n row k is.3 (omega (arith, low))

  -- no node stands twice in a row: the nodes to the left would be the same, up to the one before the row
  twice : (left : ℕ) (row : List ℕ) (i d : ℕ) → (V left).level ≢ l → IsRow V l left row → i + suc d < length row → get_or row i 0 ≡ get_or row (i + suc d) 0 → ⊥
  twice left row zero d out is low same =
      let first = row_at left row 0 is (omega (arith, low)) in
      let second = row_at left row (suc d) is (omega (arith, low)) in
      let z : 0 + suc d ≡ suc d = omega arith in
      let met : left ≡ get_or row d 0 = sym first.1 ∙ ap (λ (n : ℕ). (V n).left) (same ∙ ap (λ (i : ℕ). get_or row i 0) z) ∙ second.1 in
      out (ap (λ (n : ℕ). (V n).level) met ∙ (row_at left row d is (omega (arith, low))).0)
  twice left row (suc i) d out is low same =
      let first = row_at left row (suc i) is (omega (arith, low)) in
      let s : suc i + suc d ≡ suc (i + suc d) = omega arith in
      let second = row_at left row (suc (i + suc d)) is (omega (arith, low)) in
      twice left row i d out is (omega (arith, low))
      (sym first.1 ∙ ap (λ (n : ℕ). (V n).left) (same ∙ ap (λ (j : ℕ). get_or row j 0) s) ∙ second.1)

-- the last node of a row, or what stands before it
abbrev pub last_of : ℕ → List ℕ → ℕ
last_of left [] = left
last_of left (x ∷ xs) = last_of x xs

last_at : (left x : ℕ) (xs : List ℕ) → last_of left (x ∷ xs) ≡ get_or (x ∷ xs) (length xs) 0
last_at left x [] = refl
last_at left x (y ∷ ys) = last_at x y ys

-- a row of level l, in which p stands behind front and before back
module _ (V : Reading) (l p : ℕ) (front back : List ℕ) (low : l < 16) (out : IsNoNode V undefined_address) (row : IsRow V l undefined_address (front ++ p ∷ back)) where
  abbrev whole_row : List ℕ
  whole_row = front ++ p ∷ back

  apart_from_undefined : (V undefined_address).level ≢ l
  apart_from_undefined e = omega (arith, e, low, out)

  p_place : get_or whole_row (length front) 0 ≡ p
  p_place = let z : length front + 0 ≡ length front = omega arith in ap (λ (i : ℕ). get_or whole_row i 0) (sym z) ∙ back_at front (p ∷ back) 0

  front_place : (i : ℕ) → i < length front → get_or whole_row i 0 ≡ get_or front i 0
  front_place i less = front_at front (p ∷ back) i less

  back_place : (i : ℕ) → get_or whole_row (length front + suc i) 0 ≡ get_or back i 0
  back_place i = back_at front (p ∷ back) (suc i)

  long : length whole_row ≡ length front + suc (length back)
  long = length-append front (p ∷ back)

  -- what stands at two places, the first before the second
  differ : (i j : ℕ) → i < j → j < length whole_row → get_or whole_row i 0 ≢ get_or whole_row j 0
  differ i j less high same =
      let d : i + suc (j - suc i) ≡ j = omega (arith, less) in
      twice V l undefined_address whole_row i (j - suc i) apart_from_undefined row (omega (arith, d, high)) (same ∙ ap (λ (n : ℕ). get_or whole_row n 0) (sym d))

  level_at : (i : ℕ) → i < length whole_row → (V (get_or whole_row i 0)).level ≡ l
  level_at i less = (row_at V l undefined_address whole_row i row less).0

  pub level_here : (V p).level ≡ l
  level_here = subst (λ (n : ℕ). (V n).level ≡ l) p_place (level_at (length front) (omega (arith, long)))

  pub right_here : (V p).right ≡ first_or_undefined back
  right_here = go front undefined_address row where
    go : (xs : List ℕ) (left : ℕ) → IsRow V l left (xs ++ p ∷ back) → (V p).right ≡ first_or_undefined back
    go [] left is = is.2
    go (x ∷ xs) left is = go xs x is.3

  -- the first of what stands to the right is the neighbour there
  pub first_right : 0 < length back → get_or back 0 0 ≡ (V p).right
  first_right some = go back refl where
    go : (b : List ℕ) → back ≡ b → get_or back 0 0 ≡ (V p).right
    go [] none = absurd (omega (arith, some, ap (λ (b : List ℕ). length b) none))
    go (c ∷ cs) more = ap (λ (b : List ℕ). get_or b 0 0) more ∙ sym (right_here ∙ ap first_or_undefined more)

  pub left_here : (V p).left ≡ last_of undefined_address front
  left_here = go front undefined_address row where
    go : (xs : List ℕ) (left : ℕ) → IsRow V l left (xs ++ p ∷ back) → (V p).left ≡ last_of left xs
    go [] left is = is.1
    go (x ∷ xs) left is = go xs x is.3

  pub front_level : (i : ℕ) → i < length front → (V (get_or front i 0)).level ≡ l
  front_level i less = subst (λ (n : ℕ). (V n).level ≡ l) (front_place i less) (level_at i (omega (arith, less, long)))

  pub back_level : (i : ℕ) → i < length back → (V (get_or back i 0)).level ≡ l
  back_level i less = subst (λ (n : ℕ). (V n).level ≡ l) (back_place i) (level_at (length front + suc i) (omega (arith, less, long)))

  -- p is none of the others
  pub front_other : (i : ℕ) → i < length front → get_or front i 0 ≢ p
  front_other i less same = differ i (length front) less (omega (arith, long)) (front_place i less ∙ same ∙ sym p_place)

  pub back_other : (i : ℕ) → i < length back → get_or back i 0 ≢ p
  back_other i less same = differ (length front) (length front + suc i) (omega arith) (omega (arith, less, long)) (p_place ∙ sym same ∙ sym (back_place i))

  -- nor are two others the same
  pub front_back : (i j : ℕ) → i < length front → j < length back → get_or front i 0 ≢ get_or back j 0
  front_back i j less high same =
      differ i (length front + suc j) (omega (arith, less)) (omega (arith, high, long)) (front_place i less ∙ same ∙ sym (back_place j))

  pub front_apart : (i j : ℕ) → i < j → j < length front → get_or front i 0 ≢ get_or front j 0
  front_apart i j less high same =
      differ i j less (omega (arith, high, long)) (front_place i (omega (arith, less, high)) ∙ same ∙ sym (front_place j high))

  pub back_apart : (i j : ℕ) → i < j → j < length back → get_or back i 0 ≢ get_or back j 0
  back_apart i j less high same =
      differ (length front + suc i) (length front + suc j) (omega (arith, less)) (omega (arith, high, long)) (back_place i ∙ same ∙ sym (back_place j))

  -- a node before p is not its neighbour to the right
  pub front_not_right : (i : ℕ) → i < length front → get_or front i 0 ≢ (V p).right
  front_not_right i less same = go back refl where
    go : (b : List ℕ) → back ≡ b → ⊥
    go [] none =
        let end : get_or front i 0 ≡ undefined_address = same ∙ right_here ∙ ap first_or_undefined none in
        apart_from_undefined (ap (λ (n : ℕ). (V n).level) (sym end) ∙ front_level i less)
    go (c ∷ cs) some =
        let bl : 0 < length back = omega (arith, ap (λ (b : List ℕ). length b) some) in
        let at_c : get_or back 0 0 ≡ (V p).right = ap (λ (b : List ℕ). get_or b 0 0) some ∙ sym (right_here ∙ ap first_or_undefined some) in
        front_back i 0 less bl (same ∙ sym at_c)

  -- nor is one behind p, past that neighbour
  pub back_not_right : (i : ℕ) → suc i < length back → get_or back (suc i) 0 ≢ (V p).right
  back_not_right i less same = go back refl where
    go : (b : List ℕ) → back ≡ b → ⊥
    go [] none = absurd (omega (arith, less, ap (λ (b : List ℕ). length b) none))
    go (c ∷ cs) some =
        let at_c : get_or back 0 0 ≡ (V p).right = ap (λ (b : List ℕ). get_or b 0 0) some ∙ sym (right_here ∙ ap first_or_undefined some) in
        back_apart 0 (suc i) (omega arith) less (at_c ∙ sym same)

  -- a node behind p is not its neighbour to the left
  pub back_not_left : (i : ℕ) → i < length back → get_or back i 0 ≢ (V p).left
  back_not_left i less same = go front refl where
    go : (f : List ℕ) → front ≡ f → ⊥
    go [] none =
        let end : get_or back i 0 ≡ undefined_address = same ∙ left_here ∙ ap (last_of undefined_address) none in
        apart_from_undefined (ap (λ (n : ℕ). (V n).level) (sym end) ∙ back_level i less)
    go (x ∷ xs) some =
        let fl : length front ≡ suc (length xs) = ap (λ (f : List ℕ). length f) some in
        let at_x : get_or front (length xs) 0 ≡ (V p).left
        = ap (λ (f : List ℕ). get_or f (length xs) 0) some ∙ sym (last_at undefined_address x xs) ∙ sym (left_here ∙ ap (last_of undefined_address) some) in
        front_back (length xs) i (omega (arith, fl)) less (at_x ∙ sym same)

  -- nor is one before p, before that neighbour
  pub front_not_left : (i : ℕ) → suc i < length front → get_or front i 0 ≢ (V p).left
  front_not_left i less same = go front refl where
    go : (f : List ℕ) → front ≡ f → ⊥
    go [] none = absurd (omega (arith, less, ap (λ (f : List ℕ). length f) none))
    go (x ∷ xs) some =
        let fl : length front ≡ suc (length xs) = ap (λ (f : List ℕ). length f) some in
        let at_x : get_or front (length xs) 0 ≡ (V p).left
        = ap (λ (f : List ℕ). get_or f (length xs) 0) some ∙ sym (last_at undefined_address x xs) ∙ sym (left_here ∙ ap (last_of undefined_address) some) in
        front_apart i (length xs) (omega (arith, fl, less)) (omega (arith, fl)) (same ∙ sym at_x)

  -- the neighbour to the left is the last of front, where there is one
  pub front_last : (i : ℕ) → suc i ≡ length front → get_or front i 0 ≡ (V p).left
  front_last i last = go front refl where
    go : (f : List ℕ) → front ≡ f → get_or front i 0 ≡ (V p).left
    go [] none = absurd (omega (arith, last, ap (λ (f : List ℕ). length f) none))
    go (x ∷ xs) some =
        let at : i ≡ length xs = omega (arith, last, ap (λ (f : List ℕ). length f) some) in
        ap (λ (f : List ℕ). get_or f i 0) some ∙ ap (λ (k : ℕ). get_or (x ∷ xs) k 0) at ∙ sym (last_at undefined_address x xs) ∙ sym (left_here ∙ ap (last_of undefined_address) some)

-- ---- rows, by the nodes beside the one that is split or goes

-- the first node of what stands behind names b to its left; the others stay
abbrev pub BackNames : Reading → Reading → ℕ → List ℕ → Type 0
BackNames V W b [] = Unit {0}
BackNames V W b (c ∷ cs) = (W c ≡ record (V c) { left = b }) × Agree V W cs

-- the last node of what stands before names b to its right; the others stay
abbrev pub FrontNames : Reading → Reading → ℕ → List ℕ → Type 0
FrontNames V W b [] = Unit {0}
FrontNames V W b (x ∷ []) = W x ≡ record (V x) { right = b }
FrontNames V W b (x ∷ y ∷ ys) = (W x ≡ V x) × FrontNames V W b (y ∷ ys)

pub front_names : (V W : Reading) (b : ℕ) (xs : List ℕ) → ((i : ℕ) → suc i < length xs → W (get_or xs i 0) ≡ V (get_or xs i 0))
    → ((i : ℕ) → suc i ≡ length xs → W (get_or xs i 0) ≡ record (V (get_or xs i 0)) { right = b }) → FrontNames V W b xs
front_names V W b [] same last = tt
front_names V W b (x ∷ []) same last = last 0 refl
front_names V W b (x ∷ y ∷ ys) same last =
    (same 0 (omega arith), front_names V W b (y ∷ ys) (λ i low. same (suc i) (omega (arith, low))) (λ i e. last (suc i) (omega (arith, e))))

pub back_names : (V W : Reading) (b : ℕ) (xs : List ℕ) → (0 < length xs → W (get_or xs 0 0) ≡ record (V (get_or xs 0 0)) { left = b })
    → ((i : ℕ) → suc i < length xs → W (get_or xs (suc i) 0) ≡ V (get_or xs (suc i) 0)) → BackNames V W b xs
back_names V W b [] first same = tt
back_names V W b (c ∷ cs) first same = (first (omega arith), agree_at V W cs (λ i low. same i (omega (arith, low))))

module _ (V W : Reading) (b : ℕ) where
  next_row-back : (back : List ℕ) → BackNames V W b back → next_row W back ≡ next_row V back
  next_row-back [] names = refl
  next_row-back (c ∷ cs) names = rw (names.0, next_row-same V W cs names.1) refl

  IsRow-back : (l a : ℕ) (back : List ℕ) → BackNames V W b back → IsRow V l a back → IsRow W l b back
  IsRow-back l a [] names is = tt
  IsRow-back l a (c ∷ cs) names is = rw names.0 (is.0, refl, is.2, IsRow-same V W l c cs names.1 is.3)

  next_row-front : (front : List ℕ) → FrontNames V W b front → next_row W front ≡ next_row V front
  next_row-front [] names = refl
  next_row-front (x ∷ []) names = rw names refl
  next_row-front (x ∷ y ∷ ys) names = rw (names.0, next_row-front (y ∷ ys) names.1) refl

first-front : (front back : List ℕ) (a b : ℕ) → first_or_undefined (front ++ a ∷ b ∷ back) ≡ first_or_undefined (front ++ a ∷ back)
first-front [] back a b = refl
first-front (x ∷ xs) back a b = refl

-- a keeps xs, and b behind it has ys
module _ (V W : Reading) (a b : ℕ) (xs ys : List ℕ) (keys keys_b : List (List ℕ)) (back : List ℕ)
    (at_a : W a ≡ record (V a) { right = b; keys = keys; children = xs })
    (at_b : W b ≡ record { level = (V a).level; left = a; right = first_or_undefined back; keys = keys_b; children = ys })
    (names : BackNames V W b back) where
  pub IsRow-split : (l left : ℕ) (front : List ℕ) → Agree V W front → IsRow V l left (front ++ a ∷ back) → IsRow W l left (front ++ a ∷ b ∷ back)
  IsRow-split l left [] same is = (
    ap (λ (n : Node). n.level) at_a ∙ is.0,
    ap (λ (n : Node). n.left) at_a ∙ is.1,
    ap (λ (n : Node). n.right) at_a,
    (ap (λ (n : Node). n.level) at_b ∙ is.0, ap (λ (n : Node). n.left) at_b, ap (λ (n : Node). n.right) at_b, IsRow-back V W b l a back names is.3),
  )
  IsRow-split l left (x ∷ front) same is =
      rw same.0 (is.0, is.1, is.2 ∙ sym (first-front front back a b), IsRow-split l x front same.1 is.3)

  -- the row below
  pub next_row-split : (front : List ℕ) → Agree V W front → next_row W (front ++ a ∷ b ∷ back) ≡ next_row V front ++ ((xs ++ ys) ++ next_row V back)
  next_row-split front same =
      flat_map-append (λ n. (W n).children) front (a ∷ b ∷ back)
      ∙ ap (λ h. h ++ next_row W (a ∷ b ∷ back)) (next_row-same V W front same)
      ∙ ap (λ t. next_row V front ++ t) (
      ap (λ h. h ++ ((W b).children ++ next_row W back)) (ap (λ (n : Node). n.children) at_a)
      ∙ ap (λ h. xs ++ (h ++ next_row W back)) (ap (λ (n : Node). n.children) at_b)
      ∙ ap (λ h. xs ++ (ys ++ h)) (next_row-back V W b back names)
      ∙ sym (append_assoc xs ys (next_row V back)))

-- a has other children
module _ (V W : Reading) (a : ℕ) (xs : List ℕ) (keys : List (List ℕ)) (back : List ℕ) (at_a : W a ≡ record (V a) { keys = keys; children = xs })
    (behind : Agree V W back) where
  pub IsRow-refilled : (l left : ℕ) (front : List ℕ) → Agree V W front → IsRow V l left (front ++ a ∷ back) → IsRow W l left (front ++ a ∷ back)
  IsRow-refilled l left [] same is = rw at_a (is.0, is.1, is.2, IsRow-same V W l a back behind is.3)
  IsRow-refilled l left (x ∷ front) same is = rw same.0 (is.0, is.1, is.2, IsRow-refilled l x front same.1 is.3)

  pub next_row-refilled : (front : List ℕ) → Agree V W front → next_row W (front ++ a ∷ back) ≡ next_row V front ++ (xs ++ next_row V back)
  next_row-refilled front same =
      flat_map-append (λ n. (W n).children) front (a ∷ back)
      ∙ ap (λ h. h ++ ((W a).children ++ next_row W back)) (next_row-same V W front same)
      ∙ ap (λ h. next_row V front ++ (h ++ next_row W back)) (ap (λ (n : Node). n.children) at_a)
      ∙ ap (λ h. next_row V front ++ (xs ++ h)) (next_row-same V W back behind)

-- a goes: its neighbours name each other
module _ (V W : Reading) (a : ℕ) (back : List ℕ) where
  pub IsRow-without : (l left : ℕ) (front : List ℕ) → FrontNames V W (first_or_undefined back) front → BackNames V W (last_of left front) back
      → IsRow V l left (front ++ a ∷ back) → IsRow W l left (front ++ back)
  IsRow-without l left [] f b is = IsRow-back V W left l a back b is.3
  IsRow-without l left (x ∷ []) f b is = rw f (is.0, is.1, refl, IsRow-back V W x l a back b is.3.3)
  IsRow-without l left (x ∷ y ∷ ys) f b is = rw f.0 (is.0, is.1, is.2, IsRow-without l x (y ∷ ys) f.1 b is.3)

  pub next_row-without : (left : ℕ) (front : List ℕ) → FrontNames V W (first_or_undefined back) front → BackNames V W (last_of left front) back
      → next_row W (front ++ back) ≡ next_row V front ++ next_row V back
  next_row-without left front f b =
      flat_map-append (λ n. (W n).children) front back
      ∙ ap (λ h. h ++ next_row W back) (next_row-front V W (first_or_undefined back) front f)
      ∙ ap (λ h. next_row V front ++ h) (next_row-back V W (last_of left front) back b)

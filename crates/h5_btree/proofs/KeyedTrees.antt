-- Trees of keys by their nodes: cut at a child, and read alike where nodes have the same keys and children.
use Rattle.std.proofs.Common.{◌≡◌, ◌≢◌, ℕ, zero, suc, ◌+◌, ◌<◌, ◌≤◌, List, [], ◌∷◌, ◌++◌, length, map, take, drop, get_or, refl, sym, ap, ap₂, ◌∙◌, subst, arith}
use Rattle.std.specs.Bool.{⊤}
use Rattle.std.specs.List.{AllByRecursion}
use Rattle.std.proofs.lemmas.List.{length-map, map-append}
use Rattle.h5_bytes.specs.Bytes.{undefined_address}
use Rattle.h5_bytes.proofs.BlockLaws.{all_left, all_right, all_so}
use Rattle.h5_model.specs.Format.Rows.{Reading, next_row, IsRow, AreRows, leaves}
use Rattle.h5_laws.specs.KeyTrees.{KeyTree}
use Rattle.h5_btree.specs.Climb.{IsNoNode, IsWay}
use Rattle.h5_btree.specs.Keyed.{AtChild, at_children, trees_below, keys_from}
use Rattle.h5_btree.specs.declared.way.Step.{Step}
use Rattle.h5_btree.proofs.LeafLaws.{next_row-append}
use Rattle.h5_btree.proofs.RowEdits.{level_here, front_level, back_level, front_other, back_other}

-- ---- lists

-- cut at a place
pub cut_at : {X : Type 0} (xs : List X) (i : ℕ) (d : X) → i < length xs → xs ≡ take i xs ++ get_or xs i d ∷ drop (suc i) xs
cut_at [] i d low = absurd (omega (arith, low))
cut_at (x ∷ xs) zero d low = refl
cut_at {X} (x ∷ xs) (suc i) d low = ap (λ (ys : List X). x ∷ ys) (cut_at xs i d (omega (arith, low)))

pub all_by_place : (P : ℕ → Type 0) (xs : List ℕ) → ((i : ℕ) → i < length xs → P (get_or xs i 0)) → AllByRecursion P xs
all_by_place P [] each = tt
all_by_place P (x ∷ xs) each = (each 0 (omega arith), all_by_place P xs (λ i low. each (suc i) (omega (arith, low))))

-- ---- what stands below the children of a node

module _ {B : Type 0} (V : Reading) (at : AtChild B) where
  -- below one child
  abbrev pub tree_below : (level : ℕ) → List ℕ → ℕ → KeyTree (List ℕ) B level
  tree_below zero key child = at key child
  tree_below (suc level) key child = keys_from V at level child

  pub below_one : (level : ℕ) (k : List ℕ) (keys : List (List ℕ)) (c : ℕ) (children : List ℕ)
      → trees_below V at level (k ∷ keys) (c ∷ children) ≡ tree_below level k c ∷ trees_below V at level keys children
  below_one zero k keys c children = refl
  below_one (suc level) k keys c children = refl

  -- below those of two parts
  pub below_append : (level : ℕ) (kb ka : List (List ℕ)) (xs ys : List ℕ) → length kb ≡ length xs
      → trees_below V at level (kb ++ ka) (xs ++ ys) ≡ trees_below V at level kb xs ++ trees_below V at level ka ys
  below_append zero [] ka [] ys long = refl
  below_append zero [] ka (x ∷ xs) ys long = absurd (omega (arith, long))
  below_append zero (k ∷ kb) ka [] ys long = absurd (omega (arith, long))
  below_append zero (k ∷ kb) ka (x ∷ xs) ys long = ap (λ (bs : List B). at k x ∷ bs) (below_append zero kb ka xs ys (omega (arith, long)))
  below_append (suc level) kb ka xs ys long = map-append (λ n. keys_from V at level n) xs ys

  pub below_long : (level : ℕ) (keys : List (List ℕ)) (children : List ℕ) → length children ≤ length keys
      → length (trees_below V at level keys children) ≡ length children
  below_long zero [] [] long = refl
  below_long zero [] (c ∷ children) long = absurd (omega (arith, long))
  below_long zero (k ∷ keys) [] long = refl
  below_long zero (k ∷ keys) (c ∷ children) long = let rest = below_long zero keys children (omega (arith, long)) in omega (arith, rest)
  below_long (suc level) keys children long = length-map children (λ n. keys_from V at level n)

  -- with one key too many
  pub below_less : (level : ℕ) (kb : List (List ℕ)) (k : List ℕ) (xs : List ℕ) → length kb ≡ length xs
      → trees_below V at level (kb ++ k ∷ []) xs ≡ trees_below V at level kb xs
  below_less zero [] k [] long = refl
  below_less zero [] k (x ∷ xs) long = absurd (omega (arith, long))
  below_less zero (j ∷ kb) k [] long = absurd (omega (arith, long))
  below_less zero (j ∷ kb) k (x ∷ xs) long = ap (λ (bs : List B). at j x ∷ bs) (below_less zero kb k xs (omega (arith, long)))
  below_less (suc level) kb k xs long = refl

  pub below_none : (level : ℕ) (keys : List (List ℕ)) → trees_below V at level keys [] ≡ []
  below_none zero [] = refl
  below_none zero (k ∷ keys) = refl
  below_none (suc level) keys = refl

-- ---- rows

pub row_levels : (V : Reading) (l left : ℕ) (row : List ℕ) → IsRow V l left row → AllByRecursion (λ n. (V n).level ≡ l) row
row_levels V l left [] is = tt
row_levels V l left (n ∷ row) is = (is.0, row_levels V l n row is.3)

-- ---- the same trees

module _ {B : Type 0} (V W : Reading) (was is : AtChild B) where
  -- a node has the same keys and children
  abbrev pub IsAlike : ℕ → Type 0
  IsAlike n = ((W n).keys ≡ (V n).keys) × ((W n).children ≡ (V n).children)

  -- the same stands at this address
  abbrev pub StandsAlike : ℕ → Type 0
  StandsAlike c = (key : List ℕ) → is key c ≡ was key c

  -- the row below one of this level, and each row below it, are so
  abbrev pub AreAlike : ℕ → List ℕ → Type 0
  AreAlike zero low = AllByRecursion StandsAlike low
  AreAlike (suc level) low = AllByRecursion IsAlike low × AreAlike level (next_row V low)

  pub alike_left : (level : ℕ) (xs ys : List ℕ) → AreAlike level (xs ++ ys) → AreAlike level xs
  alike_left zero xs ys all = all_left StandsAlike xs ys all
  alike_left (suc level) xs ys all =
      (all_left IsAlike xs ys all.0, alike_left level (next_row V xs) (next_row V ys) (subst (AreAlike level) (next_row-append V xs ys) all.1))

  pub alike_right : (level : ℕ) (xs ys : List ℕ) → AreAlike level (xs ++ ys) → AreAlike level ys
  alike_right zero xs ys all = all_right StandsAlike xs ys all
  alike_right (suc level) xs ys all =
      (all_right IsAlike xs ys all.0, alike_right level (next_row V xs) (next_row V ys) (subst (AreAlike level) (next_row-append V xs ys) all.1))

  at-same : (keys : List (List ℕ)) (children : List ℕ) → AllByRecursion StandsAlike children → at_children is keys children ≡ at_children was keys children
  at-same [] children all = refl
  at-same (k ∷ keys) [] all = refl
  at-same (k ∷ keys) (c ∷ children) all = ap₂ (λ (b : B) (bs : List B). b ∷ bs) (all.0 k) (at-same keys children all.1)

  node-same : (level : ℕ) (n : ℕ) → IsAlike n → trees_below W is level (V n).keys (V n).children ≡ trees_below V was level (V n).keys (V n).children
      → keys_from W is level n ≡ keys_from V was level n
  node-same level n same below =
      ap₂ (λ (ks : List (List ℕ)) (cs : List ℕ). (ks, trees_below W is level ks cs)) same.0 same.1
      ∙ ap (λ (ts : List (KeyTree (List ℕ) B level)). ((V n).keys, ts)) below

  nodes-same : (level : ℕ) (below : (keys : List (List ℕ)) (children : List ℕ) → AreAlike level children → trees_below W is level keys children ≡ trees_below V was level keys children)
      → (row : List ℕ) → AllByRecursion IsAlike row → AreAlike level (next_row V row) → map (λ n. keys_from W is level n) row ≡ map (λ n. keys_from V was level n) row
  nodes-same level below [] same all = refl
  nodes-same level below (n ∷ row) same all =
      ap₂ (λ (t : KeyTree (List ℕ) B (suc level)) (ts : List (KeyTree (List ℕ) B (suc level))). t ∷ ts)
      (node-same level n same.0 (below (V n).keys (V n).children (alike_left level (V n).children (next_row V row) all)))
      (nodes-same level below row same.1 (alike_right level (V n).children (next_row V row) all))

  pub below-same : (level : ℕ) (keys : List (List ℕ)) (children : List ℕ) → AreAlike level children → trees_below W is level keys children ≡ trees_below V was level keys children
  below-same zero keys children all = at-same keys children all
  below-same (suc level) keys children all = nodes-same level (below-same level) children all.0 all.1

  pub keys-same : (level n : ℕ) → IsAlike n → AreAlike level (V n).children → keys_from W is level n ≡ keys_from V was level n
  keys-same level n same all = node-same level n same (below-same level (V n).keys (V n).children all)

  -- rows whose nodes are all so, over what is so
  pub alike_rows : (m : ℕ) (row list : List ℕ) → AreRows V m row → leaves V m row ≡ list → ((n : ℕ) → (V n).level ≤ m → IsAlike n) → AllByRecursion StandsAlike list
      → AreAlike (suc m) row
  alike_rows zero row list rows same each stand = (
    all_so (λ n. (V n).level ≡ 0) IsAlike row (λ n l. each n (omega (arith, l))) (row_levels V 0 undefined_address row rows),
    subst (AllByRecursion StandsAlike) (sym same) stand,
  )
  alike_rows (suc m) row list rows same each stand = (
    all_so (λ n. (V n).level ≡ suc m) IsAlike row (λ n l. each n (omega (arith, l))) (row_levels V (suc m) undefined_address row rows.0),
    alike_rows m (next_row V row) list rows.1 same (λ n l. each n (omega (arith, l))) stand,
  )

  -- what is below such a row, by the nodes of lower levels alone
  pub alike_under : (m : ℕ) (row : List ℕ) → AreRows V m row → ((n : ℕ) → (V n).level < m → IsAlike n) → AllByRecursion StandsAlike (leaves V m row) → AreAlike m (next_row V row)
  alike_under zero row rows each stand = stand
  alike_under (suc m) row rows each stand = alike_rows m (next_row V row) (leaves V m (next_row V row)) rows.1 refl (λ n l. each n (omega (arith, l))) stand

-- the rows below are the same where the children are
pub next_row-alike : (V W : Reading) (row : List ℕ) → AllByRecursion (λ n. (W n).children ≡ (V n).children) row → next_row W row ≡ next_row V row
next_row-alike V W [] all = refl
next_row-alike V W (n ∷ row) all = ap₂ (λ (xs ys : List ℕ). xs ++ ys) all.0 (next_row-alike V W row all.1)

-- ---- the other nodes of a row

module _ (V : Reading) (l p : ℕ) (front back : List ℕ) (top : l < 16) (out : IsNoNode V undefined_address) (row : IsRow V l undefined_address (front ++ p ∷ back)) where
  abbrev pub IsOther : ℕ → Type 0
  IsOther n = ((V n).level ≡ l) × (n ≢ p)

  pub front_apart : AllByRecursion IsOther front
  front_apart = all_by_place IsOther front (λ i low. (front_level V l p front back top out row i low, front_other V l p front back top out row i low))

  pub back_apart : AllByRecursion IsOther back
  back_apart = all_by_place IsOther back (λ i low. (back_level V l p front back top out row i low, back_other V l p front back top out row i low))

-- ---- off a way

module _ {B : Type 0} (V W : Reading) (was is : AtChild B) where
  -- what stands below the children of the nodes on the way, other than those on the way, is the same
  abbrev pub IsOffWay : ℕ → List Step → Type 0
  IsOffWay m [] = ⊤
  IsOffWay m (s ∷ way) =
      AreAlike V W was is (suc m) (take s.place (V s.node).children) × AreAlike V W was is (suc m) (drop (suc s.place) (V s.node).children)
      × IsOffWay (suc m) way

  -- nodes of a higher level that are not on the way have the same keys and children
  abbrev pub AreOthersAlike : ℕ → List Step → Type 0
  AreOthersAlike m way = (n : ℕ) → m < (V n).level → (V n).level < 16 → AllByRecursion (λ (s : Step). n ≢ s.node) way → IsAlike V W was is n

module _ (V : Reading) (out : IsNoNode V undefined_address) where
  -- the nodes of a way are of higher levels
  pub way_higher : (m root : ℕ) (way : List Step) (a : ℕ) (front back : List ℕ) → length way + m < 16 → IsWay V m root way a front back
      → AllByRecursion (λ (s : Step). m < (V s.node).level) way
  way_higher m root [] a front back high w = tt
  way_higher m root (s ∷ way) a front back high w =
      let here = level_here V (suc m) s.node w.0 w.1 (omega (arith, high)) out w.2.row in (
        omega (arith, here),
        all_more m way (way_higher (suc m) root way s.node w.0 w.1 (omega (arith, high)) w.3),
      )
    where
      all_more : (m : ℕ) (way : List Step) → AllByRecursion (λ (s : Step). suc m < (V s.node).level) way → AllByRecursion (λ (s : Step). m < (V s.node).level) way
      all_more m [] all = tt
      all_more m (s ∷ way) all = (omega (arith, all.0), all_more m way all.1)

  pub way_levels : (m root : ℕ) (way : List Step) (a : ℕ) (front back : List ℕ) → length way + m < 16 → IsWay V m root way a front back
      → AllByRecursion (λ (s : Step). (V s.node).level < 16) way
  way_levels m root [] a front back high w = tt
  way_levels m root (s ∷ way) a front back high w =
      let here = level_here V (suc m) s.node w.0 w.1 (omega (arith, high)) out w.2.row in
      (omega (arith, here, high), way_levels (suc m) root way s.node w.0 w.1 (omega (arith, high)) w.3)

  -- so no node of a lower level is one of them
  pub lower_apart : (m n : ℕ) (way : List Step) → (V n).level ≤ m → AllByRecursion (λ (s : Step). m < (V s.node).level) way → AllByRecursion (λ (s : Step). n ≢ s.node) way
  lower_apart m n [] low all = tt
  lower_apart m n (s ∷ way) low all =
      (λ e. let same = ap (λ (k : ℕ). (V k).level) e in absurd (omega (arith, same, low, all.0)), lower_apart m n way low all.1)

module _ {B : Type 0} (V W : Reading) (was is : AtChild B) (out : IsNoNode V undefined_address) where
  pub off_way : (m root : ℕ) (way : List Step) (a : ℕ) (front back : List ℕ) → length way + m < 16 → IsWay V m root way a front back → AreOthersAlike V W was is m way
      → AreAlike V W was is (suc m) front → AreAlike V W was is (suc m) back → IsOffWay V W was is m way
  off_way m root [] a front back high w others before behind = tt
  off_way m root (s ∷ way) a front back high w others before behind =
      let f = w.0 in
      let bk = w.1 in
      let b = w.2 in
      let top : suc m < 16 = omega (arith, high) in
      let cs = (V s.node).children in
      let left = subst (AreAlike V W was is (suc m)) b.fronts before in
      let right = subst (AreAlike V W was is (suc m)) b.backs behind in
      let here = level_here V (suc m) s.node f bk top out b.row in
      let above = way_higher V out (suc m) root way s.node f bk (omega (arith, high)) w.3 in
      let one : (n : ℕ) → IsOther V (suc m) s.node f bk top out b.row n → IsAlike V W was is n
      = λ n o. others n (omega (arith, o.0)) (omega (arith, o.0, top)) (o.1, lower_apart V out (suc m) n way (omega (arith, o.0)) above) in (
        alike_right V W was is (suc m) (next_row V f) (take s.place cs) left,
        alike_left V W was is (suc m) (drop (suc s.place) cs) (next_row V bk) right,
        off_way (suc m) root way s.node f bk (omega (arith, high)) w.3
            (λ n level low apart. others n (omega (arith, level)) low ((λ e. let same = ap (λ (k : ℕ). (V k).level) e in absurd (omega (arith, same, here, level))), apart))
            (all_so (IsOther V (suc m) s.node f bk top out b.row) (IsAlike V W was is) f one (front_apart V (suc m) s.node f bk top out b.row), alike_left V W was is (suc m) (next_row V f) (take s.place cs) left)
            (all_so (IsOther V (suc m) s.node f bk top out b.row) (IsAlike V W was is) bk one (back_apart V (suc m) s.node f bk top out b.row), alike_right V W was is (suc m) (drop (suc s.place) cs) (next_row V bk) right),
      )

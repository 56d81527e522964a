-- The order that the definition asks of each node of a tree, and that of its tree of keys: one is the other.
use Rattle.std.proofs.Common.{◌≡◌, ℕ, zero, suc, ◌+◌, ◌<◌, ◌==◌, Bool, true, false, List, [], ◌∷◌, ◌++◌, length, map, refl, sym, ap, ap₂, ◌∙◌, subst, arith}
use Rattle.std.specs.Prelude.{if◌then◌else◌}
use Rattle.std.specs.List.{AllByRecursion, flat_map, list_any}
use Rattle.std.proofs.lemmas.List.{length-map}
use Rattle.h5_bytes.specs.Bytes.{undefined_address}
use Rattle.h5_bytes.proofs.BlockLaws.{all_append, all_left, all_right, all_so}
use Rattle.h5_model.specs.Format.Rows.{Node, Reading, blank, next_row, AreRows, nodes}
use Rattle.h5_model.specs.Format.Nodes.{Kind, HasTree, node_at, reading_of}
use Rattle.h5_laws.specs.Ladders.{Sides, Bottom, IsLadder, IsOrderedBy, all_of, items_under, lists_below}
use Rattle.h5_laws.specs.KeyTrees.{KeyTree, items_in, IsSorted}
use Rattle.h5_laws.proofs.LadderTrees.{all-map, ordered_ladder, ladder_ordered}
use Rattle.h5_btree.specs.Keyed.{AtChild, at_children, trees_below, keys_from, IsInOrder, items_of_tree}
use Rattle.h5_btree.proofs.TreeReadings.{owned_at, owned_of_level}
use Rattle.h5_btree.proofs.KeyedTrees.{below_long, row_levels}
use Rattle.h5_btree.proofs.KeyedOwn.{keys_count, keys_own}
use Rattle.h5_btree.proofs.OrderLaws.BetweenLaws.{each_down, each_up}

flat-through : {A C D : Type 0} (f : A → C) (g : C → List D) (h : A → List D) → ((a : A) → g (f a) ≡ h a) → (xs : List A) → flat_map g (map f xs) ≡ flat_map h xs
flat-through f g h same [] = refl
flat-through {D = D} f g h same (x ∷ xs) = ap₂ (λ (a b : List D). a ++ b) (same x) (flat-through f g h same xs)

map-through : {A C D : Type 0} (f : A → C) (g : C → D) (h : A → D) → ((a : A) → g (f a) ≡ h a) → (xs : List A) → map g (map f xs) ≡ map h xs
map-through f g h same [] = refl
map-through {D = D} f g h same (x ∷ xs) = ap₂ (λ (a : D) (b : List D). a ∷ b) (same x) (map-through f g h same xs)

-- the items at each child of a node of level 0 are these
abbrev pub IsBottomOf : {B X : Type 0} → (B → List X) → AtChild B → Bottom X → Reading → Type 0
IsBottomOf items at bottom V = (n : ℕ) → bottom (V n) ≡ map items (at_children at (V n).keys (V n).children)

module _ {B X : Type 0} (items : B → List X) (at : AtChild B) (bottom : Bottom X) where
  module _ (V : Reading) (bottom_is : IsBottomOf items at bottom V) where
    pub items-under : (level n : ℕ) → items_in (List ℕ) items (suc level) (keys_from V at level n) ≡ items_under V bottom level n
    items-under zero n = sym (all-map items (at_children at (V n).keys (V n).children)) ∙ ap (λ (lists : List (List X)). all_of lists) (sym (bottom_is n))
    items-under (suc level) n =
        flat-through (λ c. keys_from V at level c) (items_in (List ℕ) items (suc level)) (items_under V bottom level) (items-under level) (V n).children

    pub lists-below : (level n : ℕ) → map (items_in (List ℕ) items level) (trees_below V at level (V n).keys (V n).children) ≡ lists_below V bottom level (V n)
    lists-below zero n = sym (bottom_is n)
    lists-below (suc level) n =
        map-through (λ c. keys_from V at level c) (items_in (List ℕ) items (suc level)) (items_under V bottom level) (items-under level) (V n).children

    module _ (sides : Sides (List ℕ) X) (Base : B → Type 0) where
      abbrev S : (height : ℕ) → KeyTree (List ℕ) B height → Type 0
      S = IsSorted sides items Base

      -- the node is in order, and, where it is of level 0, what stands at its children is as it has to be
      abbrev pub IsNodeInOrder : ℕ → Type 0
      IsNodeInOrder n = IsOrderedBy sides V bottom (V n) × ((V n).level ≡ 0 → AllByRecursion Base (at_children at (V n).keys (V n).children))

      module _ (level n : ℕ) (level_is : (V n).level ≡ level) (long : length (V n).keys ≡ length (V n).children + 1) where
        count : length (lists_below V bottom (V n).level (V n)) ≡ length (V n).children
        count = subst (λ (l : ℕ). length (lists_below V bottom l (V n)) ≡ length (V n).children) (sym level_is)
            (ap (λ (ls : List (List X)). length ls) (sym (lists-below level n))
            ∙ length-map (trees_below V at level (V n).keys (V n).children) (items_in (List ℕ) items level)
            ∙ below_long V at level (V n).keys (V n).children (omega (arith, long)))

        same_lists : lists_below V bottom (V n).level (V n) ≡ map (items_in (List ℕ) items level) (trees_below V at level (V n).keys (V n).children)
        same_lists = ap (λ (l : ℕ). lists_below V bottom l (V n)) level_is ∙ sym (lists-below level n)

        to_ladder : IsOrderedBy sides V bottom (V n) → IsLadder sides (V n).keys (map (items_in (List ℕ) items level) (trees_below V at level (V n).keys (V n).children))
        to_ladder ordered = subst (IsLadder sides (V n).keys) same_lists (ordered_ladder V bottom sides (V n) count long ordered)

        from_ladder : IsLadder sides (V n).keys (map (items_in (List ℕ) items level) (trees_below V at level (V n).keys (V n).children)) → IsOrderedBy sides V bottom (V n)
        from_ladder ladder = ladder_ordered V bottom sides (V n) count (subst (IsLadder sides (V n).keys) (sym same_lists) ladder)

      -- ---- row by row

      over_map : (level : ℕ) (ns : List ℕ) → AllByRecursion (λ n. S (suc level) (keys_from V at level n)) ns → AllByRecursion (S (suc level)) (map (λ n. keys_from V at level n) ns)
      over_map level [] all = tt
      over_map level (n ∷ ns) all = (all.0, over_map level ns all.1)

      from_map : (level : ℕ) (ns : List ℕ) → AllByRecursion (S (suc level)) (map (λ n. keys_from V at level n) ns) → AllByRecursion (λ n. S (suc level) (keys_from V at level n)) ns
      from_map level [] all = tt
      from_map level (n ∷ ns) all = (all.0, from_map level ns all.1)

      module _ (long : (n : ℕ) → (V n).level < 16 → length (V n).keys ≡ length (V n).children + 1) where
        sorted_rows : (level : ℕ) (row : List ℕ) → level < 16 → AreRows V level row → AllByRecursion IsNodeInOrder (nodes V level row)
            → AllByRecursion (λ n. S (suc level) (keys_from V at level n)) row
        sorted_rows zero row top rows all = go row (row_levels V 0 undefined_address row rows) all where
          go : (ns : List ℕ) → AllByRecursion (λ n. (V n).level ≡ 0) ns → AllByRecursion IsNodeInOrder ns → AllByRecursion (λ n. S 1 (keys_from V at 0 n)) ns
          go [] levels all = tt
          go (n ∷ ns) levels all = ((to_ladder 0 n levels.0 (long n (omega (arith, levels.0))) all.0.0, all.0.1 levels.0), go ns levels.1 all.1)
        sorted_rows (suc level) row top rows all =
            let below = sorted_rows level (next_row V row) (omega (arith, top)) rows.1 (all_right IsNodeInOrder row (nodes V level (next_row V row)) all) in
            go row (row_levels V (suc level) undefined_address row rows.0) (all_left IsNodeInOrder row (nodes V level (next_row V row)) all)
            (each_down (λ n. S (suc level) (keys_from V at level n)) (λ n. (V n).children) row below)
          where
            go : (ns : List ℕ) → AllByRecursion (λ n. (V n).level ≡ suc level) ns → AllByRecursion IsNodeInOrder ns
                → AllByRecursion (λ n. AllByRecursion (λ c. S (suc level) (keys_from V at level c)) (V n).children) ns
                → AllByRecursion (λ n. S (suc (suc level)) (keys_from V at (suc level) n)) ns
            go [] levels all below = tt
            go (n ∷ ns) levels all below = (
              (to_ladder (suc level) n levels.0 (long n (omega (arith, levels.0, top))) all.0.0, over_map level (V n).children below.0),
              go ns levels.1 all.1 below.1,
            )

        rows_sorted : (level : ℕ) (row : List ℕ) → level < 16 → AreRows V level row → AllByRecursion (λ n. S (suc level) (keys_from V at level n)) row
            → AllByRecursion IsNodeInOrder (nodes V level row)
        rows_sorted zero row top rows all = go row (row_levels V 0 undefined_address row rows) all where
          go : (ns : List ℕ) → AllByRecursion (λ n. (V n).level ≡ 0) ns → AllByRecursion (λ n. S 1 (keys_from V at 0 n)) ns → AllByRecursion IsNodeInOrder ns
          go [] levels all = tt
          go (n ∷ ns) levels all = ((from_ladder 0 n levels.0 (long n (omega (arith, levels.0))) all.0.0, λ is. all.0.1), go ns levels.1 all.1)
        rows_sorted (suc level) row top rows all =
            all_append IsNodeInOrder row (nodes V level (next_row V row)) (go row (row_levels V (suc level) undefined_address row rows.0) all)
            (rows_sorted level (next_row V row) (omega (arith, top)) rows.1
            (each_up (λ n. S (suc level) (keys_from V at level n)) (λ n. (V n).children) row
            (all_so (λ n. S (suc (suc level)) (keys_from V at (suc level) n)) (λ n. AllByRecursion (λ c. S (suc level) (keys_from V at level c)) (V n).children) row
            (λ n sorted. from_map level (V n).children sorted.1) all)))
          where
            go : (ns : List ℕ) → AllByRecursion (λ n. (V n).level ≡ suc level) ns → AllByRecursion (λ n. S (suc (suc level)) (keys_from V at (suc level) n)) ns
                → AllByRecursion IsNodeInOrder ns
            go [] levels all = tt
            go (n ∷ ns) levels all = (
              (
                from_ladder (suc level) n levels.0 (long n (omega (arith, levels.0, top))) all.0.0,
                λ is. let l = levels.0 in absurd (omega (arith, l, is)),
              ),
              go ns levels.1 all.1,
            )

-- what is so of each node of the image, and where there is none, is so of what a tree reads
pub own_or_blank : (image : List ℕ) (kind : Kind) (owned : List ℕ) (P : Node → Type 0) → ((n : ℕ) → P (node_at image kind n)) → P blank → (n : ℕ) → P (reading_of image kind owned n)
own_or_blank image kind owned P there none n = go (list_any (λ m. m == n) owned) where
  go : (b : Bool) → P (if b then node_at image kind n else blank)
  go true = there n
  go false = none

-- ---- a tree in an image

module _ {B X : Type 0} (sides : Sides (List ℕ) X) (items : B → List X) (Base : B → Type 0) (at : AtChild B) (image : List ℕ) (kind : Kind) (root level : ℕ) (owned list : List ℕ)
    (has : HasTree image kind root level owned list) (bottom : Bottom X) (bottom_is : IsBottomOf items at bottom (reading_of image kind owned)) where
  abbrev Y : Reading
  Y = reading_of image kind owned

  long_own : (n : ℕ) → (Y n).level < 16 → length (Y n).keys ≡ length (Y n).children + 1
  long_own n low =
      subst (λ (o : Node). length o.keys ≡ length o.children + 1) (sym (owned_at (node_at image kind) owned n (owned_of_level (node_at image kind) owned n low))) (keys_count image kind n)

  -- A TREE IS IN ORDER where each of its nodes is, by its own reading; and the other way
  pub tree_in_order : AllByRecursion (IsNodeInOrder items at bottom Y bottom_is sides Base) owned → IsInOrder sides items Base image kind at level root
  tree_in_order all =
      let low = has.low in
      let rows = sorted_rows items at bottom Y bottom_is sides Base long_own level (root ∷ []) (omega (arith, low)) has.rows (subst (AllByRecursion (IsNodeInOrder items at bottom Y bottom_is sides Base)) has.owns all) in
      subst (IsSorted sides items Base (suc level)) (sym (keys_own image kind root level owned list has at)) rows.0

  pub nodes_in_order : IsInOrder sides items Base image kind at level root → AllByRecursion (IsNodeInOrder items at bottom Y bottom_is sides Base) owned
  nodes_in_order sorted =
      let low = has.low in
      let own = subst (IsSorted sides items Base (suc level)) (keys_own image kind root level owned list has at) sorted in
      subst (AllByRecursion (IsNodeInOrder items at bottom Y bottom_is sides Base)) (sym has.owns)
      (rows_sorted items at bottom Y bottom_is sides Base long_own level (root ∷ []) (omega (arith, low)) has.rows (own, tt))

  -- and its items are what stands below its root
  pub items-tree : items_of_tree items image kind at level root ≡ items_under Y (bottom) level root
  items-tree = ap (items_in (List ℕ) items (suc level)) (keys_own image kind root level owned list has at) ∙ items-under items at bottom Y bottom_is level root

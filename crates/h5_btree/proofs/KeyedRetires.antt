-- The keys of each node of a tree are retired: so the keys of the whole tree are, stay in order, and name none of what was hit.
use Rattle.std.proofs.Common.{◌≡◌, ℕ, zero, suc, ◌+◌, ◌<◌, ◌≤◌, List, [], ◌∷◌, length, map, sym, ap, ◌∙◌, subst, arith}
use Rattle.std.specs.List.{AllByRecursion}
use Rattle.h5_bytes.specs.Bytes.{undefined_address}
use Rattle.h5_bytes.proofs.BlockLaws.{all_left, all_right}
use Rattle.h5_model.specs.Format.Rows.{Node, Reading, next_row, AreRows, nodes}
use Rattle.h5_model.specs.Format.Nodes.{Kind, HasTree, node_at, reading_of}
use Rattle.h5_laws.specs.Ladders.{Sides, IsOrderly, Bottom, lists_below}
use Rattle.h5_laws.specs.KeyTrees.{KeyTree, items_in}
use Rattle.h5_laws.specs.KeyEdits.{AreAlike, Retires, RetiresKeys}
use Rattle.h5_laws.proofs.KeyRemoves.{AreRising, AllKeys, retires_sorted, retires_safe}
use Rattle.h5_btree.specs.Keyed.{AtChild, at_children, trees_below, keys_from, IsInOrder, items_of_tree}
use Rattle.h5_btree.proofs.TreeReadings.{owned_at, owned_of_level}
use Rattle.h5_btree.proofs.KeyedTrees.{row_levels}
use Rattle.h5_btree.proofs.KeyedOwn.{keys_count, keys_own}
use Rattle.h5_btree.proofs.KeyedOrder.{IsBottomOf, lists-below}

module _ {B X : Type 0} (items : B → List X) (at : AtChild B) (blind : (k j : List ℕ) (c : ℕ) → at k c ≡ at j c) (hit : List ℕ → Type 0) (key_of : X → List ℕ) (lowest : List ℕ)
    (V W : Reading) (bottom : Bottom X) (bottom_is : IsBottomOf items at bottom V) where
  -- the keys of a node that are hit have given way, each to the key of the last item before it, or to the key before it; its children stay
  abbrev pub IsRetired : ℕ → Type 0
  IsRetired n = RetiresKeys hit key_of lowest (V n).keys (lists_below V bottom (V n).level (V n)) (W n).keys × ((W n).children ≡ (V n).children)

  abbrev R : (height : ℕ) → KeyTree (List ℕ) B height → KeyTree (List ℕ) B height → Type 0
  R = Retires hit key_of lowest items

  at_retired : (keys new : List (List ℕ)) (children : List ℕ) → length children ≤ length keys → length children ≤ length new
      → AreAlike (R 0) (at_children at keys children) (at_children at new children)
  at_retired [] [] [] a b = tt
  at_retired [] [] (c ∷ children) a b = absurd (omega (arith, a))
  at_retired [] (j ∷ new) [] a b = tt
  at_retired [] (j ∷ new) (c ∷ children) a b = absurd (omega (arith, a))
  at_retired (k ∷ keys) [] [] a b = tt
  at_retired (k ∷ keys) [] (c ∷ children) a b = absurd (omega (arith, b))
  at_retired (k ∷ keys) (j ∷ new) [] a b = tt
  at_retired (k ∷ keys) (j ∷ new) (c ∷ children) a b = (blind j k c, at_retired keys new children (omega (arith, a)) (omega (arith, b)))

  over_map : (level : ℕ) (ns : List ℕ) → AllByRecursion (λ n. R (suc level) (keys_from V at level n) (keys_from W at level n)) ns
      → AreAlike (R (suc level)) (map (λ n. keys_from V at level n) ns) (map (λ n. keys_from W at level n) ns)
  over_map level [] all = tt
  over_map level (n ∷ ns) all = (all.0, over_map level ns all.1)

  module _ (long : (n : ℕ) → (V n).level < 16 → length (V n).keys ≡ length (V n).children + 1) (count : (n : ℕ) → length (W n).keys ≡ length (W n).children + 1) where
    keys_retired : (level n : ℕ) → (V n).level ≡ level → IsRetired n
        → RetiresKeys hit key_of lowest (V n).keys (map (items_in (List ℕ) items level) (trees_below V at level (V n).keys (V n).children)) (W n).keys
    keys_retired level n is retired =
        let lists : lists_below V bottom (V n).level (V n) ≡ map (items_in (List ℕ) items level) (trees_below V at level (V n).keys (V n).children)
        = ap (λ (l : ℕ). lists_below V bottom l (V n)) is ∙ sym (lists-below items at bottom V bottom_is level n) in
        subst (λ (ls : List (List X)). RetiresKeys hit key_of lowest (V n).keys ls (W n).keys) lists retired.0

    retired_rows : (level : ℕ) (row : List ℕ) → level < 16 → AreRows V level row → AllByRecursion IsRetired (nodes V level row)
        → AllByRecursion (λ n. R (suc level) (keys_from V at level n) (keys_from W at level n)) row
    retired_rows zero row top rows all = go row (row_levels V 0 undefined_address row rows) all where
      go : (ns : List ℕ) → AllByRecursion (λ n. (V n).level ≡ 0) ns → AllByRecursion IsRetired ns → AllByRecursion (λ n. R 1 (keys_from V at 0 n) (keys_from W at 0 n)) ns
      go [] levels all = tt
      go (n ∷ ns) levels all =
          let a = long n (omega (arith, levels.0)) in
          let b = count n in
          let same = all.0.1 in
          let c : length (W n).children ≡ length (V n).children = ap (λ (cs : List ℕ). length cs) same in (
            (
              keys_retired 0 n levels.0 all.0,
              subst (λ (cs : List ℕ). AreAlike (R 0) (at_children at (V n).keys (V n).children) (at_children at (W n).keys cs)) (sym same)
                  (at_retired (V n).keys (W n).keys (V n).children (omega (arith, a)) (omega (arith, b, c))),
            ),
            go ns levels.1 all.1,
          )
    retired_rows (suc level) row top rows all =
        let below = retired_rows level (next_row V row) (omega (arith, top)) rows.1 (all_right IsRetired row (nodes V level (next_row V row)) all) in
        go row (row_levels V (suc level) undefined_address row rows.0) (all_left IsRetired row (nodes V level (next_row V row)) all) below
      where
        go : (ns : List ℕ) → AllByRecursion (λ n. (V n).level ≡ suc level) ns → AllByRecursion IsRetired ns
            → AllByRecursion (λ n. R (suc level) (keys_from V at level n) (keys_from W at level n)) (next_row V ns)
            → AllByRecursion (λ n. R (suc (suc level)) (keys_from V at (suc level) n) (keys_from W at (suc level) n)) ns
        go [] levels all below = tt
        go (n ∷ ns) levels all below =
            let P : ℕ → Type 0 = λ c. R (suc level) (keys_from V at level c) (keys_from W at level c) in (
              (
                keys_retired (suc level) n levels.0 all.0,
                subst (λ (cs : List ℕ). AreAlike (R (suc level)) (map (λ c. keys_from V at level c) (V n).children) (map (λ c. keys_from W at level c) cs)) (sym all.0.1)
                    (over_map level (V n).children (all_left P (V n).children (next_row V ns) below)),
              ),
              go ns levels.1 all.1 (all_right P (V n).children (next_row V ns) below),
            )

-- ---- a tree in an image

module _ {B X : Type 0} (sides : Sides (List ℕ) X) (orderly : IsOrderly sides) (items : B → List X) (Base : B → Type 0) (at : AtChild B)
    (blind : (k j : List ℕ) (c : ℕ) → at k c ≡ at j c) (hit : List ℕ → Type 0) (key_of : X → List ℕ) (lowest : List ℕ) (old new : List ℕ) (kind : Kind) (root level : ℕ)
    (owned list : List ℕ) (has : HasTree old kind root level owned list) (bottom : Bottom X) (bottom_is : IsBottomOf items at bottom (reading_of old kind owned)) where
  abbrev Y : Reading
  Y = reading_of old kind owned

  module _ (retired : AllByRecursion (IsRetired items at blind hit key_of lowest Y (node_at new kind) bottom bottom_is) owned) where
    -- the tree's keys are retired where those of each node are
    pub tree_retires : Retires hit key_of lowest items (suc level) (keys_from (node_at old kind) at level root) (keys_from (node_at new kind) at level root)
    tree_retires =
        let low = has.low in
        let all = retired_rows items at blind hit key_of lowest Y (node_at new kind) bottom bottom_is
        (λ n l. subst (λ (o : Node). length o.keys ≡ length o.children + 1) (sym (owned_at (node_at old kind) owned n (owned_of_level (node_at old kind) owned n l))) (keys_count old kind n))
        (keys_count new kind) level (root ∷ []) (omega (arith, low)) has.rows
        (subst (AllByRecursion (IsRetired items at blind hit key_of lowest Y (node_at new kind) bottom bottom_is)) has.owns retired) in
        subst (λ (t : KeyTree (List ℕ) B (suc level)). Retires hit key_of lowest items (suc level) t (keys_from (node_at new kind) at level root))
        (sym (keys_own old kind root level owned list has at)) all.0

    module _ (Below : X → X → Type 0) (through : (l h : List ℕ) (y : X) → sides.Right l y → sides.Left y h → sides.Rise l h)
        (own : (y : X) → sides.Left y (key_of y)) (under : (y z : X) → Below y z → sides.Left y (key_of z)) (up_to : (y : X) (k : List ℕ) → sides.Left y k → sides.Rise (key_of y) k)
        (least : (k : List ℕ) → sides.Rise lowest k) where
      abbrev Rising : List X → Type 0
      Rising = AreRising sides orderly items Base Below through hit key_of lowest own under up_to least

      -- THE KEYS ARE IN ORDER STILL where those of each node are retired, and the items are the same.
      pub retired_sorted : Rising (items_of_tree items old kind at level root) → IsInOrder sides items Base old kind at level root
          → IsInOrder sides items Base new kind at level root × (items_of_tree items new kind at level root ≡ items_of_tree items old kind at level root)
      retired_sorted rises sorted =
          retires_sorted sides orderly items Base Below through hit key_of lowest own under up_to least (suc level) (keys_from (node_at old kind) at level root)
          (keys_from (node_at new kind) at level root) sorted rises tree_retires

      -- NO KEY IS HIT any more, where no item's own key is.
      pub retired_safe : (safe : hit lowest → ⊥) → AllByRecursion (λ y. hit (key_of y) → ⊥) (items_of_tree items old kind at level root)
          → AllKeys sides orderly items Base Below through hit key_of lowest own under up_to least safe (λ k. hit k → ⊥) (suc level) (keys_from (node_at new kind) at level root)
      retired_safe safe named =
          retires_safe sides orderly items Base Below through hit key_of lowest own under up_to least safe (suc level) (keys_from (node_at old kind) at level root)
          (keys_from (node_at new kind) at level root) named tree_retires

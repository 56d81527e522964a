-- All keys of a tree have given way, node by node from the root down: so they have in its tree of keys.
use Rattle.std.proofs.Common.{◌≡◌, ℕ, zero, suc, ◌≤◌, Bool, true, false, List, [], ◌∷◌, ◌++◌, length, map, refl, sym, ap, ◌∙◌, subst, arith}
use Rattle.std.specs.Prelude.{⊤}
use Rattle.std.specs.List.{AllByRecursion, flat_map}
use Rattle.h5_bytes.specs.Bytes.{undefined_address}
use Rattle.h5_bytes.proofs.BlockLaws.{all_append, all_left, all_right, all_so}
use Rattle.h5_model.specs.Format.Rows.{Node, Reading, next_row, AreRows, leaves, nodes}
use Rattle.h5_model.specs.Format.Nodes.{Kind, HasTree, node_at, reading_of}
use Rattle.h5_model.proofs.RowLaws.{all_listed}
use Rattle.h5_laws.specs.Ladders.{Sides, IsOrderly, Bottom, items_under, lists_below, all_of}
use Rattle.h5_laws.proofs.Entries.{flat-same}
use Rattle.h5_space.specs.Space.{Space}
use Rattle.h5_btree.specs.Insertion.{Owns}
use Rattle.h5_btree.specs.Keyed.{AtChild, at_children}
use Rattle.h5_btree.specs.Retired.{AreKeysRetired, AreRetiredBelow, IsNodeRetired, IsRetiring, IsTreeRetired, IsSubtree, keys_below, lowest_key}
use Rattle.h5_btree.proofs.KeyedOrder.{IsBottomOf, own_or_blank}
use Rattle.h5_btree.proofs.KeyedOwn.{keys_count}
use Rattle.h5_btree.proofs.KeyedRetires.{IsRetired, tree_retires}
use Rattle.h5_btree.proofs.KeyedTrees.{row_levels}
use Rattle.h5_btree.proofs.RetiredKeys.{retired_all}
use Rattle.h5_btree.proofs.RetiredNodes.{lists_named, keyed_tree, map_same}
use Rattle.h5_btree.proofs.RetiredSteps.{all_two, node_unhit, retiring_keyed}
use Rattle.h5_btree.proofs.TreeReadings.{owned_at}

-- ---- the nodes of a tree, from the root down

module _ (V : Reading) (owned list : List ℕ) (Y : Reading) (own : (n : ℕ) → Owns owned n → Y n ≡ V n) where
  over : (h : ℕ) (row : List ℕ) → AllByRecursion (λ n. (Y n).level ≡ h) row → AllByRecursion (Owns owned) row → AllByRecursion (IsSubtree V owned list h) (next_row Y row)
      → AllByRecursion (IsSubtree V owned list (suc h)) row
  over h [] levels owns below = tt
  over h (n ∷ row) levels owns below =
      let is = own n owns.0 in (
        (
          owns.0,
          sym (ap (λ (o : Node). o.level) is) ∙ levels.0,
          subst (λ (o : Node). AllByRecursion (IsSubtree V owned list h) o.children) is (all_left (IsSubtree V owned list h) (Y n).children (next_row Y row) below),
        ),
        over h row levels.1 owns.1 (all_right (IsSubtree V owned list h) (Y n).children (next_row Y row) below),
      )

  under_rows : (m : ℕ) (row : List ℕ) → AreRows Y m row → AllByRecursion (Owns owned) (nodes Y m row) → AllByRecursion (Owns list) (leaves Y m row)
      → AllByRecursion (IsSubtree V owned list (suc m)) row
  under_rows zero row rows owns stand = over 0 row (row_levels Y 0 undefined_address row rows) owns stand
  under_rows (suc m) row rows owns stand =
      over (suc m) row (row_levels Y (suc m) undefined_address row rows.0) (all_left (Owns owned) row (nodes Y m (next_row Y row)) owns)
      (under_rows m (next_row Y row) rows.1 (all_right (Owns owned) row (nodes Y m (next_row Y row)) owns) stand)

  -- each of them, at some height
  abbrev IsSomewhere : ℕ → Type 0
  IsSomewhere n = (h : ℕ) × IsSubtree V owned list (suc h) n

  under_nodes : (m : ℕ) (row : List ℕ) → AreRows Y m row → AllByRecursion (Owns owned) (nodes Y m row) → AllByRecursion (Owns list) (leaves Y m row)
      → AllByRecursion IsSomewhere (nodes Y m row)
  under_nodes zero row rows owns stand = all_so (IsSubtree V owned list 1) IsSomewhere row (λ n is. (0, is)) (under_rows zero row rows owns stand)
  under_nodes (suc m) row rows owns stand =
      all_append IsSomewhere row (nodes Y m (next_row Y row))
      (all_so (IsSubtree V owned list (suc (suc m))) IsSomewhere row (λ n is. (suc m, is)) (under_rows (suc m) row rows owns stand))
      (under_nodes m (next_row Y row) rows.1 (all_right (Owns owned) row (nodes Y m (next_row Y row)) owns) stand)

  -- what is so of each node from the root down is so of all nodes, row by row
  module _ (hit : List ℕ → Bool) (keys_at : List ℕ → ℕ → List (List ℕ)) (s t : Space) (kind : Kind) (read : (n : ℕ) → Owns owned n → Y n ≡ node_at s.bytes kind n) where
    down : (h : ℕ) (row : List ℕ) → AllByRecursion (Owns owned) row → AllByRecursion (AreRetiredBelow hit keys_at s t kind (suc h)) row
        → AllByRecursion (AreRetiredBelow hit keys_at s t kind h) (next_row Y row)
    down h [] owns all = tt
    down h (n ∷ row) owns all =
        all_append (AreRetiredBelow hit keys_at s t kind h) (Y n).children (next_row Y row)
        (subst (λ (o : Node). AllByRecursion (AreRetiredBelow hit keys_at s t kind h) o.children) (sym (read n owns.0)) all.0.1) (down h row owns.1 all.1)

    rows_retired : (m : ℕ) (row : List ℕ) → AllByRecursion (Owns owned) (nodes Y m row) → AllByRecursion (AreRetiredBelow hit keys_at s t kind (suc m)) row
        → AllByRecursion (IsNodeRetired hit keys_at s t kind) (nodes Y m row)
    rows_retired zero row owns all = all_so (AreRetiredBelow hit keys_at s t kind 1) (IsNodeRetired hit keys_at s t kind) row (λ n is. is.0) all
    rows_retired (suc m) row owns all =
        let mine = all_left (Owns owned) row (nodes Y m (next_row Y row)) owns in
        all_append (IsNodeRetired hit keys_at s t kind) row (nodes Y m (next_row Y row))
        (all_so (AreRetiredBelow hit keys_at s t kind (suc (suc m))) (IsNodeRetired hit keys_at s t kind) row (λ n is. is.0) all)
        (rows_retired m (next_row Y row) (all_right (Owns owned) row (nodes Y m (next_row Y row)) owns) (down (suc m) row mine all))

-- ---- a tree in an image

module _ (s : Space) (kind : Kind) (root level : ℕ) (owned list : List ℕ) (has : HasTree s.bytes kind root level owned list) where
  abbrev V : Reading
  V = node_at s.bytes kind

  abbrev Y : Reading
  Y = reading_of s.bytes kind owned

  read : (n : ℕ) → Owns owned n → Y n ≡ V n
  read = owned_at V owned

  owns : AllByRecursion (Owns owned) (nodes Y level (root ∷ []))
  owns = subst (AllByRecursion (Owns owned)) has.owns (all_listed owned)

  stand : AllByRecursion (Owns list) (leaves Y level (root ∷ []))
  stand = subst (AllByRecursion (Owns list)) has.all (all_listed list)

  pub root_under : IsSubtree V owned list (suc level) root
  root_under = (under_rows V owned list Y read level (root ∷ []) has.rows owns stand).0

  nodes_under : AllByRecursion (λ n. (h : ℕ) × IsSubtree V owned list (suc h) n) owned
  nodes_under = subst (AllByRecursion (λ n. (h : ℕ) × IsSubtree V owned list (suc h) n)) (sym has.owns)
      (under_nodes V owned list Y read level (root ∷ []) has.rows owns stand)

  -- the keys of the items, as the tree of keys has them
  module _ (keys : ℕ → List (List ℕ)) where
    abbrev at : AtChild (List (List ℕ))
    at = λ key c. keys c

    abbrev bottom : Bottom (List ℕ)
    bottom = λ (o : Node). map keys o.children

    listed : (ks : List (List ℕ)) (cs : List ℕ) → length cs ≤ length ks → map keys cs ≡ map (λ (b : List (List ℕ)). b) (at_children at ks cs)
    listed [] [] long = refl
    listed [] (c ∷ cs) long = absurd (omega (arith, long))
    listed (k ∷ ks) [] long = refl
    listed (k ∷ ks) (c ∷ cs) long = ap (λ (ls : List (List (List ℕ))). keys c ∷ ls) (listed ks cs (omega (arith, long)))

    bottom_is : IsBottomOf (λ (b : List (List ℕ)). b) at bottom Y
    bottom_is = own_or_blank s.bytes kind owned (λ (o : Node). bottom o ≡ map (λ (b : List (List ℕ)). b) (at_children at o.keys o.children))
        (λ n. let long = keys_count s.bytes kind n in listed (V n).keys (V n).children (omega (arith, long))) refl

    flat_all : (cs : List ℕ) → all_of (map keys cs) ≡ flat_map keys cs
    flat_all [] = refl
    flat_all (c ∷ cs) = ap (λ (ks : List (List ℕ)). keys c ++ ks) (flat_all cs)

    items_below : (m c : ℕ) → IsSubtree V owned list (suc m) c → items_under Y bottom m c ≡ keys_below V keys (suc m) c
    items_below zero c is = flat_all (Y c).children ∙ ap (λ (o : Node). flat_map keys o.children) (read c is.0)
    items_below (suc m) c is =
        ap (λ (o : Node). flat_map (items_under Y bottom m) o.children) (read c is.0)
        ∙ flat-same (items_under Y bottom m) (keys_below V keys (suc m)) (V c).children
        (all_so (IsSubtree V owned list (suc m)) (λ d. items_under Y bottom m d ≡ keys_below V keys (suc m) d) (V c).children (items_below m) is.2)

    lists_same : (h n : ℕ) → IsSubtree V owned list (suc h) n → lists_below Y bottom h (Y n) ≡ map (keys_below V keys h) (V n).children
    lists_same zero n is = ap (λ (o : Node). map keys o.children) (read n is.0)
    lists_same (suc h) n is =
        ap (λ (o : Node). map (items_under Y bottom h) o.children) (read n is.0)
        ∙ map_same (items_under Y bottom h) (keys_below V keys (suc h)) (V n).children
        (all_so (IsSubtree V owned list (suc h)) (λ d. items_under Y bottom h d ≡ keys_below V keys (suc h) d) (V n).children (items_below h) is.2)

-- Nothing may stand beside a key: keys that give way do so whatever their order is.
abbrev pub no_sides : Sides (List ℕ) (List ℕ)
no_sides = record { Right = λ k x. ⊥; Left = λ x k. ⊤; Rise = λ k l. ⊤ }

pub no_order : IsOrderly no_sides
no_order = record {
  itself = λ k. tt;
  rises = λ k l m a b. tt;
  right = λ k l x a b. b;
  left = λ x k l a b. tt;
  apart = λ k x a b. a;
}

module _ (hit : List ℕ → Bool) (stands : List ℕ → ℕ → Type 0) (keys_at : List ℕ → ℕ → List (List ℕ)) (s t : Space) (kind : Kind) (root level : ℕ) (owned list : List ℕ)
    (r : IsRetiring hit stands keys_at s t kind root level owned list) (all : AreRetiredBelow hit keys_at s t kind (suc level) root) where
  abbrev V₀ : Reading
  V₀ = node_at s.bytes kind

  abbrev Y₀ : Reading
  Y₀ = reading_of s.bytes kind owned

  each : AllByRecursion (IsNodeRetired hit keys_at s t kind) owned
  each = subst (AllByRecursion (IsNodeRetired hit keys_at s t kind)) (sym r.start.tree.owns)
      (rows_retired V₀ owned list Y₀ (owned_at V₀ owned) hit keys_at s t kind (owned_at V₀ owned) level (root ∷ [])
      (subst (AllByRecursion (Owns owned)) r.start.tree.owns (all_listed owned)) (all, tt))

  abbrev IsSo : ℕ → Type 0
  IsSo n = (h : ℕ) × IsSubtree V₀ owned list (suc h) n

  abbrev Retired : ℕ → Type 0
  Retired = IsRetired (λ (b : List (List ℕ)). b) (λ key c. keys_at s.bytes c) (λ k j c. refl) (λ (key : List ℕ). hit key ≡ true) (λ (key : List ℕ). key) lowest_key Y₀ (node_at t.bytes kind)
      (λ (o : Node). map (keys_at s.bytes) o.children) (bottom_is s kind root level owned list r.start.tree (keys_at s.bytes))

  one : (n : ℕ) → IsSo n → IsNodeRetired hit keys_at s t kind n → Retired n
  one n so is =
      let own : Y₀ n ≡ V₀ n = owned_at V₀ owned n so.1.0 in
      let at_level : (Y₀ n).level ≡ so.0 = ap (λ (o : Node). o.level) own ∙ so.1.1 in
      let lists : lists_below Y₀ (λ (o : Node). map (keys_at s.bytes) o.children) (Y₀ n).level (Y₀ n) ≡ map (keys_below V₀ (keys_at s.bytes) (V₀ n).level) (V₀ n).children
      = ap (λ (h : ℕ). lists_below Y₀ (λ (o : Node). map (keys_at s.bytes) o.children) h (Y₀ n)) at_level
      ∙ lists_same s kind root level owned list r.start.tree (keys_at s.bytes) so.0 n so.1
      ∙ ap (λ (h : ℕ). map (keys_below V₀ (keys_at s.bytes) h) (V₀ n).children) (sym so.1.1) in
      let old : (Y₀ n).keys ≡ (V₀ n).keys = ap (λ (o : Node). o.keys) own in
      let new : (node_at t.bytes kind n).keys ≡ is.0 = ap (λ (o : Node). o.keys) is.1 in (
        subst (λ (ks : List (List ℕ)). AreKeysRetired hit (lists_below Y₀ (λ (o : Node). map (keys_at s.bytes) o.children) (Y₀ n).level (Y₀ n)) ks (node_at t.bytes kind n).keys) (sym old)
            (subst (λ (ls : List (List (List ℕ))). AreKeysRetired hit ls (V₀ n).keys (node_at t.bytes kind n).keys) (sym lists)
            (subst (AreKeysRetired hit (map (keys_below V₀ (keys_at s.bytes) (V₀ n).level) (V₀ n).children) (V₀ n).keys) (sym new) is.2)),
        ap (λ (o : Node). o.children) is.1 ∙ sym (ap (λ (o : Node). o.children) own),
      )

  so_all : AllByRecursion IsSo owned
  so_all = nodes_under s kind root level owned list r.start.tree

  pub tree_retired : IsTreeRetired hit keys_at s t kind root level owned list
  tree_retired = record {
    tree = keyed_tree s t kind owned list r.start.apart (retiring_keyed hit stands keys_at s t kind root level owned list r) root level r.start.tree;
    moves = r.moves;
    nodes = each;
    keys = tree_retires no_sides no_order (λ (b : List (List ℕ)). b) (λ (b : List (List ℕ)). ⊤) (λ key c. keys_at s.bytes c) (λ k j c. refl) (λ (key : List ℕ). hit key ≡ true)
        (λ (key : List ℕ). key) lowest_key s.bytes t.bytes kind root level owned list r.start.tree (λ (o : Node). map (keys_at s.bytes) o.children)
        (bottom_is s kind root level owned list r.start.tree (keys_at s.bytes))
        (all_two IsSo (IsNodeRetired hit keys_at s t kind) Retired one owned so_all each);
    unhit = all_two IsSo (IsNodeRetired hit keys_at s t kind) (λ n. AllByRecursion (λ (key : List ℕ). hit key ≡ false) (node_at t.bytes kind n).keys)
        (λ n so is. node_unhit hit stands keys_at s t kind root level owned list r n so.0 so.1 t is) owned so_all each;
  }

-- WHAT IS SO OF ALL KEYS after it: of the lowest one, of the items' and of those that were there and are not hit
module _ (hit : List ℕ → Bool) (keys_at : List ℕ → ℕ → List (List ℕ)) (s t : Space) (kind : Kind) (root level : ℕ) (owned list : List ℕ)
    (was : HasTree s.bytes kind root level owned list) (is : IsTreeRetired hit keys_at s t kind root level owned list) (P : List ℕ → Type 0) where
  abbrev IsPlaced : ℕ → Type 0
  IsPlaced n = (h : ℕ) × IsSubtree (node_at s.bytes kind) owned list (suc h) n

  abbrev Was : ℕ → Type 0
  Was n = AllByRecursion (λ key. hit key ≡ false → P key) (node_at s.bytes kind n).keys

  abbrev Now : ℕ → Type 0
  Now n = AllByRecursion P (node_at t.bytes kind n).keys

  pub keys_then : P lowest_key → AllByRecursion (λ at. AllByRecursion P (keys_at s.bytes at)) list → AllByRecursion Was owned → AllByRecursion Now owned
  keys_then low named old =
      all_two (λ n. Was n → Now n) Was Now (λ n so was. so was) owned
      (all_two IsPlaced (IsNodeRetired hit keys_at s t kind) (λ n. Was n → Now n) one_node owned (nodes_under s kind root level owned list was) is.nodes) old
    where
      one_node : (n : ℕ) → IsPlaced n → IsNodeRetired hit keys_at s t kind n → Was n → Now n
      one_node n so retired old =
          let V = node_at s.bytes kind in
          let lists = lists_named P V (keys_at s.bytes) owned list named so.0 n so.1 in
          subst (AllByRecursion P) (sym (ap (λ (o : Node). o.keys) retired.1))
          (retired_all hit P (map (keys_below V (keys_at s.bytes) (V n).level) (V n).children) (V n).keys retired.0 low
          (subst (λ (l : ℕ). AllByRecursion (AllByRecursion P) (map (keys_below V (keys_at s.bytes) l) (V n).children)) (sym so.1.1) lists) old retired.2)

-- The way down a tree leads to the one place at which something stands, if it stands in the tree.
use Rattle.std.proofs.Common.{◌≡◌, ℕ, zero, suc, ◌+◌, ◌<◌, ◌≤◌, Bool, true, false, List, [], ◌∷◌, length, map, get_or, slice_index, slice_index_or, sym, subst, ◌∙◌, arith, inl, inr}
use Rattle.std.specs.Prelude.{◌↔◌, IsTrue}
use Rattle.std.specs.List.{AllByRecursion}
use Rattle.std.proofs.lemmas.List.{length-map, get_or-map}
use Rattle.h5_bytes.specs.Bytes.{undefined_address}
use Rattle.h5_bytes.proofs.BlockLaws.{all_left, all_right}
use Rattle.h5_model.specs.Format.Rows.{Node, Reading, next_row, nodes, leaves, IsRow, AreRows}
use Rattle.h5_model.specs.Format.Nodes.{Kind, HasTree, node_at}
use Rattle.h5_model.proofs.OneTree.{level_is, owned_is}
use Rattle.h5_laws.specs.Ladders.{Sides, Bottom, IsOrderedBy, LieBetween, all_of, items_under, lists_below, IsOrderly}
use Rattle.h5_laws.proofs.Ladders.{one_place}
use Rattle.h5_laws.proofs.LadderTrees.{all_lists}
use Rattle.h5_laws.proofs.Lists.{In, in_all, in_either, in_left}
use Rattle.h5_laws.proofs.Subtrees.{index_in, leaves_within, one_within}
use Rattle.h5_laws.proofs.Trees.{tree_rows}
use Rattle.h5_btree.specs.Descent.{EndsAt, IsChildFor}

-- ---- in which list something stands

pub in_list : {X : Type 0} (lists : List (List X)) (x : X) → In x (all_of lists) → (j : ℕ) × (j < length lists) × In x (get_or lists j [])
in_list [] x at = absurd at
in_list (xs ∷ lists) x at = elim (in_either x xs (all_of lists) at) [
  | inl here ↦ (0, omega arith, here)
  | inr there ↦ let p = in_list lists x there in (suc p.0, omega (arith, p.1), p.2)
]

-- ---- the way ends at the bottom, below where it begins

module _ (V : Reading) where
  pub way_ends : (behind : List ℕ → Bool) (level at : ℕ) (node : Node) (i : ℕ) → EndsAt V behind level at node i → In (slice_index node.children i) (leaves V level (at ∷ []))
  way_ends behind zero at node i ends =
      let child : In (slice_index node.children i) node.children = index_in node.children i 0 (ends.1).child in
      in_left (slice_index node.children i) (V at).children [] (subst (λ (n : Node). In (slice_index node.children i) n.children) ends.0 child)
  way_ends behind (suc level) at node i ends =
      let children : List ℕ = (V at).children in
      let child : ℕ = slice_index children ends.0 in
      let row : List ℕ = next_row V (at ∷ []) in
      let there : In child row = in_left child children [] (index_in children ends.0 0 (ends.1).child) in
      leaves_within V level (child ∷ []) row (one_within V child row there) (slice_index node.children i) (way_ends behind level child node i ends.2)

-- ---- something that is sought by its place between keys

module _ {X : Type 0} (sides : Sides (List ℕ) X) (orderly : IsOrderly sides) (bottom : Bottom X) (few : (node : Node) → length (bottom node) ≤ length node.children)
    (behind : List ℕ → Bool) (x : X) (sought : (key : List ℕ) → IsTrue (behind key) ↔ sides.Right key x) (V : Reading) where
  -- a node of this level, and each below it, is ordered
  abbrev pub AreOrderedFrom : ℕ → ℕ → Type 0
  AreOrderedFrom zero at = ((V at).level ≡ 0) × IsOrderedBy sides V bottom (V at)
  AreOrderedFrom (suc level) at = ((V at).level ≡ suc level) × IsOrderedBy sides V bottom (V at) × AllByRecursion (AreOrderedFrom level) (V at).children

  lists_few : (level : ℕ) (node : Node) → length (lists_below V bottom level node) ≤ length node.children
  lists_few zero node = few node
  lists_few (suc level) node = omega (arith, length-map node.children (items_under V bottom level))

  -- what stands below a child stands below the one that the search takes
  one_child : (level at i : ℕ) → (V at).level ≡ level → IsOrderedBy sides V bottom (V at) → IsChildFor behind (V at) i → In x (items_under V bottom level at)
      → In x (get_or (lists_below V bottom level (V at)) i [])
  one_child level at i here ordered chosen has =
      let lists = lists_below V bottom level (V at) in
      let found = in_list lists x (subst (In x) (sym (all_lists V bottom level at)) has) in
      let low : found.0 < length (V at).children = omega (arith, found.1, lists_few level (V at)) in
      let between : LieBetween sides (slice_index_or (V at).keys found.0 []) (slice_index_or (V at).keys (found.0 + 1) []) (get_or lists found.0 [])
      = subst (λ (l : ℕ). LieBetween sides (slice_index_or (V at).keys found.0 []) (slice_index_or (V at).keys (found.0 + 1) []) (get_or (lists_below V bottom l (V at)) found.0 []))
      here (ordered.between found.0 low) in
      let lies = in_all (λ y. sides.Right (slice_index_or (V at).keys found.0 []) y × sides.Left y (slice_index_or (V at).keys (found.0 + 1) [])) x (get_or lists found.0 []) between found.2 in
      let same : found.0 ≡ i
      = one_place sides orderly (λ n. slice_index_or (V at).keys n []) (length (V at).children) ordered.rising x i found.0 chosen.child low
      (λ some. (sought (slice_index_or (V at).keys i [])).0 (chosen.low some))
      (λ more right.
      let yes : IsTrue (behind (slice_index_or (V at).keys (i + 1) [])) = (sought (slice_index_or (V at).keys (i + 1) [])).1 right in
      let no : behind (slice_index_or (V at).keys (i + 1) []) ≡ false = chosen.high more in
      let bad : false ≡ true = sym no ∙ yes in absurd (cc))
      lies.0 lies.1 in
      subst (λ (n : ℕ). In x (get_or lists n [])) same found.2

  -- it stands at the place where the way ends
  pub place_holds : (level at : ℕ) (node : Node) (i : ℕ) → AreOrderedFrom level at → EndsAt V behind level at node i → In x (items_under V bottom level at)
      → In x (get_or (bottom node) i [])
  place_holds zero at node i o ends has =
      let chosen = subst (λ (n : Node). IsChildFor behind n i) ends.0 ends.1 in
      subst (λ (n : Node). In x (get_or (bottom n) i [])) (sym ends.0) (one_child 0 at i o.0 o.1 chosen has)
  place_holds (suc level) at node i o ends has =
      let children : List ℕ = (V at).children in
      let below : get_or (map (items_under V bottom level) children) ends.0 [] ≡ items_under V bottom level (slice_index children ends.0)
      = get_or-map (items_under V bottom level) children ends.0 0 [] (ends.1).child in
      place_holds level (slice_index children ends.0) node i
      (in_all (AreOrderedFrom level) (slice_index children ends.0) children o.2 (index_in children ends.0 0 (ends.1).child)) ends.2
      (subst (In x) below (one_child (suc level) at ends.0 o.0 o.1 ends.1 has))

  -- ---- rows of ordered nodes

  abbrev Ordered : ℕ → Type 0
  Ordered at = IsOrderedBy sides V bottom (V at)

  at_zero : (left : ℕ) (row : List ℕ) → IsRow V 0 left row → AllByRecursion Ordered row → AllByRecursion (AreOrderedFrom 0) row
  at_zero left [] rows ordered = tt
  at_zero left (n ∷ row) rows ordered = ((rows.0, ordered.0), at_zero n row rows.3 ordered.1)

  at_more : (level left : ℕ) (row : List ℕ) → IsRow V (suc level) left row → AllByRecursion Ordered row → AllByRecursion (AreOrderedFrom level) (next_row V row)
      → AllByRecursion (AreOrderedFrom (suc level)) row
  at_more level left [] rows ordered below = tt
  at_more level left (n ∷ row) rows ordered below = (
    (rows.0, ordered.0, all_left (AreOrderedFrom level) (V n).children (next_row V row) below),
    at_more level n row rows.3 ordered.1 (all_right (AreOrderedFrom level) (V n).children (next_row V row) below),
  )

  rows_ordered : (level : ℕ) (row : List ℕ) → AreRows V level row → AllByRecursion Ordered (nodes V level row) → AllByRecursion (AreOrderedFrom level) row
  rows_ordered zero row rows ordered = at_zero undefined_address row rows ordered
  rows_ordered (suc level) row rows ordered =
      at_more level undefined_address row rows.0 (all_left Ordered row (nodes V level (next_row V row)) ordered)
      (rows_ordered level (next_row V row) rows.1 (all_right Ordered row (nodes V level (next_row V row)) ordered))

-- ---- a tree of the image

-- what stands in a tree, each of whose nodes is ordered, stands at the place where the way from its root ends
pub place_found : {X : Type 0} (sides : Sides (List ℕ) X) → IsOrderly sides → (bottom : Bottom X) → ((node : Node) → length (bottom node) ≤ length node.children)
    → (behind : List ℕ → Bool) (x : X) → ((key : List ℕ) → IsTrue (behind key) ↔ sides.Right key x)
    → (image : List ℕ) (kind : Kind) (root level : ℕ) (owned children : List ℕ) → HasTree image kind root level owned children
    → AllByRecursion (λ at. IsOrderedBy sides (node_at image kind) bottom (node_at image kind at)) owned
    → (node : Node) (i : ℕ) → EndsAt (node_at image kind) behind (node_at image kind root).level root node i
    → In x (items_under (node_at image kind) bottom level root) → In x (get_or (bottom node) i [])
place_found sides orderly bottom few behind x sought image kind root level owned children has ordered node i ends there =
    let V = node_at image kind in
    let each = subst (AllByRecursion (λ at. IsOrderedBy sides V bottom (V at))) (owned_is image kind root level owned children has) ordered in
    let rows = rows_ordered sides orderly bottom few behind x sought V level (root ∷ []) (tree_rows image kind root level owned children has) each in
    place_holds sides orderly bottom few behind x sought V level root node i rows.0
    (subst (λ (l : ℕ). EndsAt V behind l root node i) (level_is image kind root level owned children has) ends) there

-- On the way down a tree of chunks each node stands, has a child, and leads to nodes of level 0.
use Rattle.std.proofs.Common.{◌≡◌, ◌≢◌, ℕ, zero, suc, ◌+◌, ◌*◌, ◌-◌, ◌≤◌, List, [], ◌∷◌, Bool, length, slice_get, Some, refl, sym, subst, arith}
use Rattle.std.specs.List.{AllByRecursion, Contains}
use Rattle.h5_model.specs.Format.Nodes.{Kind, node_at, reading_of}
use Rattle.h5_model.specs.Format.Reached.{Shape, shape_kind}
use Rattle.h5_model.specs.Format.Rows.{Node, Reading, next_row, row_below}
use Rattle.h5_model.proofs.RowLaws.{at_listed}
use Rattle.h5_laws.proofs.Lists.{In, contains_in, in_at, in_contains, in_left}
use Rattle.h5_laws.proofs.Subtrees.{one_within, rows_within}
use Rattle.h5_btree.specs.Descent.{IsChildFor}
use Rattle.h5_btree.specs.Walk.Forms.{OfChunks}
use Rattle.h5_btree.specs.Walk.Stands.{IsNodeAt}
use Rattle.h5_btree.proofs.DescentLaws.{level_in_row, owned_here, stands_in_row}
use Rattle.h5_btree.proofs.WalkLaws.StandLaws.{each_node}
use Rattle.h5_btree.proofs.WayLaws.{down_row}
use Rattle.h5_chunks.specs.Way.{IsInSomeRow}
use Rattle.h5_chunks.proofs.NodeKeys.{keys_are_long}

-- what is of level 0 below a child is so below its node
pub below_bottom : (V : Reading) (level at i child x : ℕ) → level ≢ 0 → slice_get (V at).children i ≡ Some child
    → Contains (row_below V (level - 1) (child ∷ [])) x → Contains (row_below V level (at ∷ [])) x
below_bottom V zero at i child x some got has = absurd (some refl)
below_bottom V (suc level) at i child x some got has =
    let one : suc level - 1 ≡ level = omega arith in
    let row : List ℕ = next_row V (at ∷ []) in
    let there : In child row = in_left child (V at).children [] (in_at (V at).children i child got) in
    let below : Contains (row_below V level (child ∷ [])) x = subst (λ (l : ℕ). Contains (row_below V l (child ∷ [])) x) one has in
    contains_in x (row_below V level row) (rows_within V level (child ∷ []) row (one_within V child row there) x (in_contains x (row_below V level (child ∷ [])) below))

module _ (image : List ℕ) (shape : Shape) (level at : ℕ) (r : IsInSomeRow image (shape_kind image shape) level at) where
  abbrev kind : Kind
  kind = shape_kind image shape

  pub some_stands : IsNodeAt image (OfChunks shape) at
  some_stands =
      at_listed (IsNodeAt image (OfChunks shape)) r.0 at (each_node image (OfChunks shape) r.0 (r.2).formed (r.2).inside)
      (owned_here image kind r.0 level at (r.2).low (level_in_row image kind r.0 level r.1 at r.2))

  pub some_long : 26 ≤ length image
  some_long = omega (arith, some_stands.inside)

  module _ (node : Node) (is : node ≡ node_at image kind at) where
    pub some_filled : 1 ≤ length node.children
    some_filled = subst (λ (n : Node). 1 ≤ length n.children) (sym is) (stands_in_row image kind r.0 level r.1 at r.2).1

    pub some_keys : (n : ℕ) → n ≡ length shape.sizes → AllByRecursion (λ (key : List ℕ). length key ≡ 8 + 8 * (n + 1)) node.keys
    some_keys n same = rw same (keys_are_long image shape at node is some_stands)

    pub some_child : (behind : List ℕ → Bool) (i child : ℕ) → IsChildFor behind node i → slice_get node.children i ≡ Some child → level ≢ 0 → IsInSomeRow image kind (level - 1) child
    some_child behind i child chosen got some =
        (r.0, next_row (reading_of image kind r.0) r.1, down_row image kind behind at node i child is chosen got r.0 level r.1 some r.2)

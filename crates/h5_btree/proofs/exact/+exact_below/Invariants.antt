use Rattle.std.proofs.Common.{◌≡◌, ◌<◌, ◌-◌, ℕ, suc, List, [], Some, length, take, get_or}
use Rattle.std.specs.List.{flat_map, slice_get}
use Rattle.h5_model.specs.Format.Nodes.{node_at}
use Rattle.h5_laws.specs.ExactKeys.{IsBehind}
use Rattle.h5_btree.specs.Exact.{IsExactBelow, key_before}
use Rattle.h5_btree.specs.Retired.{IsLastOf, keys_below}
use Rattle.h5_btree.proofs.exact.+exact_below.Given as goal

abbrev pub decreases-exact_below : goal.decreases-exact_below
decreases-exact_below g l = l.height

abbrev pub invariant-loop-i : goal.invariant-loop-i
invariant-loop-i g l = record {
  end : l.i-end ≡ length l.node.children;
  last : IsLastOf (flat_map (keys_below (node_at l.image.bytes l.kind) (g.R.Hits.keys_at l.how l.image.bytes) (l.height - 1)) (take l.i l.node.children)) l.last;
  behind : (j child : ℕ) → j < l.i → slice_get l.node.children j ≡ Some child
      → IsBehind (λ (k : List ℕ). ⊥) (λ (key : List ℕ). key) (get_or l.node.keys j []) (keys_below (node_at l.image.bytes l.kind) (g.R.Hits.keys_at l.how l.image.bytes) (l.height - 1) child)
      (get_or l.node.keys (suc j) []);
  exact : (j child : ℕ) → j < l.i → slice_get l.node.children j ≡ Some child
      → IsExactBelow (node_at l.image.bytes l.kind) (g.R.Hits.keys_at l.how l.image.bytes) (l.height - 1) (key_before l.before j (get_or l.node.keys j [])) child;
}

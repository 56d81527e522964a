use Rattle.std.proofs.Common.{◌≡◌, ◌≤◌, ◌-◌, [], length, drop}
use Rattle.std.specs.List.{flat_map}
use Rattle.h5_model.specs.Format.Nodes.{node_at}
use Rattle.h5_btree.specs.Retired.{keys_below}
use Rattle.h5_btree.proofs.retirement.+last_key_below.Given as goal

abbrev pub decreases-last_key_below : goal.decreases-last_key_below
decreases-last_key_below g l = l.height

abbrev pub invariant-loop-i : goal.invariant-loop-i
invariant-loop-i g l = record {
  within : l.i ≤ length l.node.children;
  none : flat_map (keys_below (node_at l.fn.image.bytes l.kind) (g.R.Hits.keys_at l.how l.fn.image.bytes) (l.height - 1)) (drop l.i l.node.children) ≡ [];
}

abbrev pub decreases-loop-i : goal.decreases-loop-i
decreases-loop-i g l = l.i

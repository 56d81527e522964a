use Rattle.std.proofs.Common.{◌≡◌, ◌+◌, ℕ, List, length, map}
use Rattle.h5_model.specs.Format.Nodes.{node_at}
use Rattle.h5_btree.specs.Retired.{keys_below}
use Rattle.h5_btree.specs.Rewritten.{IsRewritten}
use Rattle.h5_btree.proofs.RetiredKeys.{ArePartly}
use Rattle.h5_btree.proofs.retirement.retire_keys.Given as goal

abbrev pub invariant-loop-i : goal.invariant-loop-i
invariant-loop-i g l = record {
  end : l.i-end ≡ length (node_at l.fn.image.bytes l.kind l.at).children + 1;
  written : (keys : List (List ℕ))
      × ArePartly (g.R.Hits.hit l.how) (map (keys_below (node_at l.fn.image.bytes l.kind) (g.R.Hits.keys_at l.how l.fn.image.bytes) l.level) (node_at l.fn.image.bytes l.kind l.at).children)
      (node_at l.fn.image.bytes l.kind l.at).keys keys l.i
      × IsRewritten l.fn.image l.image l.kind l.at (record (node_at l.fn.image.bytes l.kind l.at) { keys = keys });
}

use Rattle.std.proofs.Common.{◌≡◌, length, take}
use Rattle.std.specs.List.{list_any}
use Rattle.h5_btree.proofs.retirement.has_hit.Given as goal

abbrev pub invariant-loop-i : goal.invariant-loop-i
invariant-loop-i g l = record {
  end : l.i-end ≡ length l.node.keys;
  hit : l.hit ≡ list_any (g.R.Hits.hit l.how) (take l.i l.node.keys);
}

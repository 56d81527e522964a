use Rattle.std.proofs.Common.{◌≡◌, ◌-◌, ◌<◌, ◌≤◌, [], true, false, length, slice_index_or}
use Rattle.h5_btree.proofs.sought.child_for.Given as goal

abbrev pub invariant-loop-to : goal.invariant-loop-to
invariant-loop-to g l = (l.from < l.to) × (l.to ≤ length l.node.children)
    × (1 ≤ l.from → g.S.Sought.behind l.sought (slice_index_or l.node.keys l.from []) ≡ true)
    × (l.to < length l.node.children → g.S.Sought.behind l.sought (slice_index_or l.node.keys l.to []) ≡ false)

abbrev pub decreases-loop-to : goal.decreases-loop-to
decreases-loop-to g l = l.to - l.from

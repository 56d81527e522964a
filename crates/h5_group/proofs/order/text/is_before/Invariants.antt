use Rattle.std.proofs.Common.{◌≡◌, ◌+◌, ◌-◌, ◌≤◌, length}
use Rattle.h5_group.specs.Order.Common.{HaveCommon}
use Rattle.h5_group.proofs.order.text.is_before.Given as goal

abbrev pub invariant-loop-k : goal.invariant-loop-k
invariant-loop-k l = (l.name ≤ l.at) × (l.at_other ≡ l.other + (l.at - l.name)) × HaveCommon l.segment l.name l.other (l.at - l.name)

abbrev pub decreases-loop-k : goal.decreases-loop-k
decreases-loop-k l = length l.segment - l.at

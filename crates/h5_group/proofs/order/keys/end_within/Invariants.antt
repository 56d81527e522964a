use Rattle.std.proofs.Common.{◌≡◌, [], drop}
use Rattle.h5_model.specs.Faults.TreeFaults.{all_entries}
use Rattle.h5_group.proofs.order.keys.end_within.Given as goal

abbrev pub invariant-loop-i : goal.invariant-loop-i
invariant-loop-i l = all_entries l.image.bytes (drop l.i l.node.children) ≡ []

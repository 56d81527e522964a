use Rattle.std.proofs.Common.{◌≡◌, [], take}
use Rattle.h5_model.specs.Faults.TreeFaults.{all_entries}
use Rattle.h5_group.proofs.order.keys.start_above.Given as goal

abbrev pub invariant-loop-i : goal.invariant-loop-i
invariant-loop-i l = all_entries l.image.bytes (take l.i l.node.children) ≡ []

use Rattle.std.proofs.Common.{◌-◌}
use Rattle.h5_layout.proofs.TileLaws.{AreCopies}
use Rattle.h5_layout.proofs.address.fill_cells.Given as goal

abbrev pub invariant-loop-done : goal.invariant-loop-done
invariant-loop-done l = AreCopies l.fixed l.value l.bytes l.count l.done

abbrev pub decreases-loop-done : goal.decreases-loop-done
decreases-loop-done l = l.count - l.done

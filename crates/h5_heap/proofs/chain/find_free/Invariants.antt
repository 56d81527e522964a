use Rattle.std.proofs.Common.{◌≡◌, length}
use Rattle.std.specs.List.{find}
use Rattle.h5_heap.specs.Chain.{HasChain, free_from}
use Rattle.h5_heap.specs.Sought.{is_enough}
use Rattle.h5_heap.proofs.chain.find_free.Given as goal

abbrev pub invariant-loop-next : goal.invariant-loop-next
invariant-loop-next l = HasChain l.segment l.next × (find (is_enough l.len) (free_from l.segment l.first) ≡ find (is_enough l.len) (free_from l.segment l.next))

abbrev pub decreases-loop-next : goal.decreases-loop-next
decreases-loop-next l = length (free_from l.segment l.next)

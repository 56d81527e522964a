use Rattle.h5_heap.specs.Units.{AreOpen}
use Rattle.h5_heap.proofs.units.are_open.Given as goal

-- those so far are open
abbrev pub invariant-loop-k : goal.invariant-loop-k
invariant-loop-k l = AreOpen l.states l.begin l.k

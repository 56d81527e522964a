use Rattle.h5_heap.specs.Units.{FillsUnits}
use Rattle.h5_heap.proofs.units.fill.Given as goal

-- those so far have the state
abbrev pub invariant-loop-k : goal.invariant-loop-k
invariant-loop-k l = FillsUnits l.initial.states l.states l.begin l.k l.state

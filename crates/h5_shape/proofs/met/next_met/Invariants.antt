use Rattle.std.proofs.Common.{◌≡◌, length}
use Rattle.h5_shape.specs.MetFirsts.{AreRanked, firsts_left}
use Rattle.h5_shape.proofs.met.next_met.Given as goal

-- the boxes of the parts so far do not pass
abbrev pub invariant-loop-test : goal.invariant-loop-test
invariant-loop-test l = record {
  same : firsts_left l.test l.grid l.initial.parts ≡ firsts_left l.test l.grid l.parts;
  ranks : AreRanked l.grid l.parts;
}

abbrev pub decreases-loop-test : goal.decreases-loop-test
decreases-loop-test l = length l.parts

use Rattle.std.proofs.Common.{length}
use Rattle.h5_text.proofs.Printing.{IsToldUpTo}
use Rattle.h5_text.proofs.streams.write_text.Given as goal

abbrev pub invariant-loop-rest : goal.invariant-loop-rest
invariant-loop-rest g l = IsToldUpTo (g.W.Write.contents l.fn.output) (g.W.Write.contents l.output) l.text l.rest

abbrev pub decreases-loop-rest : goal.decreases-loop-rest
decreases-loop-rest g l = length l.rest

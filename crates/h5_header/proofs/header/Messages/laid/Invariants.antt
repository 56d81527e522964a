use Rattle.std.proofs.Common.{length, ◌-◌, List}
use Rattle.h5_model.specs.Format.Messages.{Message}
use Rattle.h5_header.specs.Laid.{IsHeaderBytes}
use Rattle.h5_header.proofs.LaidLaws.{LaidTo}
use Rattle.h5_header.proofs.header.Messages.laid.Given as goal

abbrev pub invariant-loop-at : goal.invariant-loop-at
invariant-loop-at l = (ms : List Message) × IsHeaderBytes l.bytes l.header ms × LaidTo l.bytes l.header ms l.list.items l.at

abbrev pub decreases-loop-at : goal.decreases-loop-at
decreases-loop-at l = length l.bytes - l.at

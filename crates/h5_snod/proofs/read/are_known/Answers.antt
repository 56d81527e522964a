use Rattle.std.proofs.Common.{arith}
use Rattle.h5_snod.proofs.EntryLaws.{all_known}
use Rattle.h5_snod.proofs.read.are_known.Goals as goal

pub returns : goal.returns
returns c = all_known c.args.bytes.now (λ k low. c.loop-i.invariant k (omega arith))

use Rattle.std.proofs.Common.{arith}
use Rattle.h5_snod.proofs.EntryLaws.{count_is}
use Rattle.h5_snod.proofs.node.SymbolNode.len.Goals as goal

pub returns : goal.returns
returns c = omega (arith, count_is c.self.inside.bytes.now c.args.self.now c.self.view_is)

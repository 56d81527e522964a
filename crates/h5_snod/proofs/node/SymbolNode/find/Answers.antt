use Rattle.std.proofs.Common.{arith}
use Rattle.h5_snod.proofs.EntryLaws.{count_is}
use Rattle.h5_snod.proofs.node.SymbolNode.find.Goals as goal

pub find_name-requires-clause-count : goal.find_name-requires-clause-count
find_name-requires-clause-count c = omega (arith, count_is c.self.inside.bytes.now c.args.self.now c.self.view_is)

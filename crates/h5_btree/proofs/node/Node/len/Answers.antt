use Rattle.std.proofs.Common.{arith}
use Rattle.h5_btree.proofs.NodeLaws.{length-keys, length-children}
use Rattle.h5_btree.proofs.node.Node.len.Goals as goal

pub returns-clause-children : goal.returns-clause-children
returns-clause-children c = omega (arith, length-children c.self.inside.kind c.self.inside.bytes.now c.args.self.now c.self.view_is)

pub returns-clause-keys : goal.returns-clause-keys
returns-clause-keys c = omega (arith, length-keys c.self.inside.kind c.self.inside.bytes.now c.args.self.now c.self.view_is)

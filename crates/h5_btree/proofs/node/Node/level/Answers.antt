use Rattle.h5_btree.proofs.NodeLaws.{level_is}
use Rattle.h5_btree.proofs.node.Node.level.Goals as goal

pub returns : goal.returns
returns c = level_is c.self.inside.kind c.self.inside.bytes.now c.args.self.now c.self.view_is

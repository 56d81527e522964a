use Rattle.std.proofs.Common.{◌∙◌}
use Rattle.h5_btree.proofs.NodeLaws.{left_is}
use Rattle.h5_btree.proofs.node.Node.left.Goals as goal

pub returns : goal.returns
returns c = c.u64_at.ensures ∙ left_is c.self.inside.kind c.self.inside.bytes.now c.args.self.now c.self.view_is

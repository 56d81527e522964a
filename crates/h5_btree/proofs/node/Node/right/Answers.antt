use Rattle.std.proofs.Common.{◌∙◌}
use Rattle.h5_btree.proofs.NodeLaws.{right_is}
use Rattle.h5_btree.proofs.node.Node.right.Goals as goal

pub returns : goal.returns
returns c = c.u64_at.ensures ∙ right_is c.self.inside.kind c.self.inside.bytes.now c.args.self.now c.self.view_is

use Rattle.h5_btree.proofs.NodeLaws.{keys_long}
use Rattle.h5_btree.proofs.node.Node.new.Goals as goal

pub returns-clause-keys : goal.returns-clause-keys
returns-clause-keys c = keys_long c.args.kind c.args.bytes.now c.requires.long c.requires.roomy

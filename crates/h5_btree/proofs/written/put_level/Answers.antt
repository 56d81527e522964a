use Rattle.h5_btree.proofs.NodeHalves.{level_says, level_form}
use Rattle.h5_btree.proofs.written.put_level.Goals as goal

pub returns-clause-node : goal.returns-clause-node
returns-clause-node c = level_says c.args.kind c.args.bytes.now c.args.level c.requires.long c.requires.form

pub returns-clause-form : goal.returns-clause-form
returns-clause-form c = level_form c.args.kind c.args.bytes.now c.args.level c.requires.long c.requires.form

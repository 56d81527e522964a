use Rattle.h5_group.proofs.Ways.{group_read}
use Rattle.h5_group.proofs.edit.put.is_full.Goals as goal

pub group_symbol_node-node-requires-clause-group : goal.group_symbol_node-node-requires-clause-group
group_symbol_node-node-requires-clause-group c =
    let g = c.requires.group in
    group_read c.args.image.now c.args.table g.1.0 g.0 g.1.1 g.1.2

use Rattle.std.proofs.Common.{arith}
use Rattle.h5_group.proofs.Standing.{heap_there, node_there, node_formed}
use Rattle.h5_group.proofs.read.group_symbol_node.Goals as goal

pub symbol_node-requires-clause-long : goal.symbol_node-requires-clause-long
symbol_node-requires-clause-long c = omega (arith, (heap_there c.args.image.now.bytes c.args.table c.requires.group).0)

pub symbol_node-requires-clause-there : goal.symbol_node-requires-clause-there
symbol_node-requires-clause-there c = record {
  formed = node_formed c.args.image.now.bytes c.args.table c.requires.group c.args.node c.requires.node;
  inside = node_there c.args.image.now.bytes c.args.table c.requires.group c.args.node c.requires.node;
}

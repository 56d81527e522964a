use Rattle.std.proofs.Common.{◌*◌, arith}
use Rattle.h5_btree.proofs.NodeLaws.{child_room}
use Rattle.h5_btree.proofs.node.child_at.Goals as goal

pub u64_at-requires : goal.u64_at-requires
u64_at-requires c = omega (arith, child_room c.args.kind.key_length (2 * c.args.kind.k) c.args.i c.requires.place, c.key_length.ensures.length)

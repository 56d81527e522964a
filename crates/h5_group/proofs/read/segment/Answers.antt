use Rattle.std.proofs.Common.{arith}
use Rattle.h5_group.proofs.Standing.{heap_there}
use Rattle.h5_group.proofs.read.segment.Goals as goal

pub segment_at-requires : goal.segment_at-requires
segment_at-requires c = rw c.heap.ensures (heap_there c.args.image.now.bytes c.args.table c.requires)

pub returns-clause-there : goal.returns-clause-there
returns-clause-there c = omega (arith, (heap_there c.args.image.now.bytes c.args.table c.requires).0)

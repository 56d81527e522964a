use Rattle.std.proofs.Common.{refl}
use Rattle.h5_shape.proofs.MetLaws.{parts_long, some_cells}
use Rattle.h5_shape.proofs.met.tested_boxes.Goals as goal

pub chunk_parts-requires-clause-sizes : goal.chunk_parts-requires-clause-sizes
chunk_parts-requires-clause-sizes c = (some_cells c.args.grid.now c.requires.sized).1

pub invariant_of-result : goal.invariant_of-result
invariant_of-result c = record {
  few = c.requires.few;
  test_of = c.requires.test;
  ranks = parts_long c.args.slab.now c.args.grid.now c.chunk_parts.result c.requires.rank c.chunk_parts.ensures.parted;
}

pub returns : goal.returns
returns c = (c.chunk_parts.result, c.chunk_parts.ensures.parted, refl)

use Rattle.h5_group.proofs.Ways.{heap_inside}
use Rattle.h5_group.proofs.edit.way.ends_for.Goals as goal

pub segment_at-requires : goal.segment_at-requires
segment_at-requires c =
    let g = c.requires.group in
    rw c.heap.ensures (heap_inside c.args.image.now c.args.table g.1.0 g.0 g.1.1 g.1.2)

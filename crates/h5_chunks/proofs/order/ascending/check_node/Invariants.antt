use Rattle.std.proofs.Common.{◌≡◌, length, take}
use Rattle.h5_model.specs.Format.Chunks.{chunks_in}
use Rattle.h5_model.specs.Format.Links.{Before}
use Rattle.h5_btree.specs.Rising.{RiseFrom, last_value}
use Rattle.h5_chunks.specs.Between.{offsets_of}
use Rattle.h5_chunks.proofs.order.ascending.check_node.Given as goal

abbrev pub invariant-loop-i : goal.invariant-loop-i
invariant-loop-i l = RiseFrom offsets_of Before l.fn.before (take l.i (chunks_in (length l.shape.sizes) l.node))
    × (l.last ≡ last_value offsets_of l.fn.before (take l.i (chunks_in (length l.shape.sizes) l.node)))

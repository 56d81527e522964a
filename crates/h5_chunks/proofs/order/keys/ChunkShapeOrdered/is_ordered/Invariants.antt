use Rattle.std.proofs.Common.{ℕ, ◌<◌, length}
use Rattle.h5_laws.specs.ChunkLadders.{chunk_lists, chunk_sides}
use Rattle.h5_btree.specs.Walk.Below.{reading_in}
use Rattle.h5_btree.specs.Walk.Forms.{OfChunks}
use Rattle.h5_btree.proofs.OrderLaws.NodeOrder.{IsChildOrdered}
use Rattle.h5_chunks.proofs.order.keys.ChunkShapeOrdered.is_ordered.Given as goal

abbrev pub invariant-loop-i : goal.invariant-loop-i
invariant-loop-i l = (k : ℕ) → k < l.i
    → IsChildOrdered (chunk_sides (length l.self.sizes)) (reading_in l._image.bytes (OfChunks l.self)) (chunk_lists (length l.self.sizes)) l.node k

use Rattle.std.proofs.Common.{length, take}
use Rattle.std.specs.List.{AllByRecursion}
use Rattle.h5_model.specs.Format.Chunks.{chunks_in}
use Rattle.h5_chunks.specs.Between.{IsChunkHeld}
use Rattle.h5_chunks.proofs.order.keys.ChunkShapeOrdered.lie_between.Given as goal

abbrev pub invariant-loop-i : goal.invariant-loop-i
invariant-loop-i l = AllByRecursion (λ chunk. IsChunkHeld (length l.self.sizes) l.low l.high chunk.0) (take l.i (chunks_in (length l.self.sizes) l.node))

use Rattle.std.proofs.Common.{◌≡◌, ◌*◌, ◌<◌, [], Some, take}
use Rattle.std.specs.Prelude.{slice_index_or}
use Rattle.std.specs.FinMap.{get}
use Rattle.h5_chunks.specs.Told.{chunks_told}
use Rattle.h5_space.specs.Moves.{Spends}
use Rattle.h5_chunks.specs.Edited.{store_room}
use Rattle.h5_layout.specs.Filled.{HasFilledChunks, cells_of_fill}
use Rattle.h5_layout.proofs.filled.store_all.Given as goal

-- the first chunks are stored
abbrev pub invariant-loop-k : goal.invariant-loop-k
invariant-loop-k l = record {
  filled : HasFilledChunks l.initial.image l.image l.shape l.root (cells_of_fill l.cells.fixed l.cells.fill l.cells.count) (take l.k l.new.offsets);
  spends : Spends l.initial.image l.image (l.k * store_room l.initial.image.bytes l.shape) (18 * l.k);
  first : l.k ≡ 0 → l.image ≡ l.initial.image;
  there : 0 < l.k → get (chunks_told l.image.bytes l.shape l.root) (slice_index_or l.new.offsets 0 []) ≡ Some l.first;
}

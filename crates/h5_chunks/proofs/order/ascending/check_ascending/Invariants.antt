use Rattle.std.proofs.Common.{◌≡◌, length, take}
use Rattle.std.specs.Prelude.{None}
use Rattle.h5_model.specs.Format.Chunks.{chunks_at}
use Rattle.h5_model.specs.Format.Links.{Before}
use Rattle.h5_btree.specs.Rising.{RiseFrom, last_value}
use Rattle.h5_btree.specs.Walk.Below.{reading_in}
use Rattle.h5_btree.specs.Walk.Forms.{OfChunks}
use Rattle.h5_chunks.specs.Between.{offsets_of}
use Rattle.h5_chunks.proofs.order.ascending.check_ascending.Given as goal

abbrev pub invariant-loop-at : goal.invariant-loop-at
invariant-loop-at l = RiseFrom offsets_of Before None (chunks_at (reading_in l.image.bytes (OfChunks l.shape)) (length l.shape.sizes) (take l.at-index l.row))
    × (l.last ≡ last_value offsets_of None (chunks_at (reading_in l.image.bytes (OfChunks l.shape)) (length l.shape.sizes) (take l.at-index l.row)))

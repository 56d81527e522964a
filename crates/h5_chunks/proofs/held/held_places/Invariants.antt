use Rattle.std.proofs.Common.{◌≡◌, length, map, take}
use Rattle.std.specs.List.{AllByRecursion, filter}
use Rattle.h5_model.specs.Format.Chunks.{chunks_at}
use Rattle.h5_model.specs.Tree.Places.{is_inside}
use Rattle.h5_btree.specs.Walk.Below.{reading_in}
use Rattle.h5_btree.specs.Walk.Forms.{OfChunks}
use Rattle.h5_chunks.specs.Held.{IsChunkPlace, place_entry}
use Rattle.h5_chunks.proofs.held.held_places.Given as goal

abbrev pub invariant-loop-at : goal.invariant-loop-at
invariant-loop-at l = (map (place_entry (length l.shape.sizes)) l.places.items
    ≡ filter (λ e. is_inside l.sizes e.0) (chunks_at (reading_in l.image.bytes (OfChunks l.shape)) (length l.shape.sizes) (take l.at-index l.at-items)))
    × AllByRecursion (IsChunkPlace l.image.bytes l.shape) l.places.items

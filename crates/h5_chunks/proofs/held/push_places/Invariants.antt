use Rattle.std.proofs.Common.{◌≡◌, ◌++◌, length, map, take}
use Rattle.std.specs.List.{AllByRecursion, filter}
use Rattle.h5_model.specs.Format.Chunks.{chunks_in}
use Rattle.h5_model.specs.Tree.Places.{is_inside}
use Rattle.h5_chunks.specs.Held.{IsChunkPlace, place_entry}
use Rattle.h5_chunks.proofs.held.push_places.Given as goal

abbrev pub invariant-loop-i : goal.invariant-loop-i
invariant-loop-i l = (map (place_entry (length l.shape.sizes)) l.places.items
    ≡ map (place_entry (length l.shape.sizes)) l.fn.places.items
    ++ filter (λ e. is_inside l.sizes e.0) (take l.i (chunks_in (length l.shape.sizes) l.node)))
    × (AllByRecursion (IsChunkPlace l.image.bytes l.shape) l.fn.places.items → AllByRecursion (IsChunkPlace l.image.bytes l.shape) l.places.items)

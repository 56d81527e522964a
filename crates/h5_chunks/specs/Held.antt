-- The stored chunks of a tree that hold a cell of an extent, where they stand (File Format Specification 3.0, section III.A.1).
use Rattle.std.specs.Prelude.{◌≡◌, ℕ, ◌+◌, ◌*◌, ◌≤◌, List, length}
use Rattle.std.specs.List.{AllByRecursion, filter}
use Rattle.h5_model.specs.Format.Chunks.{IsChunkKey, chunks_in, offsets_in}
use Rattle.h5_model.specs.Format.Reached.{Shape}
use Rattle.h5_model.specs.Format.Rows.{Node}
use Rattle.h5_model.specs.Tree.Places.{is_inside}
use Rattle.h5_btree.specs.Walk.Below.{reading_in}
use Rattle.h5_btree.specs.Walk.Forms.{IsKeyed, OfChunks}
use Rattle.h5_btree.specs.Walk.Stands.{IsNodeAt}
use Rattle.h5_chunks.specs.declared.held.ChunkPlace.{ChunkPlace}

-- the offsets and the address of a chunk of so many dimensions
abbrev pub place_entry : ℕ → ChunkPlace → List ℕ × ℕ
place_entry rank place = (offsets_in rank place.key.now, place.at)

-- The chunk is a whole one of this shape, and lies in the image.
pub record IsChunkPlace (image : List ℕ) (shape : Shape) (place : ChunkPlace) : Type 0 where
  pub long : length place.key.now ≡ 8 + 8 * (length shape.sizes + 1)
  pub keyed : IsChunkKey shape.sizes shape.bytes place.key.now
  pub inside : place.at + shape.bytes ≤ length image

-- the chunks of a node of level 0 that hold a cell of an extent of these sizes
abbrev pub held_in : List ℕ → ℕ → Node → List (List ℕ × ℕ)
held_in sizes rank node = filter (λ e. is_inside sizes e.0) (chunks_in rank node)

-- a node of level 0 whose chunks are whole ones, and lie in the image
pub record IsBottomNode (image : List ℕ) (shape : Shape) (at : ℕ) : Type 0 where
  pub there : IsNodeAt image (OfChunks shape) at
  pub keyed : IsKeyed (OfChunks shape) (reading_in image (OfChunks shape) at)
  pub inside : AllByRecursion (λ chunk. chunk + shape.bytes ≤ length image) (reading_in image (OfChunks shape) at).children

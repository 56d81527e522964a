-- The chunks of a tree with a cell outside an extent, from a node down (File Format Specification 3.0, section III.A.1).
use Rattle.std.specs.Prelude.{◌≡◌, ℕ, zero, suc, List, length}
use Rattle.std.specs.List.{AllByRecursion}
use Rattle.h5_model.specs.Format.Reached.{Shape}
use Rattle.h5_laws.specs.ChunkLadders.{chunk_lists, chunk_sides}
use Rattle.h5_laws.specs.Ladders.{items_under}
use Rattle.h5_btree.specs.Order.{IsOrderedAt}
use Rattle.h5_btree.specs.Walk.Below.{IsStanding, reading_in}
use Rattle.h5_btree.specs.Walk.Forms.{OfChunks}
use Rattle.h5_chunks.specs.Held.{IsBottomNode}
use Rattle.h5_chunks.specs.Lists.{ChunkOffsets}

-- a node of this level stands there, and the chunks below each of its children are between the keys around it
pub record IsChunkNode (image : List ℕ) (shape : Shape) (level at : ℕ) : Type 0 where
  pub stands : IsStanding image (OfChunks shape) level at
  pub ordered : IsOrderedAt (chunk_sides (length shape.sizes)) image (OfChunks shape) (chunk_lists (length shape.sizes)) at

-- so it is of the node of this level at this address, where it is above level 0, and of each one below it; at level 0 the chunks are whole ones
abbrev pub IsChunkTree : List ℕ → Shape → ℕ → ℕ → Type 0
IsChunkTree image shape zero at = IsBottomNode image shape at
IsChunkTree image shape (suc level) at =
    IsChunkNode image shape (suc level) at × AllByRecursion (IsChunkTree image shape level) (reading_in image (OfChunks shape) at).children

-- the chunks below the node of this level at this address, ascending
abbrev pub chunks_from : List ℕ → Shape → ℕ → ℕ → List (List ℕ × ℕ)
chunks_from image shape level at = items_under (reading_in image (OfChunks shape)) (chunk_lists (length shape.sizes)) level at

-- the chunks of a list are of this shape
pub record IsListOf (shape : Shape) (list : ChunkOffsets) : Type 0 where
  pub rank : list.rank ≡ length shape.sizes
  pub bytes : list.bytes ≡ shape.bytes

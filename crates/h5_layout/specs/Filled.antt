-- Chunks stored in a tree, where the tree stands, with each cell the fill (File Format Specification 3.0, section III.A.1).
use Rattle.std.specs.Prelude.{◌≡◌, ℕ, ◌*◌, true, ℤ, None, Some, List, length, replicate}
use Rattle.std.specs.FinMap.{get}
use Rattle.std.specs.List.{AllByRecursion, AllZip, Contains}
use Rattle.h5_bytes.specs.Bytes.{part}
use Rattle.h5_model.specs.Format.Chunks.{Chunks, IsOffset}
use Rattle.h5_model.specs.Format.Fixed.{Fixed, IsFixed, fits}
use Rattle.h5_model.specs.Format.Plain.{cells_bytes}
use Rattle.h5_model.specs.Format.Reached.{Shape}
use Rattle.h5_model.specs.Format.Superblock.{k_values}
use Rattle.h5_space.specs.Moves.{Moves}
use Rattle.h5_space.specs.Space.{Space}
use Rattle.h5_chunks.specs.Told.{chunk_blocks_told, chunks_told}
use Rattle.h5_chunks.specs.Bushy.{IsBushy}
use Rattle.h5_chunks.specs.Edited.{AreChunksApart}
use Rattle.h5_layout.specs.HeldChunks.{AreRising}
use Rattle.h5_chunks.specs.Lists.{ChunkOffsets}
use Rattle.h5_layout.specs.Storage.{HasStoredMore}

-- the bytes of so many cells of the fill
abbrev pub cells_of_fill : Fixed → ℤ → ℕ → List ℕ
cells_of_fill t fill n = cells_bytes t (replicate n fill)

-- Cells of the fill are those of a chunk of this shape.
pub record FillsChunk (t : Fixed) (fill : ℤ) (n : ℕ) (shape : Shape) : Type 0 where
  pub sound : IsFixed t
  pub of_type : fits t fill ≡ true
  pub sized : n * t.size ≡ shape.bytes

-- Chunks at these offsets are whole ones of this shape, and none of them is stored.
pub record AreToStore (stored : Chunks) (shape : Shape) (new : ChunkOffsets) : Type 0 where
  pub rank : new.rank ≡ length shape.sizes
  pub bytes : new.bytes ≡ shape.bytes
  pub rising : AreRising new.offsets
  pub aligned : AllByRecursion (λ offsets. AllZip IsOffset shape.sizes offsets) new.offsets
  pub absent : AllByRecursion (λ offsets. get stored offsets ≡ None) new.offsets

-- Chunks at these offsets were stored in the tree at this root, each with these bytes. Those that were there have the bytes that they had.
-- The tree's blocks were moved, and no others, and all K values stay.
pub record HasFilledChunks (old new : Space) (shape : Shape) (root : ℕ) (bytes : List ℕ) (more : List (List ℕ)) : Type 0 where
  pub stand : AreChunksApart new shape root
  pub stored : HasStoredMore (chunks_told old.bytes shape root) (chunks_told new.bytes shape root) more
  pub filled : (offsets : List ℕ) (at : ℕ) → Contains more offsets → get (chunks_told new.bytes shape root) offsets ≡ Some at
      → part at shape.bytes new.bytes ≡ bytes
  pub kept : (offsets : List ℕ) (at : ℕ) → get (chunks_told old.bytes shape root) offsets ≡ Some at
      → (get (chunks_told new.bytes shape root) offsets ≡ Some at) × (part at shape.bytes new.bytes ≡ part at shape.bytes old.bytes)
  pub k : k_values new.bytes ≡ k_values old.bytes
  pub moves : Moves old new (chunk_blocks_told old.bytes shape root) (chunk_blocks_told new.bytes shape root)
  pub bushy : (low : ℕ) → IsBushy old.bytes shape root low → IsBushy new.bytes shape root low

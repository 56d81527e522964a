-- The chunks of an array that a selection meets and that are not stored (File Format Specification 3.0, sections III.A.1 and IV.A.2.i).
use Rattle.std.specs.Prelude.{◌≡◌, ◌↔◌, ◌*◌, ℕ, None, List, length}
use Rattle.std.specs.FinMap.{get}
use Rattle.std.specs.List.{Contains}
use Rattle.h5_model.specs.Tree.Places.{cells}
use Rattle.h5_model.specs.Views.Selection.{Slab, Within}
use Rattle.h5_model.specs.Format.Described.{Described}
pub use Rattle.h5_chunks.specs.Lists.{ChunkOffsets}
use Rattle.h5_layout.specs.Data.{stored_chunks}
use Rattle.h5_layout.specs.HeldChunks.{AreRising, IsChunkMet}

-- These are the chunks of the array, ascending, that hold a selected cell and are not stored. Each selected cell is one of the array.
pub record AreMissing (image : List ℕ) (a : Described) (chunk : List ℕ) (slab : Slab) (new : ChunkOffsets) : Type 0 where
  pub within : Within a.sizes slab
  pub rank : new.rank ≡ length chunk
  pub bytes : new.bytes ≡ cells chunk * (a.fixed).size
  pub rising : AreRising new.offsets
  pub each : (offsets : List ℕ) → Contains new.offsets offsets
      ↔ (IsChunkMet slab chunk offsets × (get (stored_chunks image a.fixed a.layout) offsets ≡ None))

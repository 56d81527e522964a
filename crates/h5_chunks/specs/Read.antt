-- The chunks of a dataset that were read (File Format Specification 3.0, section III.A.1).
use Rattle.std.specs.Prelude.{ℕ, ◌+◌, ◌≤◌, List, length}
use Rattle.h5_bytes.specs.Blocks.{cover, Inside}
use Rattle.h5_bytes.specs.declared.Block.{Block}
use Rattle.h5_model.specs.Format.Superblock.{chunk_k, highest_k}
use Rattle.h5_model.specs.Format.Chunks.{Chunks, HasChunks}
use Rattle.h5_model.specs.Format.Reached.{Shape}
use Rattle.h5_chunks.specs.Told.{chunk_blocks_told, chunks_told}

-- The chunks of this shape in the tree at this root stand in the image: those that are told, in the blocks that are told. K of their
-- nodes is one that an image may have.
pub record AreChunksRead (image : List ℕ) (shape : Shape) (root : ℕ) : Type 0 where
  pub k_some : 1 ≤ chunk_k image
  pub k_few : chunk_k image ≤ highest_k
  pub stored : HasChunks image (chunk_k image) shape.sizes shape.bytes root (chunks_told image shape root)
      (chunk_blocks_told image shape root)
  pub inside : Inside (length image) (chunk_blocks_told image shape root)

-- Chunks stand there, in blocks that lie in the image and share no byte with each other or with what was claimed.
pub record AreChunksReadable (image : List ℕ) (shape : Shape) (root : ℕ) (held : List Block) : Type 0 where
  pub chunks : Chunks
  pub blocks : List Block
  pub has : HasChunks image (chunk_k image) shape.sizes shape.bytes root chunks blocks
  pub inside : Inside (length image) blocks
  pub separate : (p : ℕ) → cover p held + cover p blocks ≤ 1

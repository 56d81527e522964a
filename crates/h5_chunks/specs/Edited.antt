-- The chunks of a dataset edited where they stand (File Format Specification 3.0, section III.A.1, node type 1).
use Rattle.std.specs.Prelude.{◌≡◌, ℕ, ◌+◌, ◌*◌, ◌^◌, ◌<◌, ◌≤◌, List, ◌∷◌, length}
use Rattle.std.specs.List.{AllByRecursion}
use Rattle.h5_bytes.specs.Blocks.{block}
use Rattle.h5_model.specs.Format.Limits.{highest_level}
use Rattle.h5_model.specs.Format.Chunks.{Chunks}
use Rattle.h5_model.specs.Format.Nodes.{node_at, node_length}
use Rattle.h5_model.specs.Format.Reached.{Shape, shape_kind}
use Rattle.h5_model.specs.Format.Superblock.{k_values, superblock_length}
use Rattle.h5_space.specs.Moves.{Moves}
use Rattle.h5_space.specs.Space.{Space}
use Rattle.h5_space.specs.Whole.{IsApart}
use Rattle.h5_btree.specs.Descent.{IsWayTo}
use Rattle.h5_btree.specs.Insertion.{IsFullWay}
use Rattle.h5_btree.specs.declared.way.Step.{Step}
use Rattle.h5_chunks.specs.Read.{AreChunksRead}
use Rattle.h5_chunks.specs.Told.{chunk_blocks_told, chunks_told}
use Rattle.h5_chunks.specs.Way.{chunk_behind}

-- The chunks were read, and their blocks share no byte with each other, with the superblock or with a free block.
pub record AreChunksApart (s : Space) (shape : Shape) (root : ℕ) : Type 0 where
  pub read : AreChunksRead s.bytes shape root
  pub apart : IsApart (block 0 (superblock_length s.bytes) ∷ chunk_blocks_told s.bytes shape root) s.free (length s.bytes)
  pub long : superblock_length s.bytes ≤ length s.bytes

-- The tree at this root has these chunks now. Its blocks were moved, and no others.
pub record HasChunksNow (old new : Space) (shape : Shape) (root : ℕ) (chunks : Chunks) : Type 0 where
  pub told : chunks_told new.bytes shape root ≡ chunks
  pub stand : AreChunksApart new shape root
  pub moves : Moves old new (chunk_blocks_told old.bytes shape root) (chunk_blocks_told new.bytes shape root)
  pub k : k_values new.bytes ≡ k_values old.bytes

-- ---- a chunk more

-- Chunks of this shape can be stored: there is a dimension, and the sizes and the bytes of a chunk fit the fields of a key.
pub record CanBeStored (shape : Shape) : Type 0 where
  pub ranked : 1 ≤ length shape.sizes
  pub short : AllByRecursion (λ size. size < 2 ^ 32) shape.sizes
  pub some : 1 ≤ shape.bytes
  pub small : shape.bytes < 2 ^ 32

-- how many bytes a node of their tree has
abbrev pub chunk_node_length : List ℕ → Shape → ℕ
chunk_node_length image shape = node_length (shape_kind image shape)

-- how many bytes more a chunk may take: its own, and a node for each level and one more
abbrev pub store_room : List ℕ → Shape → ℕ
store_room image shape = shape.bytes + 17 * chunk_node_length image shape

-- The tree has no room for a chunk at these offsets: the root is at level 15, and each node on the way to it has as many children as there
-- is room for.
pub record IsFullAt (image : List ℕ) (shape : Shape) (root : ℕ) (offsets : List ℕ) : Type 0 where
  pub way : List Step
  pub high : (node_at image (shape_kind image shape) root).level ≡ highest_level
  pub sought : IsWayTo (node_at image (shape_kind image shape)) (chunk_behind offsets) highest_level root way
  pub nodes : IsFullWay image (shape_kind image shape) way

-- A chunk that comes into a tree along a way (File Format Specification 3.0, section III.A.1).
use Rattle.std.specs.Prelude.{◌≡◌, ◌≢◌, ℕ, ◌+◌, ◌*◌, ◌<◌, ◌≤◌, Bool, true, if◌then◌else◌, List, ◌∷◌, length, map, slice_index_or, take}
use Rattle.std.specs.FinMap.{insert as with_chunk, values}
use Rattle.std.specs.List.{AllByRecursion, insert}
use Rattle.h5_bytes.specs.Blocks.{Keeps, block}
use Rattle.h5_bytes.specs.Bytes.{number_at}
use Rattle.h5_model.specs.Format.Nodes.{Kind, node_at}
use Rattle.h5_model.specs.Format.Reached.{Shape}
use Rattle.h5_model.specs.Format.Superblock.{k_values, superblock_length}
use Rattle.h5_space.specs.Moves.{Moves}
use Rattle.h5_space.specs.Space.{Space}
use Rattle.h5_space.specs.Whole.{IsApart}
use Rattle.h5_btree.specs.Held.{AreHeldKeys}
use Rattle.h5_btree.specs.Insertion.{IsChildPut, IsPutAlong, KeepsEntries, Owns}
use Rattle.h5_btree.specs.Removal.{EndsInTree}
use Rattle.h5_btree.specs.Widened.{IsWidened, ends_along}
use Rattle.h5_btree.specs.declared.way.Step.{Step}
use Rattle.h5_chunks.specs.Edited.{AreChunksApart}
use Rattle.h5_chunks.specs.Read.{AreChunksRead}
use Rattle.h5_chunks.specs.Told.{chunk_blocks_told, chunks_told}
use Rattle.h5_chunks.specs.Way.{chunk_behind}

-- The chunks were read, and this block shares no byte with theirs, with the superblock or with a free block.
pub record IsBlockBeside (s : Space) (shape : Shape) (root at : ℕ) : Type 0 where
  pub read : AreChunksRead s.bytes shape root
  pub apart : IsApart (block at shape.bytes ∷ block 0 (superblock_length s.bytes) ∷ chunk_blocks_told s.bytes shape root) s.free (length s.bytes)
  pub long : superblock_length s.bytes ≤ length s.bytes

-- The chunk in this block is one of the tree's now. Its bytes stay, and so do those of the others, and all K values.
pub record HasChunkPut (old new : Space) (shape : Shape) (root : ℕ) (offsets : List ℕ) (at : ℕ) : Type 0 where
  pub told : chunks_told new.bytes shape root ≡ with_chunk (chunks_told old.bytes shape root) offsets at
  pub stand : AreChunksApart new shape root
  pub moves : Moves old new (block at shape.bytes ∷ chunk_blocks_told old.bytes shape root) (chunk_blocks_told new.bytes shape root)
  pub k : k_values new.bytes ≡ k_values old.bytes
  pub kept : Keeps old.bytes new.bytes (block at shape.bytes ∷ map (λ (x : ℕ). block x shape.bytes) (values (chunks_told old.bytes shape root)))

-- The key stands behind the chunk with this key, and is that of none: it has no bytes and no filter, the offsets of the key, each with the
-- size of a chunk added, and 0 for the element.
pub record IsKeyBehind (sizes key behind : List ℕ) : Type 0 where
  pub long : length behind ≡ length key
  pub empty : number_at behind 0 8 ≡ 0
  pub offsets : (d : ℕ) → d < length sizes → number_at behind (8 + 8 * d) 8 ≡ number_at key (8 + 8 * d) 8 + slice_index_or sizes d 0
  pub element : number_at behind (8 + 8 * length sizes) 8 ≡ 0

-- What the widening of a way for the chunk at these offsets has done; the first key of the node of level 0 stays.
pub record IsWayWidened (s t : Space) (kind : Kind) (offsets : List ℕ) (way : List Step) (low high : List ℕ) : Type 0 where
  pub tree : (root height k : ℕ) (owned list : List ℕ) → EndsInTree s kind root height way owned list k → EndsInTree t kind root height way owned list k
  pub widened : IsWidened s t kind way (ends_along (node_at s.bytes kind) (chunk_behind offsets) 1 way) low high
  pub others : (root height k : ℕ) (owned list : List ℕ) → EndsInTree s kind root height way owned list k
      → (n : ℕ) → Owns owned n → AllByRecursion (λ (step : Step). n ≢ step.node) way → node_at t.bytes kind n ≡ node_at s.bytes kind n

-- the place in its node at which a child comes in, before the child of a step or behind it
abbrev pub place_beside : Bool → Step → ℕ
place_beside behind step = if behind then step.place + 1 else step.place

-- What the insertion of a chunk with this key along a way has done: any key may follow any.
pub record IsPutBeside (s t : Space) (kind : Kind) (way : List Step) (behind : Bool) (key : List ℕ) (chunk : ℕ) : Type 0 where
  pub keys : List ℕ
  pub first : take kind.key_length keys ≡ key
  pub held : (step : Step) (above : List Step) → way ≡ step ∷ above
      → AreHeldKeys s.bytes kind (λ key next. true) step.node above (place_beside behind step) keys
  pub put : (root level k : ℕ) (owned list : List ℕ) → EndsInTree s kind root level way owned list k
      → (height : ℕ) × (all : List ℕ) × IsChildPut s t kind root height (insert list (if behind then k + 1 else k) chunk) owned all
  pub along : (step : Step) (above : List Step) → way ≡ step ∷ above
      → IsPutAlong s.bytes t.bytes kind step.node above (place_beside behind step) keys chunk
  pub others : (root level k : ℕ) (owned list : List ℕ) → EndsInTree s kind root level way owned list k
      → (n : ℕ) → Owns owned n → AllByRecursion (λ (step : Step). n ≢ step.node) way → KeepsEntries s.bytes t.bytes kind n

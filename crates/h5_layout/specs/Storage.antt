-- Storage made for the cells of an array, where the array stands (File Format Specification 3.0, sections III.A.1 and IV.A.2.i).
use Rattle.std.specs.Prelude.{◌≡◌, ℕ, zero, suc, ◌+◌, ◌*◌, ◌<◌, ◌||◌, Bool, true, false, nat_le, None, Some, List, [], length, take, slice_index_or}
use Rattle.std.specs.FinMap.{empty, get}
use Rattle.std.specs.List.{Contains}
use Rattle.h5_model.specs.Edits.Refusal.{is_chunked}
use Rattle.h5_model.specs.Format.Chunks.{Chunks}
use Rattle.h5_model.specs.Format.Layout.{Layout, InChunks}
use Rattle.h5_model.specs.Format.Reached.{Shape, level_at, shape_kind}
use Rattle.h5_model.specs.Format.Superblock.{chunk_k, k_values}
use Rattle.h5_model.specs.Format.Described.{storage_of, Described}
use Rattle.h5_model.specs.Tree.Places.{cells}
use Rattle.h5_model.specs.Views.Selection.{Slab}
use Rattle.h5_space.specs.Space.{Space}
use Rattle.h5_header.specs.Listed.{Listed}
use Rattle.h5_chunks.specs.Bushy.{is_low_level}
use Rattle.h5_chunks.specs.Edited.{AreChunksApart, IsFullAt, chunk_node_length}
use Rattle.h5_chunks.specs.Told.{chunks_told}
use Rattle.h5_layout.specs.ArrayEdits.{IsArrayMoved, described_in}
use Rattle.h5_layout.specs.Data.{chunk_shape, dataset_told}
use Rattle.h5_layout.specs.Lacking.{lacks_cells, stored_all}
use Rattle.h5_layout.specs.Trimmed.{IsTrimmed}
use Rattle.h5_layout.specs.declared.lacking.Missing.{Missing}
use Rattle.h5_layout.specs.declared.lacking.Missing.TheVariants as missing

-- ---- how much it may take

-- so many chunks more: each with its bytes and a node for each level and one more; and a node for a root
abbrev pub chunks_room : List ℕ → Shape → ℕ → ℕ
chunks_room image shape n = n * (shape.bytes + 17 * chunk_node_length image shape) + chunk_node_length image shape

abbrev pub chunks_room_in : List ℕ → Described → ℕ → Layout → ℕ
chunks_room_in image a n (InChunks chunk root) = chunks_room image (chunk_shape a.fixed chunk) n
chunks_room_in image a n _ = 0

-- how many bytes the storage may take that is missing
abbrev pub storage_bytes : List ℕ → Described → Missing → ℕ
storage_bytes image a missing.Block = cells a.sizes * a.fixed.size
storage_bytes image a (missing.Chunks array new) = chunks_room_in image a (length new.offsets) a.layout

-- ---- whether a tree has no room

-- a root so low that its tree never gets too deep, or one that is to be made, at level 0
abbrev pub is_low_root : List ℕ → Described → Layout → Bool
is_low_root image a (InChunks chunk None) = is_low_level (chunk_k image) 0
is_low_root image a (InChunks chunk (Some root)) = is_low_level (chunk_k image) (level_at image (shape_kind image (chunk_shape a.fixed chunk)) root)
is_low_root image a _ = true

-- A refusal comes before any change: one chunk at most is missing, or the tree never gets too deep.
abbrev pub is_refused_first : List ℕ → Described → Missing → Bool
is_refused_first image a missing.Block = true
is_refused_first image a (missing.Chunks array new) = nat_le (length new.offsets) 1 || is_low_root image a a.layout

-- These chunks were stored, if there are any, besides those that were there.
pub record HasStoredMore (old new : Chunks) (more : List (List ℕ)) : Type 0 where
  pub added : (offsets : List ℕ) → Contains more offsets → (at : ℕ) × (get new offsets ≡ Some at)
  pub others : (offsets : List ℕ) → (Contains more offsets → ⊥) → get new offsets ≡ get old offsets

-- Chunk n of these finds no room in the tree at this root, once those before it are stored: the root is at level 15, and all on the way to
-- the chunk is full.
abbrev pub IsFullInTurn : List ℕ → Shape → ℕ → List (List ℕ) → ℕ → Type 0
IsFullInTurn image shape root all zero = (0 < length all) × IsFullAt image shape root (slice_index_or all 0 [])
IsFullInTurn image shape root all (suc n) =
    (suc n < length all) × ((now : Space) × AreChunksApart now shape root × (k_values now.bytes ≡ k_values image)
    × HasStoredMore (chunks_told image shape root) (chunks_told now.bytes shape root) (take (suc n) all)
    × IsFullAt now.bytes shape root (slice_index_or all (suc n) []))

-- the same where a tree is made for them; the first one finds room in any
abbrev pub IsFullInNewTree : List ℕ → Shape → List (List ℕ) → ℕ → Type 0
IsFullInNewTree image shape all zero = ⊥
IsFullInNewTree image shape all (suc n) =
    (suc n < length all) × ((now : Space) × (root : ℕ) × AreChunksApart now shape root × (k_values now.bytes ≡ k_values image)
    × HasStoredMore empty (chunks_told now.bytes shape root) (take (suc n) all)
    × IsFullAt now.bytes shape root (slice_index_or all (suc n) []))

-- so of the chunks that are missing of an array
abbrev pub IsDeepIn : List ℕ → Described → List (List ℕ) → ℕ → Layout → Type 0
IsDeepIn image a all n (InChunks chunk None) = IsFullInNewTree image (chunk_shape a.fixed chunk) all n
IsDeepIn image a all n (InChunks chunk (Some root)) = IsFullInTurn image (chunk_shape a.fixed chunk) root all n
IsDeepIn image a all n _ = ⊥

abbrev pub IsDeepFor : List ℕ → Described → Missing → ℕ → Type 0
IsDeepFor image a missing.Block n = ⊥
IsDeepFor image a (missing.Chunks array new) n = IsDeepIn image a new.offsets n a.layout

-- ---- what is made

-- The array stands in the image with the storage that was missing, in which each cell is the fill: all of its cells are as before, and
-- each that is selected is stored. Where it is in chunks and stored nothing outside its sizes, it stores nothing there now.
pub record IsStorageMade (old new : Space) (m : Listed) (slab : Slab) (missing : Missing) : Type 0 where
  pub moved : IsArrayMoved old new m m
  pub told : described_in new.bytes m ≡ record (described_in old.bytes m) { layout = (described_in new.bytes m).layout }
  pub dataset : dataset_told new.bytes (described_in new.bytes m) ≡ stored_all (dataset_told old.bytes (described_in old.bytes m))
  pub stored : lacks_cells new.bytes (described_in new.bytes m) slab ≡ false
  pub trimmed : is_chunked (storage_of (described_in old.bytes m).sizes (described_in old.bytes m).layout) ≡ true
      → IsTrimmed old.bytes (described_in old.bytes m) (described_in old.bytes m).sizes
      → IsTrimmed new.bytes (described_in new.bytes m) (described_in new.bytes m).sizes

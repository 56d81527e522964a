-- The cells of arrays that are to be written: those that an image has, and those of new arrays (File Format Specification 3.0,
-- sections IV.A.2.d and IV.A.2.i).
use Rattle.std.specs.Prelude.{◌≡◌, ℕ, ◌≤◌, ◌==◌, Option, None, false, List, length}
use Rattle.std.specs.FinMap.{empty}
use Rattle.std.specs.List.{list_any}
use Rattle.h5_layout.specs.HeldChunks.{held_cells, held_chunks}
use Rattle.h5_model.specs.Format.Layout.{Layout, InMessage, InBlock, InChunks, most_compact_bytes}
use Rattle.h5_model.specs.Format.Limits.{most_dimensions}
use Rattle.h5_model.specs.Format.Messages.{Message}
use Rattle.h5_model.specs.Format.Described.{Described, described_dataset}
use Rattle.h5_model.specs.Tree.Objects.{Dataset, Chunked}
use Rattle.h5_model.specs.Tree.Places.{cells}
use Rattle.h5_model.specs.declared.dataset.Store.{Store}
use Rattle.h5_model.specs.declared.dataset.Store.TheVariants as store
use Rattle.h5_query.specs.Data.{stored_chunks}
use Rattle.h5_query.specs.Stored.{AreFilled, AreStored}
use Rattle.h5_query.specs.Told.{array_told}
use Rattle.h5_repack.specs.Objects.Objects.{content_chunks}
use Rattle.h5_repack.specs.declared.blocks.cells.Cells.{Cells}
use Rattle.h5_repack.specs.declared.blocks.cells.Cells.TheVariants.{Unset, Filled, Stored, Chunks}
use Rattle.h5_repack.specs.declared.objects.object.NewContent.{NewContent}
use Rattle.h5_edit.specs.Fits.Laws.{AreBytes}

-- ---- of an image

abbrev pub IsUnchunkedLayout : Layout → Type 0
IsUnchunkedLayout (InMessage bytes) = Unit {0}
IsUnchunkedLayout (InBlock b) = Unit {0}
IsUnchunkedLayout (InChunks sizes root) = ⊥

-- these are the cells of the array as they stand in the image
abbrev pub AreCellsKept : List ℕ → Described → Cells → Type 0
AreCellsKept image a Unset = IsUnchunkedLayout a.layout × AreFilled (described_dataset image a empty)
AreCellsKept image a Filled = ⊥
AreCellsKept image a (Stored bytes) = IsUnchunkedLayout a.layout × AreBytes bytes.now × AreStored (described_dataset image a empty) bytes.now
AreCellsKept image a (Chunks held) =
    (chunk : List ℕ) × (root : Option ℕ) × (a.layout ≡ InChunks chunk root) × (length chunk ≡ length a.sizes) × (held ≡ held_cells image a chunk a.sizes)

-- of an array in chunks those are handed over that hold a cell of its extent
abbrev pub AreChunksKept : List ℕ → List Message → Dataset → NewContent → Type 0
AreChunksKept image ms d content = (chunk : List ℕ) → d.storage ≡ Chunked chunk
    → content_chunks content ≡ held_chunks d.sizes (stored_chunks image (array_told ms).fixed (array_told ms).layout)

-- ---- of a new array

-- chunk sizes that can be named
abbrev pub HasChunkSizes : Store (List ℕ) → Type 0
HasChunkSizes (store.Chunked chunk) = (length chunk ≤ most_dimensions) × (list_any (λ n. n == 0) chunk ≡ false)
HasChunkSizes _ = Unit {0}

-- a layout of cells none of which stands anywhere yet; a message with room for any compact cells
abbrev pub IsNewLayout : Store (List ℕ) → Layout → Type 0
IsNewLayout store.Compact (InMessage bytes) = length bytes ≡ most_compact_bytes
IsNewLayout store.Contiguous (InBlock b) = b ≡ None
IsNewLayout (store.Chunked chunk) (InChunks sizes root) = (sizes ≡ chunk) × (root ≡ None)
IsNewLayout _ _ = ⊥

-- how many cells of it stand in a block of their own: those of a contiguous array
abbrev pub new_count : Described → ℕ
new_count a = by_layout a.layout where
  by_layout : Layout → ℕ
  by_layout (InMessage bytes) = 0
  by_layout (InBlock b) = cells a.sizes
  by_layout (InChunks sizes root) = 0

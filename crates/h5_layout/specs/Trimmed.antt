-- Arrays in chunks that store nothing outside an extent (File Format Specification 3.0, section III.A.1).
use Rattle.std.specs.Prelude.{◌≡◌, ℕ, ℤ, ◌*◌, false, true, Option, Some, List, length}
use Rattle.std.specs.FinMap.{get}
use Rattle.h5_model.specs.Format.Cells.{cell_of}
use Rattle.h5_model.specs.Format.Layout.{InChunks}
use Rattle.h5_model.specs.Format.Plain.{cells_bytes}
use Rattle.h5_model.specs.Format.Described.{Described}
use Rattle.h5_model.specs.Tree.Places.{IsInside, cells, is_inside}
use Rattle.h5_space.specs.Space.{Space}
use Rattle.h5_header.specs.Listed.{Listed, messages_in}
use Rattle.h5_chunks.specs.Lists.{ChunkOffsets, offsets_across, offsets_outside}
use Rattle.h5_layout.specs.ArrayChunks.{ArrayChunks}
use Rattle.h5_layout.specs.ArrayEdits.{IsArrayMoved, described_in}
use Rattle.h5_layout.specs.Data.{stored_chunks}
use Rattle.h5_layout.specs.Kept.{corner_values, slices_kept}
use Rattle.h5_layout.specs.declared.trimmed.Outside.{Outside}

-- the cell at any index of the grid of chunks, inside the sizes of the array or not: as its chunk has it, or the fill
abbrev pub grid_cell : List ℕ → Described → List ℕ → ℤ
grid_cell image a index = cell_of image a.fixed a.fill a.sizes a.layout (stored_chunks image a.fixed a.layout) index

-- Each stored chunk of the array holds a cell of an extent of these sizes, and each cell outside of them is the fill.
pub record IsTrimmed (image : List ℕ) (a : Described) (sizes : List ℕ) : Type 0 where
  pub held : (offsets : List ℕ) (at : ℕ) → get (stored_chunks image a.fixed a.layout) offsets ≡ Some at → IsInside sizes offsets
  pub filled : (index : List ℕ) → length index ≡ length sizes → is_inside sizes index ≡ false → grid_cell image a index ≡ a.fill

-- ---- what is stored outside

-- chunks of an array, of these sizes, at these offsets
abbrev pub chunk_list : Described → List ℕ → List (List ℕ) → ChunkOffsets
chunk_list a chunk offsets = record { rank = length chunk; bytes = cells chunk * (a.fixed).size; offsets = offsets }

-- these are the chunks of the array, ascending, that hold no cell of an extent of these sizes
abbrev pub AreLost : List ℕ → Described → List ℕ → ChunkOffsets → Type 0
AreLost image a sizes lost = (chunk : List ℕ) (root : Option ℕ) → a.layout ≡ InChunks chunk root
    → lost ≡ chunk_list a chunk (offsets_outside sizes (stored_chunks image a.fixed a.layout))

-- and these those that hold cells on both sides of its edge
abbrev pub AreEdges : List ℕ → Described → List ℕ → ChunkOffsets → Type 0
AreEdges image a sizes edge = (chunk : List ℕ) (root : Option ℕ) → a.layout ≡ InChunks chunk root
    → edge ≡ chunk_list a chunk (offsets_across sizes chunk (stored_chunks image a.fixed a.layout))

-- and this is all that the array stores outside of the extent
abbrev pub AreOutside : List ℕ → Described → List ℕ → Outside → Type 0
AreOutside image a sizes outside = AreLost image a sizes outside.lost × AreEdges image a sizes outside.edge

-- the bytes of a chunk at these offsets whose cells outside an extent are the fill
abbrev pub trimmed_bytes : ArrayChunks → List ℕ → List ℕ → List ℕ → List ℕ
trimmed_bytes k sizes offsets bytes =
    cells_bytes k.fixed (corner_values k.fixed k.fill k.chunk (slices_kept sizes k.chunk offsets) bytes)

-- ---- what is left

-- The header says what it said, and the array stores nothing outside an extent of these sizes. Each cell inside is as before.
pub record IsTrimmedTo (old new : Space) (m : Listed) (sizes : List ℕ) : Type 0 where
  pub moved : IsArrayMoved old new m m
  pub said : messages_in new.bytes m.list ≡ messages_in old.bytes m.list
  pub told : described_in new.bytes m ≡ described_in old.bytes m
  pub trimmed : IsTrimmed new.bytes (described_in new.bytes m) sizes
  pub kept : (index : List ℕ) → length index ≡ length sizes → is_inside sizes index ≡ true
      → grid_cell new.bytes (described_in new.bytes m) index ≡ grid_cell old.bytes (described_in old.bytes m) index

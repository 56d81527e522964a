-- The chunks of an array that hold a cell of an extent: which these are, and their cells (File Format Specification 3.0, sections III.A.1 and
-- IV.A.2.i).
use Rattle.std.specs.Prelude.{◌≡◌, ℕ, ℤ, List, [], ◌∷◌, map}
use Rattle.std.specs.FinMap.{entries, retain_keys}
use Rattle.std.specs.List.{AllByRecursion, AllZip, Contains, range_with_len}
use Rattle.h5_model.specs.Edits.Applied.{cell_or_fill, with_sizes}
use Rattle.h5_model.specs.Format.Chunks.{Chunks, IsOffset}
use Rattle.h5_model.specs.Format.Fixed.{Fixed}
use Rattle.h5_model.specs.Format.Links.{Before}
use Rattle.h5_model.specs.Format.Described.{Described}
use Rattle.h5_model.specs.Scripts.Reading.{cell_at}
use Rattle.h5_model.specs.Tree.Grid.{corner_of}
use Rattle.h5_model.specs.Tree.Objects.{Dataset}
use Rattle.h5_model.specs.Tree.Places.{IsInside, cells, index_of, is_inside}
use Rattle.h5_model.specs.Views.Selection.{Selected, Slab}
use Rattle.h5_chunks.specs.Keys.{index_from}
use Rattle.h5_layout.specs.Data.{dataset_told, stored_chunks}

-- ---- which chunks

-- the offsets of a chunk that holds a cell of an extent of these sizes: its first one
pub record IsHeldChunk (sizes chunk offsets : List ℕ) : Type 0 where
  pub aligned : AllZip IsOffset chunk offsets
  pub inside : IsInside sizes offsets

-- each of these is before the next
abbrev pub AreRising : List (List ℕ) → Type 0
AreRising [] = Unit {0}
AreRising (offsets ∷ []) = Unit {0}
AreRising (offsets ∷ next ∷ others) = Before offsets next × AreRising (next ∷ others)

-- The stored chunks of the array have these offsets, ascending. Each cell in another chunk reads the fill.
pub record AreStoredChunks (d : Dataset) (chunk : List ℕ) (stored : List (List ℕ)) : Type 0 where
  pub rising : AreRising stored
  pub held : AllByRecursion (IsHeldChunk d.sizes chunk) stored
  pub unset : (index : List ℕ) → IsInside d.sizes index → (Contains stored (corner_of chunk index) → ⊥) → cell_at d index ≡ d.fill

-- of these chunks those that hold a cell of an extent of these sizes: their offsets, ascending
abbrev pub held_chunks : List ℕ → Chunks → List (List ℕ)
held_chunks sizes chunks = map (λ e. e.0) (entries (retain_keys chunks (is_inside sizes)))

-- the offsets of a chunk that holds a selected cell
abbrev pub IsChunkMet : Slab → List ℕ → List ℕ → Type 0
IsChunkMet slab chunk offsets = (index : List ℕ) × Selected slab index × (corner_of chunk index ≡ offsets)

-- ---- their cells

-- the cells of the chunk at these offsets, in row-major order; outside the extent each is the fill
abbrev pub chunk_values : Dataset → List ℕ → List ℕ → List ℤ
chunk_values d chunk offsets =
    map (λ place. cell_or_fill d (index_from offsets (index_of chunk place))) (range_with_len 0 (cells chunk))

-- ---- chunks that are handed on

-- the type of their cells, their sizes, and of each its offsets and its cells
pub record HeldCells : Type 0 where
  pub fixed : Fixed
  pub chunk : List ℕ
  pub parts : List (List ℕ × List ℤ)

-- the chunks of the array as it is once it has these sizes
abbrev pub held_cells : List ℕ → Described → List ℕ → List ℕ → HeldCells
held_cells image a chunk sizes = record {
  fixed = a.fixed;
  chunk = chunk;
  parts = map (λ offsets. (offsets, chunk_values (with_sizes sizes (dataset_told image a)) chunk offsets)) (held_chunks sizes (stored_chunks image a.fixed a.layout));
}

-- Cells that are to be written and have no storage yet: contiguous ones without data, and those of a chunk that is not stored (File
-- Format Specification 3.0, sections III.A.1 and IV.A.2.i).
use Rattle.std.specs.Prelude.{◌≡◌, ℕ, Bool, false, true, nat_lt, not, Option, Some, None, List}
use Rattle.std.specs.List.{list_any}
use Rattle.h5_model.specs.Format.Layout.{Layout, InBlock, InChunks}
use Rattle.h5_model.specs.Format.Described.{Described}
use Rattle.h5_model.specs.Tree.Objects.{Dataset, Storage, Compact, Contiguous, Chunked}
use Rattle.h5_model.specs.Tree.Places.{cells}
use Rattle.h5_model.specs.Views.Selection.{Slab, selection_of}
use Rattle.h5_layout.specs.ArrayChunks.{IsInChunksOf}
use Rattle.h5_layout.specs.NewChunks.{AreMissing}
use Rattle.h5_layout.specs.Standing.{is_stored_cell}
use Rattle.h5_layout.specs.declared.lacking.Missing.{Missing}
use Rattle.h5_layout.specs.declared.lacking.Missing.TheVariants as missing

-- some selected cell of the array is stored nowhere in the image
abbrev pub lacks_cells : List ℕ → Described → Slab → Bool
lacks_cells image a slab = list_any (λ place. not (is_stored_cell image a place)) (selection_of a.sizes slab)

-- by a layout: the block of the cells; or the chunks that the selection meets and that are not stored, of the array as it is described
abbrev pub IsMissingIn : List ℕ → Described → Slab → Missing → Layout → Type 0
IsMissingIn image a slab missing.Block (InBlock b) = b ≡ None
IsMissingIn image a slab (missing.Chunks array new) (InChunks chunk root) = AreMissing image a chunk slab new × IsInChunksOf a array
IsMissingIn image a slab _ _ = ⊥

-- so much is missing of an array of the image
abbrev pub IsMissing : List ℕ → Described → Slab → Missing → Type 0
IsMissing image a slab missing = IsMissingIn image a slab missing a.layout

-- or nothing: each selected cell is stored
abbrev pub IsFound : List ℕ → Described → Slab → Option Missing → Type 0
IsFound image a slab None = lacks_cells image a slab ≡ false
IsFound image a slab (Some missing) = (lacks_cells image a slab ≡ true) × IsMissing image a slab missing

-- contiguous cells are stored, if there are any; which chunks are, a tree does not tell
abbrev pub stored_storage : List ℕ → Storage → Storage
stored_storage sizes Compact = Compact
stored_storage sizes (Contiguous stored) = Contiguous (nat_lt 0 (cells sizes))
stored_storage sizes (Chunked chunk) = Chunked chunk

-- the array with storage for its cells
abbrev pub stored_all : Dataset → Dataset
stored_all d = record d { storage = stored_storage d.sizes d.storage }

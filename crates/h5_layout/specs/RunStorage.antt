-- Where the cells of a run of an array stand one behind another, or the one block or chunk that is missing for them (File Format
-- Specification 3.0, sections III.A.1 and IV.A.2.i).
use Rattle.std.specs.Prelude.{◌≡◌, ℕ, ◌+◌, ◌*◌, ◌^◌, ◌<◌, ◌≤◌, Some, List, [], length, slice_index_or}
use Rattle.std.specs.FinMap.{get}
use Rattle.std.specs.List.{range_with_len}
use Rattle.h5_bytes.specs.declared.Block.{Block}
use Rattle.h5_model.specs.Format.Layout.{Layout, InBlock, InChunks, InMessage}
use Rattle.h5_model.specs.Format.Described.{storage_of, Described}
use Rattle.h5_model.specs.Views.Selection.{Slab, Within, selection_of}
use Rattle.h5_shape.specs.declared.runs.CellRun.{CellRun}
use Rattle.h5_layout.specs.ChunkCells.{left_in_row}
use Rattle.h5_layout.specs.Data.{stored_chunks}
use Rattle.h5_layout.specs.Lacking.{IsFound, stored_storage}
use Rattle.h5_layout.specs.Standing.{IsStandingAt}
use Rattle.h5_layout.specs.declared.lacking.Missing.{Missing}
use Rattle.h5_layout.specs.declared.lacking.Missing.TheVariants as missing
use Rattle.h5_layout.specs.declared.stored_run.RunStorage.{RunStorage}
use Rattle.h5_layout.specs.declared.stored_run.RunStorage.TheVariants as storage

-- What was missing of an array stands in the image: the block, or the first of the chunks, at this address.
abbrev pub IsMadeAt : List ℕ → Described → Missing → ℕ → Type 0
IsMadeAt image a missing.Block at = (b : Block) × (a.layout ≡ InBlock (Some b)) × (b.at ≡ at)
IsMadeAt image a (missing.Chunks array new) at = get (stored_chunks image a.fixed a.layout) (slice_index_or new.offsets 0 []) ≡ Some at

-- So much is missing for the cells of a run, whatever selects them. Once it is made, in an image where the array has the same type and
-- sizes, and is stored, they stand one behind another in it, the first at this place, in cells.
pub record IsRunMissing (image : List ℕ) (a : Described) (run : CellRun) (missing : Missing) (inner : ℕ) : Type 0 where
  pub found : (slab : Slab) → length slab ≡ length a.sizes → Within a.sizes slab → selection_of a.sizes slab ≡ range_with_len run.place run.length
      → IsFound image a slab (Some missing)
  pub small : inner * a.fixed.size ≤ 2 ^ 43
  pub made : (now : List ℕ) (b : Described) (at : ℕ) → b.fixed ≡ a.fixed → b.sizes ≡ a.sizes
      → storage_of b.sizes b.layout ≡ stored_storage a.sizes (storage_of a.sizes a.layout) → IsMadeAt now b missing at
      → IsStandingAt now b run.place run.length (at + inner * a.fixed.size)

-- Cells of which neither is said: those of a header, and more than are left in a row of a chunk.
abbrev pub IsParted : Described → CellRun → Layout → Type 0
IsParted a run (InMessage bytes) = Unit {0}
IsParted a run (InBlock b) = ⊥
IsParted a run (InChunks chunk root) = left_in_row a.sizes chunk run.place < run.length

-- where the cells of a run stand, or what is missing for them; or neither is said
abbrev pub HasRunStorage : List ℕ → Described → CellRun → RunStorage → Type 0
HasRunStorage image a run (storage.Standing at) = IsStandingAt image a run.place run.length at
HasRunStorage image a run (storage.Missing missing inner) = IsRunMissing image a run missing inner
HasRunStorage image a run storage.Parted = Unit {0}

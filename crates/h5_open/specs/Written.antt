-- Cells of an array that are written where they stand (File Format Specification 3.0, section IV.A.2.i).
use Rattle.std.specs.Prelude.{◌≡◌, ℕ, ◌+◌, ◌<◌, ◌≤◌, ℤ, true, Some, List, [], ◌∷◌, length}
use Rattle.std.specs.FinMap.{get}
use Rattle.std.specs.List.{AllByRecursion, Contains, list_all, range_with_len}
use Rattle.h5_model.specs.Format.Limits.{most_cells}
use Rattle.h5_bytes.specs.Blocks.{cover}
use Rattle.h5_bytes.specs.Bytes.{byte_at}
use Rattle.h5_bytes.specs.declared.Block.{Block}
use Rattle.h5_model.specs.Edits.Applied.{with_cells, with_dataset}
use Rattle.h5_model.specs.Format.Fixed.{fits}
use Rattle.h5_model.specs.Format.Messages.{Message, HasMessages}
use Rattle.h5_model.specs.Format.Superblock.{k_values}
use Rattle.h5_model.specs.Format.Described.{Described, HasArray}
use Rattle.h5_model.specs.Tree.Objects.{Dataset, dataset_of, with_object}
use Rattle.h5_model.specs.Tree.Places.{cells}
use Rattle.h5_layout.specs.Data.{dataset_told}
use Rattle.h5_layout.specs.Standing.{IsStandingAt, cell_blocks, is_stored_cell}
use Rattle.h5_shape.specs.Runs.{places_in}
use Rattle.h5_shape.specs.declared.runs.CellRun.{CellRun}
use Rattle.h5_open.specs.declared.opened.write.StandingCells.{StandingCells}
use Rattle.h5_open.specs.ChangedInPlace.{IsChangedInPlace}
use Rattle.h5_open.specs.Opened.Sound.{IsWholeFile}
use Rattle.h5_open.specs.Opened.State.{FileState}

-- the array with these values in the cells at these places
abbrev pub with_places : List ℕ → List ℤ → Dataset → Dataset
with_places places values d = record d { cells = with_cells d.cells places values }

-- the array with values in its cells from this place on, in row-major order
abbrev pub with_run : ℕ → List ℤ → Dataset → Dataset
with_run place values = with_places (range_with_len place (length values)) values

-- the object of this number is the array that its header's messages describe
pub record IsArrayThere (f : FileState) (number : ℕ) (a : Described) : Type 0 where
  pub header : ℕ
  pub at : get f.table number ≡ Some header
  pub messages : List Message
  pub blocks : List Block
  pub listed : HasMessages f.image header messages blocks
  pub described : HasArray messages a
  pub told : dataset_of f.tree number ≡ Some (dataset_told f.image a)

-- the cell at this place of the array is stored in the image
abbrev pub IsCellStored : FileState → ℕ → ℕ → Type 0
IsCellStored f number place = (a : Described) → IsArrayThere f number a → is_stored_cell f.image a place ≡ true

-- the object of this number is an array, which has a cell for each of these values from this place on; the cells are stored, and the
-- values are of its type
pub record IsStoredRun (f : FileState) (number place : ℕ) (values : List ℤ) (d : Dataset) : Type 0 where
  pub array : dataset_of f.tree number ≡ Some d
  pub stored : (k : ℕ) → k < length values → IsCellStored f number (place + k)
  pub room : place + length values ≤ cells d.sizes
  pub of_type : list_all (fits d.fixed) values ≡ true

-- the array has a cell for each of these values in the runs; the cells are stored, and the values are of its type
pub record AreRunsStored (f : FileState) (number : ℕ) (runs : List CellRun) (values : List ℤ) (d : Dataset) : Type 0 where
  pub array : dataset_of f.tree number ≡ Some d
  pub few : cells d.sizes ≤ most_cells
  pub some : AllByRecursion (λ (r : CellRun). 0 < r.length) runs
  pub inside : AllByRecursion (λ place. place < cells d.sizes) (places_in runs)
  pub counted : length values ≡ length (places_in runs)
  pub of_type : list_all (fits d.fixed) values ≡ true
  pub stored : (place : ℕ) → Contains (places_in runs) place → IsCellStored f number place

-- so many cells of the array of this number stand one behind another, as these say
abbrev pub AreStanding : FileState → ℕ → StandingCells → ℕ → Type 0
AreStanding f number cells n = (a : Described) → IsArrayThere f number a → (cells.fixed ≡ a.fixed) × IsStandingAt f.image a cells.place n cells.at

-- there are as many bytes, and all outside of these blocks are as before
pub record IsKeptOutside (old new : List ℕ) (blocks : List Block) : Type 0 where
  pub long : length new ≡ length old
  pub kept : (p : ℕ) → cover p blocks ≡ 0 → byte_at new p ≡ byte_at old p

-- of the opened image the array of this number alone is another, which has these values in the cells at these places
pub record AreWrittenAt (old : FileState) (number : ℕ) (places : List ℕ) (values : List ℤ) (new : FileState) : Type 0 where
  pub changed : new ≡ record old { image = new.image; tree = with_object old.tree number (with_dataset (with_places places values)) }
  pub k : k_values new.image ≡ k_values old.image
  pub whole : IsWholeFile old → IsWholeFile new
  pub in_place : IsChangedInPlace old new (with_object old.tree number (with_dataset (with_places places values))) old.next (number ∷ []) 0
  pub stored : (p : ℕ) → IsCellStored old number p → IsCellStored new number p
  pub local : (a : Described) (there : IsArrayThere old number a)
      → IsKeptOutside old.image new.image (cell_blocks old.image a there.blocks)
  pub again : (a : Described) (there : IsArrayThere old number a)
      → (b : Described) × (now : IsArrayThere new number b) × (cell_blocks new.image b now.blocks ≡ cell_blocks old.image a there.blocks)

-- and which has them in its cells from this place on
abbrev pub AreCellsWritten : FileState → ℕ → ℕ → List ℤ → FileState → Type 0
AreCellsWritten old number place values = AreWrittenAt old number (range_with_len place (length values)) values

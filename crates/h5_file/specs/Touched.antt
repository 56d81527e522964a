-- What an edit touches of an array, and the boxes of its grid that it and a view both meet (File Format Specification 3.0, section III.A.1,
-- chunked raw data).
use Rattle.std.specs.Prelude.{◌≡◌, ℕ, ◌^◌, ◌<◌, ◌≤◌, Bool, true, Some, None, List, [], length, replicate}
use Rattle.h5_model.specs.Edits.Refusal.{is_chunked, refusal_of}
use Rattle.h5_model.specs.Format.Limits.{most_cells}
use Rattle.h5_model.specs.Tree.Objects.{Tree, Dataset}
use Rattle.h5_model.specs.Tree.Paths.{dataset_at}
use Rattle.h5_model.specs.Tree.Places.{cells}
use Rattle.h5_model.specs.Tree.Sound.{IsDataset}
use Rattle.h5_model.specs.Views.Selection.{Slab, Within, axes_of}
use Rattle.h5_model.specs.Views.Shown.{box_of, refreshing_path}
use Rattle.h5_model.specs.declared.edits.Edit.{Edit}
use Rattle.h5_model.specs.declared.edits.Edit.TheVariants.{Write, Resize}
use Rattle.h5_shape.specs.MetFirsts.{is_lost_at, is_written_at, met_firsts}
use Rattle.h5_file.specs.declared.touched.Touched.{Touched}
use Rattle.h5_file.specs.declared.touched.Touched.TheVariants.{Written, Lost}

-- the cells that a write selects, or those that a resize of the array at the path may lose
abbrev pub IsTouching : Tree → Edit → Touched → Type 0
IsTouching tree (Write path hyper values) (Written slab) = slab ≡ axes_of hyper
IsTouching tree (Resize path dims) (Lost sizes kept) =
    (kept ≡ dims) × (cells sizes ≤ most_cells) × (d : Dataset) × (dataset_at tree path ≡ Some d) × (sizes ≡ d.sizes)
IsTouching _ _ _ = ⊥

-- no cell is touched, or a rule refuses the edit
abbrev pub IsUntouching : Tree → ℕ → Edit → Type 0
IsUntouching tree next edit = refusal_of tree next edit ≡ None → refreshing_path edit ≡ []

-- of an array as an edit leaves it this was touched
abbrev pub IsTouchOf : Dataset → Touched → Type 0
IsTouchOf d (Written slab) = (length slab ≡ length d.sizes) × Within d.sizes slab
IsTouchOf d (Lost sizes kept) = (length sizes ≡ length d.sizes) × (length kept ≡ length d.sizes)

-- its sizes before
abbrev pub sizes_before : Dataset → Touched → List ℕ
sizes_before d (Written slab) = d.sizes
sizes_before d (Lost sizes kept) = sizes

-- whether the cell at an index was touched, of an array of these sizes
abbrev pub is_touched_in : Touched → List ℕ → List ℕ → Bool
is_touched_in (Written slab) sizes = is_written_at sizes slab
is_touched_in (Lost old kept) sizes = is_lost_at sizes kept

-- the boxes of an array in chunks have cells
abbrev pub HasBoxes : Dataset → Type 0
HasBoxes d = is_chunked d.storage ≡ true → 0 < cells (box_of d)

-- the first indexes of the boxes that are met
abbrev pub met_with : Dataset → Touched → Slab → List (List ℕ)
met_with d touched slab = met_firsts (sizes_before d touched) (box_of d) (is_touched_in touched (sizes_before d touched)) slab

-- the sizes of a box of the array's grid
abbrev pub HasGrid : Dataset → Touched → List ℕ → Type 0
HasGrid d touched grid = IsTouchOf d touched × (grid ≡ box_of d) × (length grid ≡ length d.sizes)

-- the sizes of a box of the array's grid, and a selection of it whose indexes are below 2^64
pub record IsGridOf (d : Dataset) (touched : Touched) (grid : List ℕ) (slab : Slab) : Type 0 where
  pub touch : IsTouchOf d touched
  pub few : cells (sizes_before d touched) ≤ most_cells
  pub grid_is : grid ≡ box_of d
  pub boxed : length grid ≡ length d.sizes
  pub ranked : length slab ≡ length d.sizes
  pub top : Within (replicate (length slab) (2 ^ 64)) slab

-- an array whose views are to follow it
pub record IsArrayLeft (d : Dataset) (touched : Touched) (grid : List ℕ) : Type 0 where
  pub sound : IsDataset d
  pub few : cells (sizes_before d touched) ≤ most_cells
  pub touch : IsTouchOf d touched
  pub grid_is : grid ≡ box_of d

-- The selected cells of the inner dimensions as one run of consecutive places (HDF5 dataspace reference, H5Sselect_hyperslab).
use Rattle.std.specs.Prelude.{◌≡◌, ℕ, ◌+◌, ◌==◌, ◌<◌, ◌≤◌, ◌&&◌, ◌||◌, Bool, true, false, not, List}
use Rattle.std.specs.List.{list_any}
use Rattle.h5_model.specs.Tree.Places.{cells}
use Rattle.h5_model.specs.declared.Axis.{Axis}
use Rattle.h5_model.specs.Views.Selection.{Slab, fits_along, fits_all, has_no_cell, has_no_stride, is_run, overlaps, selects_none}
use Rattle.h5_shape.specs.declared.single_run.InnerRun.{InnerRun}
use Rattle.h5_shape.specs.SpacedPlaces.{first_place, selected_from, spaced_places}

-- an axis has a stride, selects a number, none twice, and all of them below the size
abbrev pub selects_along : ℕ → Axis → Bool
selects_along size a = not (has_no_stride a || (overlaps a || has_no_cell a)) && fits_along size a

-- the same of each axis and its size
pub record IsSelecting (sizes : List ℕ) (slab : Slab) : Type 0 where
  pub strides : list_any has_no_stride slab ≡ false
  pub apart : list_any overlaps slab ≡ false
  pub some : selects_none slab ≡ false
  pub fits : fits_all sizes slab ≡ true

-- Runs of this length, one for each number that the axis selects, so many cells apart from one number to the next: each begins where
-- the one before it ends, or there is just one.
abbrev pub follow_on : Axis → ℕ → ℕ → Bool
follow_on a run step = a.count == 1 && a.block == 1 || run == step && (a.count == 1 || a.stride == a.block)

-- the cells that these axes select are this run, wherever the first of them stands
pub record IsInnerRun (sizes : List ℕ) (slab : Slab) (run : InnerRun) : Type 0 where
  pub selecting : IsSelecting sizes slab
  pub start : run.place ≡ first_place sizes slab
  pub places : (place : ℕ) → selected_from sizes slab place ≡ spaced_places run.length 1 place
  pub some : 0 < run.length
  pub room : run.place + run.length ≤ run.cells
  pub cells : run.cells ≡ cells sizes

-- the axes select no cell within the sizes, or cells that are no run
abbrev pub HasNoInnerRun : List ℕ → Slab → Type 0
HasNoInnerRun sizes slab = IsSelecting sizes slab → (place : ℕ) → is_run (selected_from sizes slab place) ≡ false

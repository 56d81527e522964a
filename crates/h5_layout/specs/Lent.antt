-- The cells of an array that can be lent from the image (File Format Specification 3.0, section IV.A.2.i).
use Rattle.std.specs.Prelude.{◌≡◌, ℕ, ℤ, ◌*◌, ◌<◌, ◌≤◌, Ok, true, List, length, slice_index_or}
use Rattle.h5_model.specs.Format.Cells.{value_in}
use Rattle.h5_model.specs.Format.Plain.{cells_bytes}
use Rattle.h5_model.specs.Scripts.Answers.{stored_values}
use Rattle.h5_model.specs.Tree.Objects.{Dataset}
use Rattle.h5_model.specs.Tree.Places.{cells}
use Rattle.h5_model.specs.Views.Selection.{Slab, Within, axes_of}
use Rattle.h5_model.specs.Views.Shown.{is_in_line, is_lent, selected_values}
use Rattle.h5_model.specs.declared.hyperslab.Hyper.{Hyper}
use Rattle.h5_shape.specs.Slab.{slab_of}

-- its cells stand in these bytes, one behind the other
pub record AreInLine (d : Dataset) (bytes : List ℕ) : Type 0 where
  pub stored : 0 < cells d.sizes → is_in_line d.storage ≡ true
  pub room : cells d.sizes * d.fixed.size ≤ length bytes
  pub values : (fill : ℤ) (place : ℕ) → place < cells d.sizes → slice_index_or d.cells place fill ≡ value_in d.fixed bytes place

-- the selected cells can be lent, and these are their bytes
pub record IsLent (d : Dataset) (slab : Slab) (bytes : List ℕ) : Type 0 where
  pub allowed : is_lent d slab ≡ true
  pub long : length bytes ≡ length (selected_values d slab) * d.fixed.size
  pub values : stored_values d.fixed bytes ≡ selected_values d slab

-- the lists select cells within the array, and these are the bytes of the selected cells
pub record IsStandingSelection (d : Dataset) (hyper : Hyper) (bytes : List ℕ) : Type 0 where
  pub selection : slab_of hyper ≡ Ok (axes_of hyper)
  pub rank : length (axes_of hyper) ≡ length d.sizes
  pub within : Within d.sizes (axes_of hyper)
  pub same : bytes ≡ cells_bytes d.fixed (selected_values d (axes_of hyper))

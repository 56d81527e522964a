-- Hyperslabs that are one run of consecutive cells (HDF5 dataspace reference, H5Sselect_hyperslab).
use Rattle.std.specs.Prelude.{◌≡◌, ℕ, List, [], ◌∷◌, length, Ok}
use Rattle.h5_model.specs.declared.Hyper.{Hyper}
use Rattle.h5_model.specs.Views.Selection.{Within, axes_of, selection_of}
use Rattle.h5_shape.specs.declared.runs.CellRun.{CellRun}
use Rattle.h5_shape.specs.Runs.{cell_runs}
use Rattle.h5_shape.specs.Slab.{slab_of}

-- the lists select cells within an array of these sizes, and their places are this one run of consecutive places
pub record IsOneRun (sizes : List ℕ) (hyper : Hyper) (run : CellRun) : Type 0 where
  pub selection : slab_of hyper ≡ Ok (axes_of hyper)
  pub rank : length (axes_of hyper) ≡ length sizes
  pub within : Within sizes (axes_of hyper)
  pub runs : cell_runs (selection_of sizes (axes_of hyper)) ≡ run ∷ []

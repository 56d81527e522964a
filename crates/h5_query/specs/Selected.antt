-- What four lists select of an array, or why they select nothing of it (HDF5 dataspace reference, H5Sselect_hyperslab).
use Rattle.std.specs.Prelude.{◌≡◌, ◌≤◌, ℕ, Bool, not, Some, None, List, [], ◌∷◌, length}
use Rattle.std.specs.List.{list_any}
use Rattle.h5_model.specs.Views.Selection.{Slab, Within, axes_of, has_rank, has_no_stride, overlaps, is_within, selected_cells, selection_of}
use Rattle.h5_model.specs.Views.Shown.{selected_values}
use Rattle.h5_model.specs.Edits.Refusal.{first_holding}
use Rattle.h5_model.specs.Format.Plain.{cells_bytes}
use Rattle.h5_model.specs.Scripts.Reading.{selection_rules}
use Rattle.h5_model.specs.Tree.Objects.{Tree, Dataset}
use Rattle.h5_model.specs.Tree.Paths.{dataset_at, object_at}
use Rattle.h5_model.specs.Tree.Places.{cells}
use Rattle.h5_open.specs.Pieces.{CellsLeft}
use Rattle.h5_model.specs.declared.edit_fault.EditFault.{EditFault}
use Rattle.h5_model.specs.declared.edit_fault.EditFault.TheVariants as fault
use Rattle.h5_model.specs.declared.hyperslab.Hyper.{Hyper}
use Rattle.h5_shape.specs.declared.slab.SlabFault.{SlabFault}
use Rattle.h5_shape.specs.declared.slab.SlabFault.TheVariants as slab_fault

-- the rules of a selection of an array of these sizes
abbrev pub hyper_rules : List ℕ → Hyper → List (EditFault × Bool)
hyper_rules sizes hyper =
    (fault.RankMismatch, not (has_rank (length sizes) hyper))
    ∷ (fault.StrideZero, list_any has_no_stride (axes_of hyper))
    ∷ (fault.BlocksOverlap, list_any overlaps (axes_of hyper))
    ∷ (fault.OutOfExtent, not (is_within sizes (axes_of hyper)))
    ∷ []

abbrev pub fault_of_slab : SlabFault → EditFault
fault_of_slab slab_fault.RankMismatch = fault.RankMismatch
fault_of_slab slab_fault.StrideZero = fault.StrideZero
fault_of_slab slab_fault.BlocksOverlap = fault.BlocksOverlap

-- a selection within these sizes, of as many dimensions, and so of no more cells than there are
pub record IsSlabOf (sizes : List ℕ) (slab : Slab) : Type 0 where
  pub rank : length slab ≡ length sizes
  pub within : Within sizes slab
  pub counted : length (selection_of sizes slab) ≡ selected_cells slab
  pub few : selected_cells slab ≤ cells sizes

-- no rule of a selection refuses it, and these are the bytes of the selected cells
pub record HasSelectedBytes (d : Dataset) (hyper : Hyper) (bytes : List ℕ) : Type 0 where
  pub accepted : first_holding (hyper_rules d.sizes hyper) ≡ None
  pub slab : IsSlabOf d.sizes (axes_of hyper)
  pub same : bytes ≡ cells_bytes d.fixed (selected_values d (axes_of hyper))

-- no rule of a selection refuses it, and these are the selected values of the dataset that stands there
pub record HasRuns (tree : Tree) (path : List ℕ) (hyper : Hyper) (left : CellsLeft) : Type 0 where
  pub accepted : first_holding (selection_rules tree path hyper) ≡ None
  pub dataset : Dataset
  pub found : dataset_at tree path ≡ Some dataset
  pub type_is : left.fixed ≡ dataset.fixed
  pub fill_is : left.fill ≡ dataset.fill
  pub values_are : left.values ≡ selected_values dataset (axes_of hyper)

-- no rule of a selection refuses it, this dataset stands there, of this number, and this is the selection of it
pub record IsSelectedAt (tree : Tree) (path : List ℕ) (hyper : Hyper) (at : ℕ × Dataset × Slab) : Type 0 where
  pub accepted : first_holding (selection_rules tree path hyper) ≡ None
  pub number : object_at tree path ≡ Some at.0
  pub found : dataset_at tree path ≡ Some at.1
  pub axes : at.2 ≡ axes_of hyper
  pub slab : IsSlabOf (at.1).sizes at.2

-- What a read of selected cells answers (HDF5 dataspace reference, H5Sselect_hyperslab).
use Rattle.std.specs.Prelude.{◌≡◌, ◌⊎◌, ℕ, Bool, Some, None, List}
use Rattle.h5_file.specs.Selected.{IsSlabOf, hyper_rules}
use Rattle.h5_model.specs.Edits.EditFaults.{fault_number}
use Rattle.h5_model.specs.Edits.Refusal.{first_holding}
use Rattle.h5_model.specs.Format.Plain.{cells_bytes}
use Rattle.h5_model.specs.Scripts.Reading.{selection_rules}
use Rattle.h5_model.specs.Tree.Objects.{Tree, Dataset}
use Rattle.h5_model.specs.Tree.Paths.{dataset_at}
use Rattle.h5_model.specs.Views.Selection.{Slab, axes_of}
use Rattle.h5_model.specs.Views.Shown.{selected_values}
use Rattle.h5_model.specs.declared.edit_fault.EditFault.{EditFault}
use Rattle.h5_model.specs.declared.hyperslab.Hyper.{Hyper}
use Rattle.h5_c.specs.Calls.{IsCopied}

-- no rule refuses it: this dataset stands there, and this is the selection of its cells
pub record HasSelected (tree : Tree) (path : List ℕ) (hyper : Hyper) (at : Dataset × Slab) : Type 0 where
  pub accepted : first_holding (selection_rules tree path hyper) ≡ None
  pub found : dataset_at tree path ≡ Some at.0
  pub axes : at.1 ≡ axes_of hyper
  pub slab : IsSlabOf (at.0).sizes at.1

-- the bytes of the selected cells are in the room, if it has just their length; else it stays as it was
abbrev pub IsCopiedFrom : Dataset → Slab → List ℕ → List ℕ → ℕ → Type 0
IsCopiedFrom d slab = IsCopied (cells_bytes d.fixed (selected_values d slab))

-- the lowest of these rules that holds refuses it, and the room stays as it was
abbrev pub IsReadRefused : List (EditFault × Bool) → List ℕ → List ℕ → ℕ → Type 0
IsReadRefused rules old new status = (new ≡ old) × ((e : EditFault) × (status ≡ fault_number e) × (first_holding rules ≡ Some e))

-- no rule refuses it, and the bytes are copied so; or it is refused
abbrev pub HasRead : Tree → List ℕ → Hyper → List ℕ → List ℕ → ℕ → Type 0
HasRead tree path hyper old new status =
    ((at : Dataset × Slab) × HasSelected tree path hyper at × IsCopiedFrom at.0 at.1 old new status) ⊎ IsReadRefused (selection_rules tree path hyper) old new status

-- no rule of the selection refuses it of an array of these sizes
pub record IsSelectionWithin (sizes : List ℕ) (hyper : Hyper) : Type 0 where
  pub accepted : first_holding (hyper_rules sizes hyper) ≡ None
  pub slab : IsSlabOf sizes (axes_of hyper)

-- the same as `HasRead`, of an array that was found
abbrev pub HasReadOf : Dataset → Hyper → List ℕ → List ℕ → ℕ → Type 0
HasReadOf d hyper old new status =
    (IsSelectionWithin d.sizes hyper × IsCopiedFrom d (axes_of hyper) old new status) ⊎ IsReadRefused (hyper_rules d.sizes hyper) old new status

-- Edits of an opened image that no rule of its tree refuses, and where they take place.
use Rattle.std.specs.Prelude.{◌≡◌, ℕ, ℤ, true, Some, None, List, length}
use Rattle.std.specs.List.{list_all}
use Rattle.h5_layout.specs.Standing.{IsStandingAt}
use Rattle.h5_model.specs.Format.Fixed.{fits}
use Rattle.h5_model.specs.Format.Described.{Described}
use Rattle.h5_model.specs.Tree.Paths.{dataset_at, object_at, parent_at}
use Rattle.h5_model.specs.Edits.Refusal.{refusal_of}
use Rattle.h5_model.specs.Tree.Objects.{Tree, Dataset}
use Rattle.h5_model.specs.declared.edits.Edit.{Edit}
use Rattle.h5_model.specs.declared.edits.Edit.TheVariants.{Write, Resize}
use Rattle.h5_model.specs.declared.edit_fault.EditFault.{EditFault}
use Rattle.h5_model.specs.declared.hyperslab.Hyper.{Hyper}
use Rattle.h5_query.specs.StandingCellsType.{StandingCells}
use Rattle.h5_query.specs.Opened.State.{FileState}
use Rattle.h5_query.specs.Written.{IsArrayThere}
use Rattle.h5_shape.specs.OneRun.{IsOneRun}
use Rattle.h5_shape.specs.declared.runs.CellRun.{CellRun}
use Rattle.h5_edit.specs.declared.rules.place.NewPlace.{NewPlace}

-- no rule refuses the edit, and its new link is to stand in this group under this name
pub record IsPlaceAllowed (tree : Tree) (next : ℕ) (path : List ℕ) (edit : Edit) (p : NewPlace) : Type 0 where
  pub allowed : refusal_of tree next edit ≡ None
  pub parent : parent_at tree path ≡ Some (p.parent, p.name.now)

-- no rule refuses the edit, and the object at its path has this number
pub record IsAt (tree : Tree) (next : ℕ) (path : List ℕ) (edit : Edit) (number : ℕ) : Type 0 where
  pub allowed : refusal_of tree next edit ≡ None
  pub object : object_at tree path ≡ Some number

-- no rule refuses the write, and the object at its path is the array of this number
pub record IsWriteAt (f : FileState) (path : List ℕ) (hyper : Hyper) (values : List ℤ) (number : ℕ) : Type 0 where
  pub at : IsAt f.tree f.next path (Write path hyper values) number
  pub array : Described
  pub there : IsArrayThere f number array

-- the cells that are selected of an array are one run, with a value of its type for each
pub record AreValuesOfRun (a : Described) (hyper : Hyper) (values : List ℤ) (run : CellRun) : Type 0 where
  pub selected : IsOneRun a.sizes hyper run
  pub counted : length values ≡ run.length
  pub of_type : list_all (fits a.fixed) values ≡ true

-- the cells of a run of an array stand one behind another in the image, as these
pub record IsRunStanding (image : List ℕ) (a : Described) (run : CellRun) (cells : StandingCells) : Type 0 where
  pub type_is : cells.fixed ≡ a.fixed
  pub place_is : cells.place ≡ run.place
  pub standing : IsStandingAt image a run.place run.length cells.at

-- the cells that are selected of an array are one run, with a value of its type for each, and stand one behind another in the image
pub record AreSelectedStanding (image : List ℕ) (a : Described) (hyper : Hyper) (values : List ℤ) (cells : StandingCells) : Type 0 where
  pub run : CellRun
  pub valued : AreValuesOfRun a hyper values run
  pub stands : IsRunStanding image a run cells

-- the cells that are selected of the array of this number are one run, and stand one behind another in the image
pub record AreStandingAt (f : FileState) (number : ℕ) (hyper : Hyper) (cells : StandingCells) : Type 0 where
  pub array : Described
  pub there : IsArrayThere f number array
  pub run : CellRun
  pub selected : IsOneRun array.sizes hyper run
  pub stands : IsRunStanding f.image array run cells

-- no rule refuses the resize; the array at its path has this number
abbrev pub IsResizeAt : Tree → ℕ → List ℕ → List ℕ → ℕ → Type 0
IsResizeAt tree next path dims number = IsAt tree next path (Resize path dims) number × (d : Dataset) × (dataset_at tree path ≡ Some d)

-- a hard link to the object of this number
abbrev pub IsLinkPlaced : Tree → ℕ → List ℕ → List ℕ → Edit → (ℕ × NewPlace) → Type 0
IsLinkPlaced tree next target path edit (number, p) = (object_at tree target ≡ Some number) × IsPlaceAllowed tree next path edit p

-- the lowest rule that holds
abbrev pub IsRuledOut : Tree → ℕ → Edit → EditFault → Type 0
IsRuledOut tree next edit e = refusal_of tree next edit ≡ Some e

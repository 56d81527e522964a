-- Cells that are to be written, and how they are stored (File Format Specification 3.0, sections III.A.1 and IV.A.2.i).
use Rattle.std.specs.Prelude.{◌≡◌, ℕ, ℤ, List}
use Rattle.h5_layout.specs.Lacking.{IsFound}
use Rattle.h5_layout.specs.RunStorage.{IsRunMissing}
use Rattle.h5_model.specs.Views.Selection.{axes_of}
use Rattle.h5_model.specs.declared.hyperslab.Hyper.{Hyper}
use Rattle.h5_model.specs.Format.Described.{Described}
use Rattle.h5_query.specs.Opened.Sound.{IsSound}
use Rattle.h5_query.specs.Opened.State.{FileState}
use Rattle.h5_shape.specs.declared.runs.CellRun.{CellRun}
use Rattle.h5_edit.specs.Refusals.Allowed.{AreSelectedStanding, AreValuesOfRun, IsWriteAt}
use Rattle.h5_edit.specs.declared.target.MissingRun.{MissingRun}
use Rattle.h5_edit.specs.declared.target.TargetCells.{TargetCells}
use Rattle.h5_edit.specs.declared.target.TargetCells.TheVariants as target

-- the cells that are selected of an array are one run, with a value of its type for each, in storage that is missing
pub record IsSelectedMissing (image : List ℕ) (a : Described) (hyper : Hyper) (values : List ℤ) (m : MissingRun) : Type 0 where
  pub run : CellRun
  pub valued : AreValuesOfRun a hyper values run
  pub type_is : m.fixed ≡ a.fixed
  pub place_is : m.place ≡ run.place
  pub missing : IsRunMissing image a run m.missing m.inner

-- the cells that are selected of an array are stored so
abbrev pub AreCellsFound : List ℕ → Described → Hyper → List ℤ → TargetCells → Type 0
AreCellsFound image a hyper values (target.Standing cells) = AreSelectedStanding image a hyper values cells
AreCellsFound image a hyper values (target.Missing m) = IsSelectedMissing image a hyper values m
AreCellsFound image a hyper values (target.Parted missing) = IsFound image a (axes_of hyper) missing

-- no rule refuses the write to the array of this number, whose cells are stored so
pub record IsTarget (f : FileState) (path : List ℕ) (hyper : Hyper) (values : List ℤ) (number : ℕ) (cells : TargetCells) : Type 0 where
  pub sound : IsSound f
  pub write : IsWriteAt f path hyper values number
  pub found : AreCellsFound f.image write.array hyper values cells

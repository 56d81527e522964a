-- The open views of a session once an edit was carried out on its file (selections: HDF5 dataspace reference, H5Sselect_hyperslab).
use Rattle.std.specs.Prelude.{ℕ, MatchOption, Option, List}
use Rattle.h5_model.specs.declared.edits.Edit.{Edit}
use Rattle.h5_model.specs.declared.edits.Edited.{Edited}
use Rattle.h5_edit.specs.Edited.{IsEdited}
use Rattle.h5_edit.specs.Opened.State.{FileState}
use Rattle.h5_file.specs.OpenViews.{AreViewsKept, session_state}
use Rattle.h5_file.specs.Session.{IsSessionEdited}
use Rattle.h5_file.specs.Touched.{IsTouching, IsUntouching}
use Rattle.h5_file.specs.declared.touched.Touched.{Touched}
use Rattle.h5_file.specs.declared.views.KeptView.{KeptView}

-- the edit touches these cells of an array, or none
abbrev pub IsTouchedBy : FileState → Edit → Option Touched → Type 0
IsTouchedBy before edit touched = MatchOption touched (IsUntouching before.tree before.next edit) (IsTouching before.tree edit)

-- the edit was carried out on the file, and its views have yet to follow
pub record IsToFollow (before after : FileState) (views : List KeptView) (next : ℕ) (edit : Edit) (touched : Option Touched) (e : Edited) : Type 0 where
  pub edited : IsEdited before edit after e
  pub kept : AreViewsKept before views next
  pub touch : IsTouchedBy before edit touched

-- the views followed, and so the edit was carried out on the session
pub record HaveFollowed (before after : FileState) (views others : List KeptView) (next : ℕ) (edit : Edit) (e : Edited) : Type 0 where
  pub kept : AreViewsKept after others next
  pub edited : IsSessionEdited (session_state before views next) edit (session_state after others next) e

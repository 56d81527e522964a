-- A session behind an edit that no view has to follow, carried out or refused: it touches no array, or no view is open.
use Rattle.std.proofs.Common.{◌≡◌, ℕ, List, [], Result, Ok, Err, sym, ap, subst}
use Rattle.std.specs.Prelude.{MatchResult}
use Rattle.h5_model.specs.Views.Shown.{refreshing_path}
use Rattle.h5_model.specs.declared.edit_fault.EditFault.{EditFault}
use Rattle.h5_model.specs.declared.edits.Edit.{Edit}
use Rattle.h5_model.specs.declared.edits.Edited.{Edited}
use Rattle.h5_edit.specs.Carried.{IsRefused}
use Rattle.h5_edit.specs.Edited.{IsEdited}
use Rattle.h5_edit.specs.Opened.State.{FileState}
use Rattle.h5_file.specs.Following.{HaveFollowed}
use Rattle.h5_file.specs.OpenViews.{AreViewsKept, session_state}
use Rattle.h5_file.specs.Session.{IsSessionEdited, SessionState}
use Rattle.h5_file.specs.declared.views.KeptView.{KeptView}
use Rattle.h5_file.proofs.SessionEdits.{none_followed, still_followed}

module _ (before after : FileState) (edit : Edit) (views : List KeptView) (next : ℕ) (kept : AreViewsKept before views next) where
  -- what the file answered
  abbrev pub Answered : Result Edited EditFault → Type 0
  Answered result = MatchResult result (IsEdited before edit after) (λ e. IsRefused before edit e × (after ≡ before))

  -- the views are as the edit has to leave them
  abbrev NeedNotFollow : Type 0
  NeedNotFollow = (e : Edited) → IsEdited before edit after e → HaveFollowed before after views views next edit e

  kept_by : NeedNotFollow → (result : Result Edited EditFault) → Answered result → AreViewsKept after views next
  kept_by still (Ok e) is = (still e is).kept
  kept_by still (Err e) is = subst (λ (f : FileState). AreViewsKept f views next) (sym is.1) kept

  answered : NeedNotFollow → (result : Result Edited EditFault) → Answered result → MatchResult result (IsSessionEdited (session_state before views next) edit (session_state after views next))
      (λ e. IsRefused before edit e × (session_state after views next ≡ session_state before views next))
  answered still (Ok e) is = (still e is).edited
  answered still (Err e) is = (is.0, ap (λ (f : FileState). session_state f views next) is.1)

  -- and so what the session answers
  answered_by : NeedNotFollow → (old : SessionState) → session_state before views next ≡ old → (result : Result Edited EditFault) → Answered result
      → MatchResult result (IsSessionEdited old edit (session_state after views next)) (λ e. IsRefused old.file edit e × (session_state after views next ≡ old))
  answered_by still old same result is =
      subst (λ (s : SessionState). MatchResult result (IsSessionEdited s edit (session_state after views next)) (λ e. IsRefused s.file edit e × (session_state after views next ≡ s))) same (answered still result is)

  -- the edit touches no array
  module _ (none : refreshing_path edit ≡ []) where
    untouched : NeedNotFollow
    untouched e is = still_followed before after edit e is views next kept none

    pub kept_behind : (result : Result Edited EditFault) → Answered result → AreViewsKept after views next
    kept_behind = kept_by untouched

    pub answered_behind : (old : SessionState) → session_state before views next ≡ old → (result : Result Edited EditFault) → Answered result
        → MatchResult result (IsSessionEdited old edit (session_state after views next)) (λ e. IsRefused old.file edit e × (session_state after views next ≡ old))
    answered_behind = answered_by untouched

  -- no view is open
  module _ (none : views ≡ []) where
    unseen : NeedNotFollow
    unseen e is = none_followed before after edit e is views next kept none

    pub answered_unseen : (old : SessionState) → session_state before views next ≡ old → (result : Result Edited EditFault) → Answered result
        → MatchResult result (IsSessionEdited old edit (session_state after views next)) (λ e. IsRefused old.file edit e × (session_state after views next ≡ old))
    answered_unseen = answered_by unseen

-- What calls do with views.
use Rattle.std.specs.Prelude.{◌≡◌, ℕ, Result, Ok, Err, List, length as length_of}
use Rattle.h5_file.specs.Session.{SessionState, IsViewOpened, IsViewRefused, IsViewClosed, IsViewNotOpen}
use Rattle.h5_model.specs.Views.Shown.{Shown, shows}
use Rattle.h5_model.specs.declared.hyperslab.Hyper.{Hyper}
use Rattle.h5_model.specs.declared.view_fault.ViewFault.{ViewFault}
use Rattle.h5_c.specs.Calls.{IsCopied}
use Rattle.h5_c.specs.Status.{HasStatus, view_status}
use Rattle.h5_c.specs.declared.held.Held.{Held}

-- the library refuses the view, and nothing has changed
abbrev pub IsViewUnopened : SessionState → List ℕ → Hyper → SessionState → ViewFault → Type 0
IsViewUnopened before path hyper after e = (after ≡ before) × IsViewRefused before path hyper e

-- the view is opened, and its number told; or nothing has changed
pub record HasViewOpened (before : Held) (path : List ℕ) (hyper : Hyper) (after : Held) (old new status : ℕ) : Type 0 where
  pub session : HasStatus view_status (λ (n : ℕ). IsViewOpened before.session path hyper n after.session × (new ≡ n))
      (λ e. IsViewUnopened before.session path hyper after.session e × (new ≡ old)) status
  pub text : after.text ≡ before.text

pub record HasViewClosed (before : Held) (number : ℕ) (after : Held) (status : ℕ) : Type 0 where
  pub session : HasStatus view_status (λ (_ : Unit {0}). IsViewClosed before.session number after.session)
      (λ e. (after.session ≡ before.session) × IsViewNotOpen before.session number e) status
  pub text : after.text ≡ before.text

-- what a session's view shows
abbrev pub shown_in : SessionState → ℕ → Result Shown ViewFault
shown_in s number = shows s.file.tree s.views number

-- what is shown is in the room, or how many bytes it has is told; else nothing is written
abbrev pub HasShown : Result Shown ViewFault → List ℕ → List ℕ → ℕ → Type 0
HasShown (Ok shown) old new status = IsCopied shown.bytes old new status
HasShown (Err e) old new status = (status ≡ view_status e) × (new ≡ old)

abbrev pub HasShownLength : Result Shown ViewFault → ℕ → ℕ → ℕ → Type 0
HasShownLength (Ok shown) old new status = (status ≡ 0) × (new ≡ length_of shown.bytes)
HasShownLength (Err e) old new status = (status ≡ view_status e) × (new ≡ old)

-- What an opening of a view answers.
use Rattle.std.proofs.Common.{◌≡◌, ℕ, Ok, Err, List, refl}
use Rattle.h5_file.specs.Session.{IsViewOpened, IsViewRefused}
use Rattle.h5_model.specs.declared.hyperslab.Hyper.{Hyper}
use Rattle.h5_model.specs.declared.view_fault.ViewFault.{ViewFault}
use Rattle.h5_c.specs.Status.{view_status}
use Rattle.h5_c.specs.Viewed.{HasViewOpened}
use Rattle.h5_c.specs.declared.held.Held.{Held}

module _ (before : Held) (path : List ℕ) (hyper : Hyper) (after : Held) (text : after.text ≡ before.text) where
  pub view_there : (n old : ℕ) → IsViewOpened before.session path hyper n after.session → HasViewOpened before path hyper after old n 0
  view_there n old opened = record { session = record { answer = Ok n; status_is = refl; says = (opened, refl) }; text = text }

  pub view_unopened : (e : ViewFault) (place status : ℕ) → after.session ≡ before.session → IsViewRefused before.session path hyper e → status ≡ view_status e
      → HasViewOpened before path hyper after place place status
  view_unopened e place status kept refused number = record { session = record { answer = Err e; status_is = number; says = ((kept, refused), refl) }; text = text }

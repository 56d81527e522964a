use Rattle.std.proofs.Common.{◌≡◌, ℕ, List, Result, Ok, Err, refl, ap, subst}
use Rattle.std.specs.Prelude.{MatchResult}
use Rattle.h5_edit.specs.Opened.State.{FileState}
use Rattle.h5_edit.specs.Repacked.{IsRepackRefused}
use Rattle.h5_model.specs.declared.edit_fault.EditFault.{EditFault}
use Rattle.h5_file.specs.Anew.{IsRepacked}
use Rattle.h5_file.specs.OpenViews.{session_state}
use Rattle.h5_file.specs.Session.{IsSessionRepacked, SessionState}
use Rattle.h5_file.specs.declared.views.KeptView.{KeptView}
use Rattle.h5_file.proofs.session.Session.repack.Goals as goal

-- what the session answers, by what its file answers
answered : (before after : FileState) (views : List KeptView) (next : ℕ) (result : Result (Unit {0}) EditFault)
    → MatchResult result (λ _. IsRepacked before after) (λ e. IsRepackRefused before e × (after ≡ before))
    → MatchResult result (λ _. IsSessionRepacked (session_state before views next) (session_state after views next))
    (λ e. IsRepackRefused before e × (session_state after views next ≡ session_state before views next))
answered before after views next (Ok u) is = record { file = is; views = refl; next_view = refl; patches = refl }
answered before after views next (Err e) is = (is.0, ap (λ (f : FileState). session_state f views next) is.1)

pub returns : goal.returns
returns c =
    let s = c.self.inside in
    let after = session_state c.repack.new.self s.views s.next in
    subst (λ (old : SessionState). MatchResult c.repack.result (λ _. IsSessionRepacked old after) (λ e. IsRepackRefused old.file e × (after ≡ old)))
    c.self.view_is (answered s.file c.repack.new.self s.views s.next c.repack.result c.repack.ensures)

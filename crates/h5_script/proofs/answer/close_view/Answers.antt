use Rattle.std.proofs.Common.{◌++◌, List, ℕ, codes, ap, ◌∙◌}
use Rattle.h5_model.specs.Scripts.Lines.{Close}
use Rattle.h5_model.specs.Views.ViewFaults.{view_fault_text}
use Rattle.h5_script.specs.declared.ran.Outcome.TheVariants.{Refused, Told}
use Rattle.h5_script.proofs.LineAnswers.{told_or_not, by_error, not_told, shown_as}
use Rattle.h5_script.proofs.ViewAnswers.{view_closed, view_not_closed}
use Rattle.h5_script.proofs.answer.close_view.Goals as goal

pub returns-in_err-push_text-in-Ok : goal.returns-in_err-push_text-in-Ok
returns-in_err-push_text-in-Ok c =
    by_error c.from_residual.result c.args.session.now c.close_view.new.self (Close c.args.number) c.push_text.new.out.items c.from_residual.ensures.0
    (not_told c.args.session.now c.close_view.new.self (Close c.args.number) (codes "closed\n") Told
    (view_closed c.args.session.now c.close_view.new.self c.args.number c.in-Ok.ensures))

pub returns-in_ok-push_text-in-Ok : goal.returns-in_ok-push_text-in-Ok
returns-in_ok-push_text-in-Ok c =
    shown_as c.args.session.now c.close_view.new.self (Close c.args.number) (codes "closed\n") c.push_text.new.out.items Told
    (c.in_ok-push_text-in-Ok.ensures ∙ ap (λ (old : List ℕ). old ++ codes "closed\n") c.requires)
    (view_closed c.args.session.now c.close_view.new.self c.args.number c.in-Ok.ensures)

pub returns-in-Err : goal.returns-in-Err
returns-in-Err c =
    told_or_not c.refused_view.result c.args.session.now c.close_view.new.self (Close c.args.number) c.refused_view.new.text.items (view_fault_text c.in-Err.fault) Refused
    (view_not_closed c.args.session.now c.close_view.new.self c.args.number c.in-Err.fault c.in-Err.ensures.0 c.in-Err.ensures.1) c.refused_view.ensures

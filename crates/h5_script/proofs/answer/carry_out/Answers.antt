use Rattle.std.proofs.Common.{◌++◌, List, ℕ, codes, ap, ◌∙◌}
use Rattle.std.specs.Fmt.{decimal}
use Rattle.h5_model.specs.Edits.EditFaults.{refused_text}
use Rattle.h5_model.specs.Scripts.Lines.{Change}
use Rattle.h5_script.specs.declared.ran.Outcome.TheVariants.{Refused, Accepted}
use Rattle.h5_script.proofs.LineAnswers.{told_or_not, by_error, not_told, shown_as, edit_accepted, edit_refused}
use Rattle.h5_script.proofs.answer.carry_out.Goals as goal

pub returns-in_err-push_accepted-in-Ok : goal.returns-in_err-push_accepted-in-Ok
returns-in_err-push_accepted-in-Ok c =
    by_error c.from_residual.result c.args.session.now c.edit.new.self (Change c.args.edit.now) c.push_accepted.new.out.items c.from_residual.ensures.0
    (not_told c.args.session.now c.edit.new.self (Change c.args.edit.now) (codes "ok " ++ (decimal c.in-Ok.edited.refreshed ++ codes "\n")) Accepted
    (edit_accepted c.args.session.now c.edit.new.self c.args.edit.now c.in-Ok.edited c.in-Ok.ensures.edited))

pub returns-in_ok-push_accepted-in-Ok : goal.returns-in_ok-push_accepted-in-Ok
returns-in_ok-push_accepted-in-Ok c =
    shown_as c.args.session.now c.edit.new.self (Change c.args.edit.now) (codes "ok " ++ (decimal c.in-Ok.edited.refreshed ++ codes "\n")) c.push_accepted.new.out.items Accepted
    (c.in_ok-push_accepted-in-Ok.ensures ∙ ap (λ (old : List ℕ). old ++ (codes "ok " ++ (decimal c.in-Ok.edited.refreshed ++ codes "\n"))) c.requires)
    (edit_accepted c.args.session.now c.edit.new.self c.args.edit.now c.in-Ok.edited c.in-Ok.ensures.edited)

pub returns-in-Err : goal.returns-in-Err
returns-in-Err c =
    told_or_not c.refused.result c.args.session.now c.edit.new.self (Change c.args.edit.now) c.refused.new.text.items (refused_text c.in-Err.fault) Refused
    (edit_refused c.args.session.now c.edit.new.self c.args.edit.now c.in-Err.fault c.in-Err.ensures.edited.0 c.in-Err.ensures.edited.1) c.refused.ensures

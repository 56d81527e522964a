use Rattle.std.proofs.Common.{◌++◌, List, ℕ, codes, ap, ◌∙◌}
use Rattle.std.specs.Fmt.{decimal}
use Rattle.h5_model.specs.Edits.EditFaults.{refused_text}
use Rattle.h5_model.specs.Scripts.Lines.{Repack}
use Rattle.h5_script.specs.declared.ran.Outcome.TheVariants.{Refused, Accepted}
use Rattle.h5_script.proofs.LineAnswers.{told_or_not, by_error, not_told, shown_as, repack_accepted, repack_refused}
use Rattle.h5_script.proofs.answer.repack.Goals as goal

pub returns-in_err-push_accepted-in-Ok : goal.returns-in_err-push_accepted-in-Ok
returns-in_err-push_accepted-in-Ok c =
    by_error c.from_residual.result c.args.session.now c.repack.new.self Repack c.push_accepted.new.out.items c.from_residual.ensures.0
    (not_told c.args.session.now c.repack.new.self Repack (codes "ok " ++ (decimal 0 ++ codes "\n")) Accepted
    (repack_accepted c.args.session.now c.repack.new.self c.in-Ok.ensures))

pub returns-in_ok-push_accepted-in-Ok : goal.returns-in_ok-push_accepted-in-Ok
returns-in_ok-push_accepted-in-Ok c =
    shown_as c.args.session.now c.repack.new.self Repack (codes "ok " ++ (decimal 0 ++ codes "\n")) c.push_accepted.new.out.items Accepted
    (c.in_ok-push_accepted-in-Ok.ensures ∙ ap (λ (old : List ℕ). old ++ (codes "ok " ++ (decimal 0 ++ codes "\n"))) c.requires)
    (repack_accepted c.args.session.now c.repack.new.self c.in-Ok.ensures)

pub returns-in-Err : goal.returns-in-Err
returns-in-Err c =
    told_or_not c.refused.result c.args.session.now c.repack.new.self Repack c.refused.new.text.items (refused_text c.in-Err.fault) Refused
    (repack_refused c.args.session.now c.repack.new.self c.in-Err.fault c.in-Err.ensures.0 c.in-Err.ensures.1) c.refused.ensures

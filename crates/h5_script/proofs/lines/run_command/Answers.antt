use Rattle.h5_command.specs.Commands.{command_of}
use Rattle.h5_script.proofs.LineRuns.{by_fault, line_ran}
use Rattle.h5_script.proofs.lines.run_command.Goals as goal

pub returns-in_err-outcome-clause-run : goal.returns-in_err-outcome-clause-run
returns-in_err-outcome-clause-run g c =
    by_fault c.from_residual.result _ _ c.in_err-outcome.field-0.0 c.from_residual.ensures.1 c.in_err-outcome.ensures.0 c.in_err-outcome.ensures.1

pub returns-clause-run : goal.returns-clause-run
returns-clause-run g c =
    let told = c.in_ok-outcome.ensures in
    line_ran c.args.session.now c.answer.new.session (command_of c.args.command.now) told.text c.in_ok-outcome.outcome
    (g.W.Write.contents c.args.output.now) (g.W.Write.contents c.answer.new.output) c.args.answers.now.ran c.count.new.self
    told.answered told.written c.count.ensures.refused c.count.ensures.edits

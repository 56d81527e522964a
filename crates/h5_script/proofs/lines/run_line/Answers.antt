use Rattle.std.proofs.Common.{Option, ap, sym, ◌∙◌}
use Rattle.std.specs.Prelude.{option_map}
use Rattle.h5_command.specs.Commands.{command_of}
use Rattle.h5_command.specs.declared.command.Command.{Command}
use Rattle.h5_script.specs.Pieces.{commands_of_line}
use Rattle.h5_script.proofs.LineRuns.{by_memory, line_passed, line_asked}
use Rattle.h5_script.proofs.RunLaws.{has_begun_none}
use Rattle.h5_script.proofs.lines.run_line.Goals as goal

pub returns-in_err-command-clause-run : goal.returns-in_err-command-clause-run
returns-in_err-command-clause-run g c =
    by_memory c.from_residual.result _ _ c.from_residual.ensures.1
    (has_begun_none (commands_of_line c.args.line.now) c.args.session.now (g.W.Write.contents c.args.output.now))

pub returns-in_default-clause-run : goal.returns-in_default-clause-run
returns-in_default-clause-run g c =
    line_passed c.args.line.now c.args.session.now (g.W.Write.contents c.args.output.now) c.args.answers.now.ran
    (ap (λ (o : Option Command). option_map command_of o) (sym c.in_default.is) ∙ c.in_ok-command.ensures)

pub returns-clause-run : goal.returns-clause-run
returns-clause-run g c =
    line_asked c.run_command.result c.args.line.now (command_of c.in-Some.command) c.args.session.now c.run_command.new.session
    (g.W.Write.contents c.args.output.now) (g.W.Write.contents c.run_command.new.output) c.args.answers.now.ran c.run_command.new.answers.ran
    (ap (λ (o : Option Command). option_map command_of o) (sym c.in-Some.is) ∙ c.in_ok-command.ensures) c.run_command.ensures.run

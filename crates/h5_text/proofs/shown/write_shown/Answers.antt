use Rattle.std.proofs.Common.{◌++◌, List, ℕ, ap, ◌∙◌}
use Rattle.h5_model.specs.Scripts.Answers.{shown_text}
use Rattle.h5_text.proofs.PrintedValues.{shown_none, shown_cut, shown_unended, shown_all}
use Rattle.h5_text.proofs.shown.write_shown.Goals as goal

pub returns-in_err-push_text : goal.returns-in_err-push_text
returns-in_err-push_text g c =
    shown_none c.from_residual.result (g.W.Write.contents c.args.output.now)
    (c.args.text.now.items ++ shown_text c.args.lent (record { fixed = c.args.fixed.now; bytes = c.args.bytes.now })) c.from_residual.ensures.0

pub returns-in_err-print_values : goal.returns-in_err-print_values
returns-in_err-print_values g c =
    shown_cut c.from_residual-in_err-print_values.result (g.W.Write.contents c.args.output.now) (g.W.Write.contents c.print_values.new.output)
    c.args.text.now.items c.push_text.new.out.items c.args.lent c.args.fixed.now c.args.bytes.now
    (c.in_ok-push_text.ensures ∙ ap (λ (word : List ℕ). c.args.text.now.items ++ word) c.kept_word.ensures)
    c.from_residual-in_err-print_values.ensures.0 c.in_err-print_values.ensures

pub returns-in_err-push_text-2 : goal.returns-in_err-push_text-2
returns-in_err-push_text-2 g c =
    shown_unended c.from_residual-in_err-push_text-2.result (g.W.Write.contents c.args.output.now) (g.W.Write.contents c.print_values.new.output)
    c.args.text.now.items c.push_text.new.out.items c.args.lent c.args.fixed.now c.args.bytes.now
    (c.in_ok-push_text.ensures ∙ ap (λ (word : List ℕ). c.args.text.now.items ++ word) c.kept_word.ensures)
    c.from_residual-in_err-push_text-2.ensures.0 c.print_values.new.text.items c.in_ok-print_values.ensures

pub returns : goal.returns
returns g c =
    shown_all c.write_text.result (g.W.Write.contents c.args.output.now) (g.W.Write.contents c.print_values.new.output) (g.W.Write.contents c.write_text.new.output)
    c.args.text.now.items c.push_text.new.out.items c.args.lent c.args.fixed.now c.args.bytes.now
    (c.in_ok-push_text.ensures ∙ ap (λ (word : List ℕ). c.args.text.now.items ++ word) c.kept_word.ensures)
    c.print_values.new.text.items c.deref.result.now (c.deref.ensures.value ∙ c.in_ok-push_text-2.ensures) c.in_ok-print_values.ensures c.write_text.ensures

use Rattle.std.proofs.Common.{◌≡◌, Some, None, List, ℕ, ap, sym, ◌∙◌}
use Rattle.h5_model.specs.Scripts.Lines.{unescaped_text}
use Rattle.h5_cli.proofs.EndLaws.{dump_ends, bad_path_ends}
use Rattle.h5_cli.proofs.dump.dump.Goals as goal

pub returns-in-Ok-Some : goal.returns-in-Ok-Some
returns-in-Ok-Some g c = λ input left.
    let is : unescaped_text c.args.path.now ≡ Some c.as_slice.result.now =
    sym (ap unescaped_text c.as_bytes.ensures.value) ∙ sym c.in-Ok-Some.ensures ∙ c.in-Ok-Some.field-0-is ∙ ap (λ (p : List ℕ). Some p) (sym c.as_slice.ensures) in
    dump_ends c.args.file.now c.args.path.now input left (g.O.Write.contents c.args.output.now) (g.O.Write.contents c.dump_at.new.output) c.in-Ok.opened c.as_slice.result.now c.dump_at.result
    c.in-Ok.ensures is c.dump_at.ensures

pub returns-in-Ok-None : goal.returns-in-Ok-None
returns-in-Ok-None g c = λ input left.
    let is : unescaped_text c.args.path.now ≡ None = sym (ap unescaped_text c.as_bytes.ensures.value) ∙ sym c.in-Ok-None.ensures ∙ c.in-Ok-None.field-0-is in
    bad_path_ends c.args.file.now c.args.path.now input left (g.O.Write.contents c.args.output.now) (g.O.Write.contents c.print_refusal.new.output) c.in-Ok.opened c.print_refusal.result
    c.in-Ok.ensures is c.print_refusal.ensures

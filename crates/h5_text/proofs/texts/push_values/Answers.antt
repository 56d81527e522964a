use Rattle.std.proofs.Common.{◌+◌, ◌++◌, take, codes, get_or, pos, ap, ◌∙◌, rules}
use Rattle.std.specs.Fmt.{signed_decimal}
use Rattle.std.specs.Int.{w128}
use Rattle.std.proofs.lemmas.Int.{to_z-of_z}
use Rattle.std.proofs.lemmas.List.{take_more}
use Rattle.h5_model.specs.Scripts.Text.{values_text}
use Rattle.h5_text.proofs.Appending.{appends_err}
use Rattle.h5_text.proofs.Joining.{values_step}
use Rattle.h5_text.proofs.texts.push_values.Goals as goal

pub returns-in_err-push_spaced_value : goal.returns-in_err-push_spaced_value
returns-in_err-push_spaced_value c =
    appends_err c.from_residual.result c.args.out.now.items (values_text (take c.loop-value.value-index c.args.values.now)) c.loop-value.out.items c.push_spaced_value.new.out.items
    (values_text c.args.values.now) c.from_residual.ensures.0 c.loop-value.invariant c.in_err-push_spaced_value.ensures

pub loop-value-preserved : goal.loop-value-preserved
loop-value-preserved c =
    let k = c.loop-value.value-index in
    let values = c.args.values.now in
    let value = get_or values k (pos 0) in
    values_step (take k values) (take (k + 1) values) value c.args.out.now.items c.loop-value.out.items c.push_spaced_value.new.out.items (take_more values k (pos 0) c.loop-value-test.true) c.loop-value.invariant
    (c.in_ok-push_spaced_value.ensures ∙ ap (λ v. c.loop-value.out.items ++ (codes " " ++ signed_decimal v)) (to_z-of_z w128 value (search rules)))

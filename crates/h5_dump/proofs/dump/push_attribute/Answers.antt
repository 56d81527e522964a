use Rattle.std.proofs.Common.{◌≡◌, ◌+◌, ◌<◌, ◌++◌, [], ◌∷◌, length, take, take_all, pos, codes, ap, ◌∙◌, append_assoc, rules, arith}
use Rattle.std.specs.Fmt.{signed_decimal}
use Rattle.std.specs.Int.{w128}
use Rattle.std.proofs.lemmas.Int.{to_z-of_z}
use Rattle.std.proofs.lemmas.List.{take_more}
use Rattle.std.proofs.lemmas.Option.{get_or_from_slice_get}
use Rattle.h5_model.specs.Scripts.Text.{attribute_line, values_text}
use Rattle.h5_text.specs.Listing.{attribute_line_head}
use Rattle.h5_text.proofs.Appending.{appends_err, appends_more}
use Rattle.h5_text.proofs.Joining.{values_step}
use Rattle.h5_dump.proofs.dump.push_attribute.Goals as goal

pub returns-in_err-push_spaced_value : goal.returns-in_err-push_spaced_value
returns-in_err-push_spaced_value c =
    let a = c.args.attribute.now in
    let old = c.args.text.now.items in
    let head = attribute_line_head a.0 a.1.fixed a.1.sizes in
    let values = take c.loop-k.k a.1.values in
    appends_err c.from_residual-in_err-push_spaced_value.result old (head ++ values_text values) c.loop-k.text.items c.push_spaced_value.new.out.items (attribute_line a)
    c.from_residual-in_err-push_spaced_value.ensures.0 (c.loop-k.invariant ∙ append_assoc old head (values_text values)) c.in_err-push_spaced_value.ensures

pub loop-k-preserved : goal.loop-k-preserved
loop-k-preserved c =
    let a = c.args.attribute.now in
    let k = c.loop-k.k in
    let values = a.1.values in
    let value = c.value.result in
    let inside : k < length values = omega (arith, c.cells-k-end.ensures.values, c.loop-k-test.true) in
    let more : take (k + 1) values ≡ take k values ++ value ∷ [] =
    take_more values k (pos 0) inside ∙ ap (λ v. take k values ++ v ∷ []) (get_or_from_slice_get values k value (pos 0) c.value.ensures) in
    values_step (take k values) (take (k + 1) values) value (c.args.text.now.items ++ attribute_line_head a.0 a.1.fixed a.1.sizes) c.loop-k.text.items c.push_spaced_value.new.out.items
    more c.loop-k.invariant
    (c.in_ok-push_spaced_value.ensures ∙ ap (λ v. c.loop-k.text.items ++ (codes " " ++ signed_decimal v)) (to_z-of_z w128 value (search rules)))

pub returns : goal.returns
returns c =
    let a = c.args.attribute.now in
    let old = c.args.text.now.items in
    let head = attribute_line_head a.0 a.1.fixed a.1.sizes in
    let values = a.1.values in
    let all = take_all c.loop-k.k values (omega (arith, c.cells-k-end.ensures.values, c.loop-k-test.false)) in
    appends_more c.push_text.result old (head ++ values_text values) c.loop-k.text.items c.push_text.new.out.items (codes "\n")
    (c.loop-k.invariant ∙ ap (λ vs. old ++ head ++ values_text vs) all ∙ append_assoc old head (values_text values)) c.push_text.ensures

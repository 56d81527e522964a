use Rattle.std.proofs.Common.{◌≡◌, ℕ, ◌+◌, ◌*◌, ◌∙◌, ◌++◌, codes, map, ap, arith, rules}
use Rattle.std.specs.Fmt.{signed_decimal}
use Rattle.std.specs.Int.{w128}
use Rattle.std.specs.List.{range_with_len}
use Rattle.std.proofs.lemmas.Int.{to_z-of_z}
use Rattle.std.proofs.lemmas.List.FromFn.{map-range_with_len_more}
use Rattle.h5_model.specs.Format.Fixed.{value_at}
use Rattle.h5_text.proofs.Joining.{values_step}
use Rattle.h5_model.proofs.ValueLaws.{decoded_cell}
use Rattle.h5_text.proofs.texts.push_stored_values.Goals as goal

pub loop-k-preserved : goal.loop-k-preserved
loop-k-preserved c =
    let k = c.loop-k.k in
    let fixed = c.args.fixed.now in
    let value = λ (j : ℕ). value_at fixed c.args.bytes.now (j * fixed.size) in
    let at : c.decode.result ≡ value k = c.decode.ensures.value ∙ decoded_cell fixed c.args.bytes.now k c.size-size.result c.size-size.ensures.size in
    values_step (map value (range_with_len 0 k)) (map value (range_with_len 0 (k + 1))) (value k) c.args.out.now.items c.loop-k.out.items c.push_spaced_value.new.out.items
    (map-range_with_len_more value 0 k k (omega arith)) c.loop-k.invariant
    (c.in_ok-push_spaced_value.ensures ∙ ap (λ v. c.loop-k.out.items ++ (codes " " ++ signed_decimal v)) (to_z-of_z w128 c.decode.result (search rules) ∙ at))

use Rattle.std.proofs.Common.{◌≡◌, ℕ, ◌*◌, ◌++◌, [], ◌∷◌, ◌∙◌, sym, to_z, of_z, arith, rules}
use Rattle.std.specs.Int.{w128}
use Rattle.std.proofs.lemmas.Int.{to_z-of_z}
use Rattle.std.proofs.lemmas.List.FromFn.{map-range_with_len_more}
use Rattle.h5_model.specs.Format.Fixed.{value_at}
use Rattle.h5_model.proofs.ValueLaws.{decoded_cell}
use Rattle.h5_c.proofs.given.values_of.Goals as goal

pub loop-k-preserved : goal.loop-k-preserved
loop-k-preserved c =
    let k = c.loop-k.k in
    let fixed = c.args.fixed.now in
    let value = λ (j : ℕ). value_at fixed c.args.bytes.now (j * fixed.size) in
    let at : c.decode.result ≡ value k = c.decode.ensures.value ∙ decoded_cell fixed c.args.bytes.now k c.size-size.result c.size-size.ensures.size in
    let told : to_z w128 (of_z w128 c.decode.result) ≡ value k = to_z-of_z w128 c.decode.result (search rules) ∙ at in
    c.in_ok-push.ensures.items ∙ (λ i. c.loop-k.invariant i ++ told i ∷ []) ∙ sym (map-range_with_len_more value 0 k k (omega arith))

use Rattle.std.proofs.Common.{◌≡◌, ℕ, ◌+◌, ◌*◌, ◌∙◌, ◌++◌, map, ap, arith, rules}
use Rattle.std.specs.Int.{w128}
use Rattle.std.specs.List.{range_with_len}
use Rattle.std.proofs.lemmas.Int.{to_z-of_z}
use Rattle.std.proofs.lemmas.List.FromFn.{length-map-range_with_len, map-range_with_len_more}
use Rattle.h5_model.specs.Format.Fixed.{value_at}
use Rattle.h5_text.specs.Rows.{cell_text}
use Rattle.h5_model.proofs.ValueLaws.{decoded_cell}
use Rattle.h5_text.proofs.RowLaws.{row_step, column_step}
use Rattle.h5_text.proofs.rows.Rows.push_stored.Goals as goal

pub loop-k-preserved : goal.loop-k-preserved
loop-k-preserved c =
    let width = c.args.self.now.width in
    let column = c.args.self.now.column in
    let k = c.loop-k.k in
    let fixed = c.args.fixed.now in
    let value = λ (j : ℕ). value_at fixed c.args.bytes.now (j * fixed.size) in
    let at : c.decode.result ≡ value k = c.decode.ensures.value ∙ decoded_cell fixed c.args.bytes.now k c.size-size.result c.size-size.ensures.size in
    record {
      text =
          row_step width column c.loop-k.self.width c.loop-k.self.column k (map value (range_with_len 0 k)) (map value (range_with_len 0 (k + 1))) (value k) c.args.out.now.items c.loop-k.out.items c.push.new.out.items
          c.args.self.now.in_row c.loop-k.invariant.width c.loop-k.invariant.column (length-map-range_with_len value 0 k) (map-range_with_len_more value 0 k k (omega arith)) c.loop-k.invariant.text
          (c.in_ok-push.ensures.text ∙ ap (λ v. c.loop-k.out.items ++ cell_text c.loop-k.self.width c.loop-k.self.column v) (to_z-of_z w128 c.decode.result (search rules) ∙ at));
      width = c.in_ok-push.ensures.width ∙ c.loop-k.invariant.width;
      column = column_step width column c.loop-k.self.width c.loop-k.self.column c.push.new.self.column k c.loop-k.invariant.width c.loop-k.invariant.column c.in_ok-push.ensures.column;
    }

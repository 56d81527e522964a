use Rattle.std.proofs.Common.{◌≡◌, ◌+◌, ◌*◌, ◌/◌, ◌++◌, length, take, get_or, pos, ap, ◌∙◌, take_all, arith, rules}
use Rattle.std.proofs.Math.Nat.{mod-add-div'}
use Rattle.std.specs.Int.{w128}
use Rattle.std.proofs.lemmas.Int.{to_z-of_z}
use Rattle.std.proofs.lemmas.List.{length-take-le, take_more}
use Rattle.h5_model.specs.Scripts.Text.{rows_text}
use Rattle.h5_text.specs.Rows.{cell_text, cells_from}
use Rattle.h5_text.proofs.Appending.{appends_err}
use Rattle.h5_text.proofs.RowLaws.{row_step, column_step}
use Rattle.h5_text.proofs.RowTexts.{cells_are_rows}
use Rattle.h5_text.proofs.rows.push_rows.Goals as goal

pub returns-in_err-push : goal.returns-in_err-push
returns-in_err-push c =
    appends_err c.from_residual.result c.args.out.now.items (cells_from c.args.width 0 (take c.loop-value.value-index c.args.values.now)) c.loop-value.out.items c.push.new.out.items
    (rows_text (length c.args.values.now / c.args.width) c.args.width c.args.values.now) c.from_residual.ensures.0 c.loop-value.invariant.text c.in_err-push.ensures.text

pub loop-value-preserved : goal.loop-value-preserved
loop-value-preserved c =
    let width = c.args.width in
    let k = c.loop-value.value-index in
    let values = c.args.values.now in
    let value = get_or values k (pos 0) in
    record {
      text =
          row_step width 0 c.loop-value.rows.width c.loop-value.rows.column k (take k values) (take (k + 1) values) value c.args.out.now.items c.loop-value.out.items c.push.new.out.items
          c.requires.width c.loop-value.invariant.width c.loop-value.invariant.column (length-take-le k values (omega (arith, c.loop-value-test.true))) (take_more values k (pos 0) c.loop-value-test.true) c.loop-value.invariant.text
          (c.in_ok-push.ensures.text ∙ ap (λ v. c.loop-value.out.items ++ cell_text c.loop-value.rows.width c.loop-value.rows.column v) (to_z-of_z w128 value (search rules)));
      width = c.in_ok-push.ensures.width ∙ c.loop-value.invariant.width;
      column = column_step width 0 c.loop-value.rows.width c.loop-value.rows.column c.push.new.self.column k c.loop-value.invariant.width c.loop-value.invariant.column c.in_ok-push.ensures.column;
    }

pub returns : goal.returns
returns c =
    let width = c.args.width in
    let values = c.args.values.now in
    let rows = length values / width in
    let count : length values ≡ rows * width = omega (arith, mod-add-div' (length values) width, c.requires.whole) in
    c.loop-value.invariant.text ∙ ap (λ vs. c.args.out.now.items ++ cells_from width 0 vs) (take_all c.loop-value.value-index values c.loop-value-test.false)
    ∙ ap (λ t. c.args.out.now.items ++ t) (cells_are_rows rows width values c.requires.width count)

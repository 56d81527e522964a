use Rattle.std.proofs.Common.{◌+◌, ◌∙◌, replicate, to_z, of_z}
use Rattle.std.specs.Int.{w128}
use Rattle.std.proofs.lemmas.List.{length-replicate}
use Rattle.std.proofs.lemmas.Grind.{replicate_next}
use Rattle.h5_text.specs.Rows.{cells_from}
use Rattle.h5_text.proofs.Appending.{appends_err}
use Rattle.h5_text.proofs.RowLaws.{row_step, column_step}
use Rattle.h5_text.proofs.rows.Rows.push_repeated.Goals as goal

pub returns-in_err-push-clause-text : goal.returns-in_err-push-clause-text
returns-in_err-push-clause-text c =
    appends_err c.from_residual.result c.args.out.now.items _ c.loop.out.items c.push.new.out.items
    (cells_from c.args.self.now.width c.args.self.now.column (replicate c.args.count c.args.value)) c.from_residual.ensures.0 c.loop.invariant.text c.in_err-push.ensures.text

pub loop-preserved : goal.loop-preserved
loop-preserved c =
    let v = to_z w128 (of_z w128 c.args.value) in
    let width = c.args.self.now.width in
    let column = c.args.self.now.column in
    let k = c.loop.counter in
    record {
      text =
          row_step width column c.loop.self.width c.loop.self.column k (replicate k v) (replicate (k + 1) v) v c.args.out.now.items c.loop.out.items c.push.new.out.items
          c.args.self.now.in_row c.loop.invariant.width c.loop.invariant.column (length-replicate k v) (replicate_next k v) c.loop.invariant.text c.in_ok-push.ensures.text;
      width = c.in_ok-push.ensures.width ∙ c.loop.invariant.width;
      column = column_step width column c.loop.self.width c.loop.self.column c.push.new.self.column k c.loop.invariant.width c.loop.invariant.column c.in_ok-push.ensures.column;
    }

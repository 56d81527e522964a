use Rattle.std.proofs.Common.{◌≡◌, ◌+◌, ◌*◌, ◌/◌, ◌%◌, ◌<◌, ◌≤◌, [], ◌++◌, length, ℤ, List, min, refl, sym, ap, ◌∙◌, subst, append_assoc, arith}
use Rattle.std.proofs.lemmas.Bool.Decides.{nat_tests}
use Rattle.h5_model.specs.Scripts.Answers.{stored_values}
use Rattle.h5_model.proofs.PlainValues.{size-low}
use Rattle.h5_model.proofs.StoredValues.{length-stored}
use Rattle.h5_text.specs.Printed.{IsPrinted}
use Rattle.h5_text.specs.Rows.{cells_from}
use Rattle.h5_text.proofs.Printing.{prints_err, printed_none}
use Rattle.h5_text.proofs.PrintedRows.{cells_printed, cells_cut, cells_cut_here, column_behind}
use Rattle.h5_text.proofs.RowLaws.{column_start}
use Rattle.h5_text.proofs.StoredParts.{all-stored, stored-parted}
use Rattle.h5_dump.proofs.cells.print_stored.Goals as goal

pub loop-rest-init : goal.loop-rest-init
loop-rest-init g c = record {
  values = [];
  parts = refl;
  text = printed_none (g.W.Write.contents c.args.output.now) c.args.text.now.items;
  width = refl;
  column = column_start c.args.rows.now.width c.args.rows.now.column c.args.rows.now.in_row;
}

pub returns-in_err-push_stored-clause-text : goal.returns-in_err-push_stored-clause-text
returns-in_err-push_stored-clause-text g c =
    let rows = c.args.rows.now in
    let all = stored_values c.args.fixed.now c.args.bytes.now in
    let so_far = c.loop-rest.invariant in
    prints_err c.from_residual.result (g.W.Write.contents c.args.output.now) (g.W.Write.contents c.loop-rest.output) c.args.text.now.items c.push_stored.new.out.items
    (cells_from rows.width rows.column all) c.from_residual.ensures.0
    (cells_cut_here rows.width rows.column rows.in_row (g.W.Write.contents c.args.output.now) (g.W.Write.contents c.loop-rest.output) c.args.text.now.items c.loop-rest.text.items so_far.values so_far.text
    (stored_values c.args.fixed.now c.loop-rest.rest.now) all so_far.parts)

pub returns-in_err-push_stored-clause-width : goal.returns-in_err-push_stored-clause-width
returns-in_err-push_stored-clause-width g c = c.in_err-push_stored.ensures.width ∙ c.loop-rest.invariant.width

pub returns-in_err-write_full-clause-text : goal.returns-in_err-write_full-clause-text
returns-in_err-write_full-clause-text g c =
    let rows = c.args.rows.now in
    let fixed = c.args.fixed.now in
    let all = stored_values fixed c.args.bytes.now in
    let so_far = c.loop-rest.invariant in
    let split : stored_values fixed c.loop-rest.rest.now ≡ stored_values fixed c.split_at.result.0.now ++ stored_values fixed c.split_at.result.1.now =
    stored-parted fixed c.loop-rest.rest.now c.split_at.result.0.now c.split_at.result.1.now 4096 c.min.result (size-low fixed c.size.ensures.one_of)
    (c.min.ensures ∙ ap (λ n. min (length c.loop-rest.rest.now) (4096 * n)) c.size.ensures.size) c.split_at.ensures.front c.split_at.ensures.back in
    prints_err c.from_residual-in_err-write_full.result (g.W.Write.contents c.args.output.now) (g.W.Write.contents c.write_full.new.output) c.args.text.now.items c.write_full.new.held.items
    (cells_from rows.width rows.column all) c.from_residual-in_err-write_full.ensures.0
    (cells_cut rows.width rows.column rows.in_row (g.W.Write.contents c.args.output.now) (g.W.Write.contents c.loop-rest.output) c.args.text.now.items c.loop-rest.text.items so_far.values so_far.text
    c.loop-rest.rows.width c.loop-rest.rows.column so_far.width so_far.column
    (stored_values fixed c.split_at.result.0.now) (stored_values fixed c.split_at.result.1.now) all c.push_stored.new.out.items (g.W.Write.contents c.write_full.new.output)
    (so_far.parts ∙ ap (λ vs. so_far.values ++ vs) split)
    c.in_ok-push_stored.ensures.text c.in_err-write_full.ensures.printed)

pub returns-in_err-write_full-clause-width : goal.returns-in_err-write_full-clause-width
returns-in_err-write_full-clause-width g c = c.in_ok-push_stored.ensures.width ∙ c.loop-rest.invariant.width

pub loop-rest-smaller : goal.loop-rest-smaller
loop-rest-smaller g c =
    let fixed = c.args.fixed.now in
    let some : 1 ≤ fixed.size = size-low fixed c.size.ensures.one_of in
    let left : 0 < length c.loop-rest.rest.now = grind (arith, nat_tests, c.is_empty.ensures, c.loop-rest-test.true) in
    omega (arith, some, left, c.size.ensures.size, c.min.ensures, c.split_at.ensures.back_len)

pub loop-rest-preserved : goal.loop-rest-preserved
loop-rest-preserved g c =
    let fixed = c.args.fixed.now in
    let rows = c.args.rows.now in
    let so_far = c.loop-rest.invariant in
    let part = stored_values fixed c.split_at.result.0.now in
    let behind = stored_values fixed c.split_at.result.1.now in
    let split : stored_values fixed c.loop-rest.rest.now ≡ part ++ behind =
    stored-parted fixed c.loop-rest.rest.now c.split_at.result.0.now c.split_at.result.1.now 4096 c.min.result (size-low fixed c.size.ensures.one_of)
    (c.min.ensures ∙ ap (λ n. min (length c.loop-rest.rest.now) (4096 * n)) c.size.ensures.size) c.split_at.ensures.front c.split_at.ensures.back in
    record {
      values = so_far.values ++ part;
      parts = so_far.parts ∙ ap (λ vs. so_far.values ++ vs) split ∙ sym (append_assoc so_far.values part behind);
      text = cells_printed rows.width rows.column rows.in_row (g.W.Write.contents c.args.output.now) (g.W.Write.contents c.loop-rest.output) c.args.text.now.items c.loop-rest.text.items so_far.values so_far.text
          c.loop-rest.rows.width c.loop-rest.rows.column so_far.width so_far.column part c.push_stored.new.out.items (g.W.Write.contents c.write_full.new.output) c.write_full.new.held.items
          c.in_ok-push_stored.ensures.text c.in_ok-write_full.ensures.printed;
      width = c.in_ok-push_stored.ensures.width ∙ so_far.width;
      column = column_behind rows.width rows.column rows.in_row (g.W.Write.contents c.args.output.now) (g.W.Write.contents c.loop-rest.output) c.args.text.now.items c.loop-rest.text.items so_far.values so_far.text
          c.loop-rest.rows.width c.loop-rest.rows.column so_far.width so_far.column part (length c.split_at.result.0.now / fixed.size) c.push_stored.new.self.column
          (sym (length-stored fixed c.split_at.result.0.now)) c.in_ok-push_stored.ensures.column;
    }

pub returns-clause-text : goal.returns-clause-text
returns-clause-text g c =
    let rows = c.args.rows.now in
    let so_far = c.loop-rest.invariant in
    let none : length c.loop-rest.rest.now ≡ 0 = grind (arith, nat_tests, c.is_empty.ensures, c.loop-rest-test.false) in
    subst (λ (values : List ℤ). IsPrinted (g.W.Write.contents c.args.output.now) (g.W.Write.contents c.loop-rest.output) c.args.text.now.items c.loop-rest.text.items (cells_from rows.width rows.column values))
    (all-stored c.args.fixed.now c.args.bytes.now c.loop-rest.rest.now so_far.values so_far.parts none) so_far.text

pub returns-clause-width : goal.returns-clause-width
returns-clause-width g c = c.loop-rest.invariant.width

pub returns-clause-column : goal.returns-clause-column
returns-clause-column g c =
    let rows = c.args.rows.now in
    let so_far = c.loop-rest.invariant in
    let none : length c.loop-rest.rest.now ≡ 0 = grind (arith, nat_tests, c.is_empty.ensures, c.loop-rest-test.false) in
    so_far.column
    ∙ ap (λ (values : List ℤ). (rows.column + length values) % rows.width) (all-stored c.args.fixed.now c.args.bytes.now c.loop-rest.rest.now so_far.values so_far.parts none)
    ∙ ap (λ n. (rows.column + n) % rows.width) (length-stored c.args.fixed.now c.args.bytes.now)

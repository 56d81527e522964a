use Rattle.std.proofs.Common.{◌≡◌, ◌+◌, ◌-◌, ◌%◌, ◌≤◌, ℤ, List, [], ◌++◌, length, replicate, to_z, of_z, refl, sym, ap, ◌∙◌, subst, append_assoc, arith, rules}
use Rattle.std.proofs.lemmas.Int.{to_z-of_z}
use Rattle.std.proofs.lemmas.List.{length-replicate}
use Rattle.std.specs.Int.{w128}
use Rattle.h5_text.specs.Printed.{IsPrinted}
use Rattle.h5_text.specs.Rows.{cells_from}
use Rattle.h5_text.proofs.Printing.{prints_err, printed_none}
use Rattle.h5_text.proofs.PrintedRows.{cells_printed, cells_cut, cells_cut_here, column_behind}
use Rattle.h5_text.proofs.RowLaws.{column_start}
use Rattle.h5_dump.proofs.Dumps.{split-replicate, all-replicate}
use Rattle.h5_dump.proofs.cells.print_repeated.Goals as goal

pub loop-left-init : goal.loop-left-init
loop-left-init g c = record {
  values = [];
  parts = refl;
  text = printed_none (g.W.Write.contents c.args.output.now) c.args.text.now.items;
  width = refl;
  column = column_start c.args.rows.now.width c.args.rows.now.column c.args.rows.now.in_row;
}

pub returns-in_err-push_repeated-clause-text : goal.returns-in_err-push_repeated-clause-text
returns-in_err-push_repeated-clause-text g c =
    let rows = c.args.rows.now in
    let v = to_z w128 (of_z w128 c.args.value) in
    let same : v ≡ c.args.value = to_z-of_z w128 c.args.value (search rules) in
    let so_far = c.loop-left.invariant in
    prints_err c.from_residual.result (g.W.Write.contents c.args.output.now) (g.W.Write.contents c.loop-left.output) c.args.text.now.items c.push_repeated.new.out.items
    (cells_from rows.width rows.column (replicate c.args.count c.args.value)) c.from_residual.ensures.0
    (cells_cut_here rows.width rows.column rows.in_row (g.W.Write.contents c.args.output.now) (g.W.Write.contents c.loop-left.output) c.args.text.now.items c.loop-left.text.items so_far.values so_far.text
    (replicate c.loop-left.left v) (replicate c.args.count c.args.value) (ap (λ x. replicate c.args.count x) (sym same) ∙ so_far.parts))

pub returns-in_err-push_repeated-clause-width : goal.returns-in_err-push_repeated-clause-width
returns-in_err-push_repeated-clause-width g c = c.in_err-push_repeated.ensures.width ∙ c.loop-left.invariant.width

pub returns-in_err-write_full-clause-text : goal.returns-in_err-write_full-clause-text
returns-in_err-write_full-clause-text g c =
    let rows = c.args.rows.now in
    let v = to_z w128 (of_z w128 c.args.value) in
    let same : v ≡ c.args.value = to_z-of_z w128 c.args.value (search rules) in
    let so_far = c.loop-left.invariant in
    let n = c.min-part.result in
    let few : n ≤ c.loop-left.left = omega (arith, c.min-part.ensures) in
    prints_err c.from_residual-in_err-write_full.result (g.W.Write.contents c.args.output.now) (g.W.Write.contents c.write_full.new.output) c.args.text.now.items c.write_full.new.held.items
    (cells_from rows.width rows.column (replicate c.args.count c.args.value)) c.from_residual-in_err-write_full.ensures.0
    (cells_cut rows.width rows.column rows.in_row (g.W.Write.contents c.args.output.now) (g.W.Write.contents c.loop-left.output) c.args.text.now.items c.loop-left.text.items so_far.values so_far.text
    c.loop-left.rows.width c.loop-left.rows.column so_far.width so_far.column
    (replicate n v) (replicate (c.loop-left.left - n) v) (replicate c.args.count c.args.value) c.push_repeated.new.out.items (g.W.Write.contents c.write_full.new.output)
    (ap (λ x. replicate c.args.count x) (sym same) ∙ so_far.parts ∙ ap (λ vs. so_far.values ++ vs) (split-replicate n c.loop-left.left v few))
    c.in_ok-push_repeated.ensures.text c.in_err-write_full.ensures.printed)

pub returns-in_err-write_full-clause-width : goal.returns-in_err-write_full-clause-width
returns-in_err-write_full-clause-width g c = c.in_ok-push_repeated.ensures.width ∙ c.loop-left.invariant.width

pub loop-left-preserved : goal.loop-left-preserved
loop-left-preserved g c =
    let rows = c.args.rows.now in
    let v = to_z w128 (of_z w128 c.args.value) in
    let so_far = c.loop-left.invariant in
    let n = c.min-part.result in
    let few : n ≤ c.loop-left.left = omega (arith, c.min-part.ensures) in
    record {
      values = so_far.values ++ replicate n v;
      parts = so_far.parts ∙ ap (λ vs. so_far.values ++ vs) (split-replicate n c.loop-left.left v few) ∙ sym (append_assoc so_far.values (replicate n v) (replicate (c.loop-left.left - n) v));
      text = cells_printed rows.width rows.column rows.in_row (g.W.Write.contents c.args.output.now) (g.W.Write.contents c.loop-left.output) c.args.text.now.items c.loop-left.text.items so_far.values so_far.text
          c.loop-left.rows.width c.loop-left.rows.column so_far.width so_far.column (replicate n v) c.push_repeated.new.out.items (g.W.Write.contents c.write_full.new.output) c.write_full.new.held.items
          c.in_ok-push_repeated.ensures.text c.in_ok-write_full.ensures.printed;
      width = c.in_ok-push_repeated.ensures.width ∙ so_far.width;
      column = column_behind rows.width rows.column rows.in_row (g.W.Write.contents c.args.output.now) (g.W.Write.contents c.loop-left.output) c.args.text.now.items c.loop-left.text.items so_far.values so_far.text
          c.loop-left.rows.width c.loop-left.rows.column so_far.width so_far.column (replicate n v) n c.push_repeated.new.self.column
          (sym (length-replicate n v)) c.in_ok-push_repeated.ensures.column;
    }

pub returns-clause-text : goal.returns-clause-text
returns-clause-text g c =
    let rows = c.args.rows.now in
    let v = to_z w128 (of_z w128 c.args.value) in
    let same : v ≡ c.args.value = to_z-of_z w128 c.args.value (search rules) in
    let so_far = c.loop-left.invariant in
    subst (λ (values : List ℤ). IsPrinted (g.W.Write.contents c.args.output.now) (g.W.Write.contents c.loop-left.output) c.args.text.now.items c.loop-left.text.items (cells_from rows.width rows.column values))
    (all-replicate c.args.count c.loop-left.left v so_far.values so_far.parts (omega (arith, c.loop-left-test.false)) ∙ ap (λ x. replicate c.args.count x) same) so_far.text

pub returns-clause-width : goal.returns-clause-width
returns-clause-width g c = c.loop-left.invariant.width

pub returns-clause-column : goal.returns-clause-column
returns-clause-column g c =
    let rows = c.args.rows.now in
    let v = to_z w128 (of_z w128 c.args.value) in
    let so_far = c.loop-left.invariant in
    so_far.column
    ∙ ap (λ (values : List ℤ). (rows.column + length values) % rows.width) (all-replicate c.args.count c.loop-left.left v so_far.values so_far.parts (omega (arith, c.loop-left-test.false)))
    ∙ ap (λ n. (rows.column + n) % rows.width) (length-replicate c.args.count v)

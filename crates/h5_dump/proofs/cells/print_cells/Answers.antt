use Rattle.std.proofs.Common.{◌≡◌, ℕ, ◌<◌, ◌++◌, ℤ, List, [], length, to_z, of_z, refl, sym, ap, ◌∙◌, subst, append_assoc, append-nil, arith, rules}
use Rattle.std.specs.Int.{w128}
use Rattle.std.proofs.lemmas.Int.{to_z-of_z}
use Rattle.h5_model.specs.Format.Fixed.{Fixed}
use Rattle.h5_model.specs.Scripts.Text.{cells_text, row_length}
use Rattle.h5_model.specs.Tree.Objects.{Array}
use Rattle.h5_model.specs.Tree.Places.{cells}
use Rattle.h5_text.specs.Printed.{IsPrinted, WritesSome}
use Rattle.h5_text.specs.Rows.{cells_from}
use Rattle.h5_text.proofs.Printing.{printed_none, prints_err}
use Rattle.h5_text.proofs.PrintedRows.{cells_begun, cells_more, column_behind}
use Rattle.h5_text.proofs.RowLaws.{column_start}
use Rattle.h5_file.specs.Pieces.{piece_values}
use Rattle.h5_dump.proofs.Dumps.{all-cells, same-both, some-width}
use Rattle.h5_dump.proofs.cells.print_cells.Goals as goal

pub new-rows-requires : goal.new-rows-requires
new-rows-requires g c =
    let told = c.array-told.result.now in
    let some : 0 < cells told.sizes = omega (arith, c.cells.ensures.exact, c.if-cells-eq0.false) in
    subst (λ (w : ℕ). 0 < w) (sym (c.row_length.ensures ∙ ap row_length (c.sizes.ensures.numbers ∙ c.dims.ensures.sizes))) (some-width told.sizes some)

pub loop-piece-init : goal.loop-piece-init
loop-piece-init g c =
    let left = c.into_iter-piece-iterator.ensures.into_iter_gives ∙ c.all-piece-items.ensures in
    record {
      values = [];
      parts = sym (ap (λ r. r.values) left);
      fixed = ap (λ r. r.fixed) left;
      fill = ap (λ r. r.fill) left;
      text = printed_none (g.W.Write.contents c.args.output.now) c.args.text.now.items;
      width = refl;
      column = column_start c.new-rows.result.width c.new-rows.result.column c.new-rows.result.in_row;
    }

pub loop-piece-preserved : goal.loop-piece-preserved
loop-piece-preserved g c =
    let rows = c.new-rows.result in
    let so_far = c.loop-piece.invariant in
    let left = c.loop-piece.piece-iterator in
    let step = c.in-Some.ensures.steps in
    let part = piece_values left.fixed left.fill c.in-Some.piece in
    let same : piece_values c.fixed-fixed.result (to_z w128 (of_z w128 c.fill-fill.result)) c.in-Some.piece ≡ part =
    same-both (λ (t : Fixed) (v : ℤ). piece_values t v c.in-Some.piece) c.fixed-fixed.result left.fixed (to_z w128 (of_z w128 c.fill-fill.result)) left.fill
    (c.fixed-fixed.ensures ∙ c.array-told.ensures.fixed ∙ sym so_far.fixed)
    (to_z-of_z w128 c.fill-fill.result (search rules) ∙ c.fill-fill.ensures.value ∙ c.array-told.ensures.fill ∙ sym so_far.fill) in
    record {
      values = so_far.values ++ part;
      parts = so_far.parts ∙ ap (λ vs. so_far.values ++ vs) step.values ∙ sym (append_assoc so_far.values part c.next.new.self.values);
      fixed = step.fixed ∙ so_far.fixed;
      fill = step.fill ∙ so_far.fill;
      text = cells_more rows.width rows.column rows.in_row (g.W.Write.contents c.args.output.now) (g.W.Write.contents c.loop-piece.output) c.args.text.now.items c.loop-piece.text.items so_far.values so_far.text
          c.loop-piece.rows.width c.loop-piece.rows.column so_far.width so_far.column part (g.W.Write.contents c.print_piece.new.output) c.print_piece.new.text.items
          (subst (λ (vs : List ℤ). IsPrinted (g.W.Write.contents c.loop-piece.output) (g.W.Write.contents c.print_piece.new.output) c.loop-piece.text.items c.print_piece.new.text.items
          (cells_from c.loop-piece.rows.width c.loop-piece.rows.column vs)) same c.in_ok-print_piece.ensures.text);
      width = c.in_ok-print_piece.ensures.width ∙ so_far.width;
      column = column_behind rows.width rows.column rows.in_row (g.W.Write.contents c.args.output.now) (g.W.Write.contents c.loop-piece.output) c.args.text.now.items c.loop-piece.text.items so_far.values so_far.text
          c.loop-piece.rows.width c.loop-piece.rows.column so_far.width so_far.column part _ c.print_piece.new.rows.column (ap (λ (vs : List ℤ). length vs) same) c.in_ok-print_piece.ensures.column;
    }

pub returns-in_err-print_piece : goal.returns-in_err-print_piece
returns-in_err-print_piece g c =
    let d = c.args.array.now in
    let told = c.array-told.result.now in
    let rows = c.new-rows.result in
    let so_far = c.loop-piece.invariant in
    let left = c.loop-piece.piece-iterator in
    let step = c.in-Some.ensures.steps in
    let part = piece_values left.fixed left.fill c.in-Some.piece in
    let same : piece_values c.fixed-fixed.result (to_z w128 (of_z w128 c.fill-fill.result)) c.in-Some.piece ≡ part =
    same-both (λ (t : Fixed) (v : ℤ). piece_values t v c.in-Some.piece) c.fixed-fixed.result left.fixed (to_z w128 (of_z w128 c.fill-fill.result)) left.fill
    (c.fixed-fixed.ensures ∙ c.array-told.ensures.fixed ∙ sym so_far.fixed)
    (to_z-of_z w128 c.fill-fill.result (search rules) ∙ c.fill-fill.ensures.value ∙ c.array-told.ensures.fill ∙ sym so_far.fill) in
    let some : 0 < cells d.sizes = subst (λ (sizes : List ℕ). 0 < cells sizes) c.array-told.ensures.sizes (omega (arith, c.cells.ensures.exact, c.if-cells-eq0.false)) in
    let wide = c.new-rows.ensures.width ∙ c.row_length.ensures ∙ ap row_length (c.sizes.ensures.numbers ∙ c.dims.ensures.sizes ∙ c.array-told.ensures.sizes) in
    prints_err c.from_residual.result (g.W.Write.contents c.args.output.now) (g.W.Write.contents c.print_piece.new.output) c.args.text.now.items c.print_piece.new.text.items (cells_text (Array d)) c.from_residual.ensures.0
    (subst (λ (text : List ℕ). WritesSome (g.W.Write.contents c.args.output.now) (g.W.Write.contents c.print_piece.new.output) (c.args.text.now.items ++ text))
    (all-cells d c.array-told.ensures.sound.counted some rows.width rows.column wide c.new-rows.ensures.column d.cells refl)
    (cells_begun rows.width rows.column rows.in_row (g.W.Write.contents c.args.output.now) (g.W.Write.contents c.loop-piece.output) c.args.text.now.items c.loop-piece.text.items so_far.values so_far.text
    c.loop-piece.rows.width c.loop-piece.rows.column so_far.width so_far.column part c.next.new.self.values d.cells (g.W.Write.contents c.print_piece.new.output)
    (so_far.parts ∙ ap (λ vs. so_far.values ++ vs) step.values)
    (subst (λ (vs : List ℤ). WritesSome (g.W.Write.contents c.loop-piece.output) (g.W.Write.contents c.print_piece.new.output) (c.loop-piece.text.items ++ cells_from c.loop-piece.rows.width c.loop-piece.rows.column vs)) same
    c.in_err-print_piece.ensures.text)))

pub returns : goal.returns
returns g c =
    let d = c.args.array.now in
    let rows = c.new-rows.result in
    let so_far = c.loop-piece.invariant in
    let step = c.in-None.ensures.steps in
    let some : 0 < cells d.sizes = subst (λ (sizes : List ℕ). 0 < cells sizes) c.array-told.ensures.sizes (omega (arith, c.cells.ensures.exact, c.if-cells-eq0.false)) in
    let wide = c.new-rows.ensures.width ∙ c.row_length.ensures ∙ ap row_length (c.sizes.ensures.numbers ∙ c.dims.ensures.sizes ∙ c.array-told.ensures.sizes) in
    let all : so_far.values ≡ d.cells = sym (so_far.parts ∙ ap (λ vs. so_far.values ++ vs) step.0 ∙ append-nil so_far.values) in
    subst (λ (text : List ℕ). IsPrinted (g.W.Write.contents c.args.output.now) (g.W.Write.contents c.loop-piece.output) c.args.text.now.items c.loop-piece.text.items text)
    (all-cells d c.array-told.ensures.sound.counted some rows.width rows.column wide c.new-rows.ensures.column so_far.values all) so_far.text

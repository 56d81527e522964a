use Rattle.std.proofs.Common.{◌≡◌, ◌+◌, ◌-◌, ◌*◌, ◌%◌, suc, arith, ap, ◌∙◌}
use Rattle.h5_model.specs.Tree.Places.{cells}
use Rattle.h5_shape.specs.PartCells.{selection_shape}
use Rattle.h5_shape.specs.Rows.{cells_at, row_cells, selected_place}
use Rattle.h5_shape.proofs.AlongLaws.{quotient-low}
use Rattle.h5_shape.proofs.RowLaws.{begins_rows, row-small, selection-rows, shape_some}
use Rattle.h5_shape.proofs.rows.RowWalk.of.Goals as goal

pub row_cells-requires-clause-small : goal.row_cells-requires-clause-small
row_cells-requires-clause-small c = omega (arith, row-small _ c.select.new.self c.select.ensures.rowed, c.select.ensures.few, c.requires.small)

pub row_cells-requires-clause-long : goal.row_cells-requires-clause-long
row_cells-requires-clause-long c = c.select.ensures.rowed.long

pub returns-clause-walk : goal.returns-clause-walk
returns-clause-walk c =
    let r = c.select.new.self in
    let h = c.select.ensures.rowed in
    let whole : suc (r.count - 1) ≡ r.count = omega (arith, h.rows) in
    let all : row_cells r + (r.count - 1) * row_cells r ≡ r.count * row_cells r = omega arith ∙ ap (λ n. n * row_cells r) whole in
    record {
      rank = c.requires.rank;
      fits = c.requires.fits;
      some = c.requires.some;
      apart = c.requires.apart;
      small = c.requires.small;
      few = omega (arith, c.select.ensures.all, c.select.ensures.few, c.requires.small);
      ahead = omega (arith, c.row_cells.ensures, all, c.select.ensures.all);
      long = h.long;
      left = omega arith;
      gaps = c.select.ensures.gaps;
    }

pub returns-clause-long : goal.returns-clause-long
returns-clause-long c = c.select.ensures.rowed.long

pub returns-clause-all : goal.returns-clause-all
returns-clause-all c =
    let r = c.select.new.self in
    let h = c.select.ensures.rowed in
    let sizes = c.args.sizes.now in
    let axes = c.args.axes.now in
    let f = selected_place sizes axes in
    let none : 0 % cells (selection_shape axes) ≡ 0 = (quotient-low (cells (selection_shape axes)) 0 (shape_some axes c.requires.some)).1 in
    let first : c.place_at-place.result.place ≡ f 0 = c.place_at-place.ensures.place ∙ ap f none in
    ap (cells_at r.length) (begins_rows f r c.place_at-place.result.place c.row_cells.result h.rows first c.row_cells.ensures)
    ∙ selection-rows sizes axes r c.requires.rank c.requires.fits c.requires.apart h c.select.ensures.all

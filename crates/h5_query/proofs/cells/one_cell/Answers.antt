use Rattle.std.proofs.Common.{◌≡◌, ◌∙◌, ap, sym, length, rules, to_z, of_z}
use mir.Syntax.{w128}
use Rattle.h5_query.proofs.Calls.{cell_there}
use Rattle.h5_query.proofs.cells.one_cell.Goals as goal

pub returns : goal.returns
returns c =
    let exact : to_z w128 (of_z w128 c.cell.result) ≡ c.cell.result = search rules in
    cell_there c.args.opened.now.tree c.args.path.now _ c.in_ok-array.ensures.there c.args.index.now (to_z w128 (of_z w128 c.cell.result))
    (c.if-index-sizes.false ∙ ap length (c.sizes.ensures.numbers ∙ c.dims-dims.ensures.sizes ∙ c.array.ensures.sizes))
    (sym (rw (c.dims-dims.ensures.sizes, c.array.ensures.sizes) at c.if-not-is_inside.ensures.value)) (exact ∙ c.cell.ensures)

use Rattle.std.proofs.Common.{◌≡◌, arith}
use Rattle.h5_model.specs.Views.Selection.{selected_cells}
use Rattle.h5_file.proofs.FollowLaws.{empty_patched, has_grid, nothing_patched, some_counted}
use Rattle.h5_file.proofs.SlabLaws.{none_selected}
use Rattle.h5_file.proofs.views.patch_met.Goals as goal

pub misses-requires : goal.misses-requires
misses-requires c = (c.args.array.now, has_grid c.args.array.now c.args.touched.now c.args.grid.now c.requires.array)

pub returns-then-misses-clause-met : goal.returns-then-misses-clause-met
returns-then-misses-clause-met c =
    let r = c.requires.array in
    nothing_patched c.args.array.now r.sound c.args.touched.now r.touch c.args.slab.now c.args.kept.now
    (c.misses.ensures c.if-misses.true c.args.array.now (has_grid c.args.array.now c.args.touched.now c.args.grid.now r))

pub returns-then-cells-eq0-clause-met : goal.returns-then-cells-eq0-clause-met
returns-then-cells-eq0-clause-met c =
    let r = c.requires.array in
    let none : selected_cells c.args.slab.now ≡ 0 = omega (arith, c.cells.ensures, c.if-cells-eq0.true) in
    empty_patched c.args.array.now r.sound c.args.touched.now r.touch c.args.slab.now c.args.kept.now (none_selected c.args.slab.now none)

pub patch_each-requires-clause-apart : goal.patch_each-requires-clause-apart
patch_each-requires-clause-apart c = c.requires.apart (some_counted c.args.slab.now c.cells.result c.cells.ensures c.if-cells-eq0.false)

use Rattle.std.proofs.Common.{rules, ◌<◌, ◌∙◌, ap, length, get_or, sym, arith}
use Rattle.h5_model.specs.Views.Selection.{Slab}
use Rattle.h5_shape.proofs.AxesLaws.{are_long, axis_is}
use Rattle.h5_shape.proofs.axes.Axes.at.Goals as goal

pub offset_bounds-start-k : goal.offset_bounds-start-k
offset_bounds-start-k c =
    let long = are_long c.self.inside.lists c.args.self.now c.self.invariant c.self.view_is in
    let there : c.args.k < length c.start.result.now = rw c.start.ensures (omega (arith, long.start, c.requires)) in
    search rules

pub bounds-start-k : goal.bounds-start-k
bounds-start-k c =
    let long = are_long c.self.inside.lists c.args.self.now c.self.invariant c.self.view_is in
    rw c.start.ensures (omega (arith, long.start, c.requires))

pub offset_bounds-stride-k : goal.offset_bounds-stride-k
offset_bounds-stride-k c =
    let long = are_long c.self.inside.lists c.args.self.now c.self.invariant c.self.view_is in
    let there : c.args.k < length c.stride.result.now = rw c.stride.ensures (omega (arith, long.stride, c.requires)) in
    search rules

pub bounds-stride-k : goal.bounds-stride-k
bounds-stride-k c =
    let long = are_long c.self.inside.lists c.args.self.now c.self.invariant c.self.view_is in
    rw c.stride.ensures (omega (arith, long.stride, c.requires))

pub offset_bounds-count-k : goal.offset_bounds-count-k
offset_bounds-count-k c =
    let long = are_long c.self.inside.lists c.args.self.now c.self.invariant c.self.view_is in
    let there : c.args.k < length c.count.result.now = rw c.count.ensures (omega (arith, long.count, c.requires)) in
    search rules

pub bounds-count-k : goal.bounds-count-k
bounds-count-k c =
    let long = are_long c.self.inside.lists c.args.self.now c.self.invariant c.self.view_is in
    rw c.count.ensures (omega (arith, long.count, c.requires))

pub offset_bounds-block-k : goal.offset_bounds-block-k
offset_bounds-block-k c =
    let long = are_long c.self.inside.lists c.args.self.now c.self.invariant c.self.view_is in
    let there : c.args.k < length c.block.result.now = rw c.block.ensures (omega (arith, long.block, c.requires)) in
    search rules

pub bounds-block-k : goal.bounds-block-k
bounds-block-k c =
    let long = are_long c.self.inside.lists c.args.self.now c.self.invariant c.self.view_is in
    rw c.block.ensures (omega (arith, long.block, c.requires))

pub returns : goal.returns
returns c d =
    let lists = c.self.inside.lists in
    let long = are_long lists c.args.self.now c.self.invariant c.self.view_is in
    rw (c.start.ensures, c.stride.ensures, c.count.ensures, c.block.ensures)
    (sym (axis_is c.args.k lists.start lists.stride lists.count lists.block d (omega (arith, long.start, c.requires)) (omega (arith, long.stride, c.requires))
    (omega (arith, long.count, c.requires)) (omega (arith, long.block, c.requires)))
    ∙ ap (λ (s : Slab). get_or s c.args.k d) c.self.view_is)

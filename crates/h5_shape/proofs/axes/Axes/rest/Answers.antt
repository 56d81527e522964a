use Rattle.std.proofs.Common.{◌≡◌, ◌∙◌, ap, drop, arith, refl}
use Rattle.h5_model.specs.Views.Selection.{Slab, axes_from, axes_of}
use Rattle.h5_shape.proofs.AxesLaws.{are_long, rest_is, tail_of}
use Rattle.h5_shape.proofs.axes.Axes.rest.Goals as goal

pub returns : goal.returns
returns c =
    let lists = c.self.inside.lists in
    let long = are_long lists c.args.self.now c.self.invariant c.self.view_is in
    let tails : axes_of c.new-lists.result ≡ axes_from (drop 1 lists.start) (drop 1 lists.stride) (drop 1 lists.count) (drop 1 lists.block) =
    rw (c.new-lists.ensures, c.start.ensures, c.stride.ensures, c.count.ensures, c.block.ensures, tail_of lists.start, tail_of lists.stride, tail_of lists.count, tail_of lists.block) refl in
    tails
    ∙ rest_is lists.start lists.stride lists.count lists.block (omega (arith, long.start, c.requires)) (omega (arith, long.stride, c.requires))
    (omega (arith, long.count, c.requires)) (omega (arith, long.block, c.requires))
    ∙ ap (λ (s : Slab). drop 1 s) c.self.view_is

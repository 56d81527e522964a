use Rattle.std.proofs.Common.{arith, ◌∙◌}
use Rattle.h5_shape.proofs.Products.{cells_le}
use Rattle.h5_edit.proofs.WrittenTrees.{sizes_are}
use Rattle.h5_edit.proofs.written.dims_of.Goals as goal

pub returns-clause-sizes : goal.returns-clause-sizes
returns-clause-sizes c d array =
    c.in-Some.ensures.numbers ∙ c.sizes.ensures.numbers ∙ c.dims.ensures.sizes
    ∙ sizes_are c.args.opened.now c.args.number c.described_of-array.result c.described_of-array.ensures.there d array

pub returns-clause-small : goal.returns-clause-small
returns-clause-small c =
    let small = c.dims.ensures.sound.small in
    let le = cells_le c.described_of-array.result.sizes in
    rw (c.in-Some.ensures.numbers ∙ c.sizes.ensures.numbers ∙ c.dims.ensures.sizes) (omega (arith, small, le))

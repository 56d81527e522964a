use Rattle.std.proofs.Common.{◌-◌, ◌^◌, ap, ◌∙◌, arith, min}
use Rattle.h5_model.specs.Tree.Places.{cells}
use Rattle.h5_shape.proofs.Products.{cells_le}
use Rattle.h5_layout.proofs.array.ArrayRef.cells.Goals as goal

pub returns-clause-exact : goal.returns-clause-exact
returns-clause-exact c =
    let sizes = c.args.self.now.sizes in
    let all = c.cells.ensures ∙ ap (λ ds. min (cells ds) (2 ^ 64 - 1)) c.dims.ensures.sizes in
    omega (arith, all, cells_le sizes, c.dims.ensures.sound.small)

pub returns-clause-few : goal.returns-clause-few
returns-clause-few c =
    let sizes = c.args.self.now.sizes in
    let all = c.cells.ensures ∙ ap (λ ds. min (cells ds) (2 ^ 64 - 1)) c.dims.ensures.sizes in
    omega (arith, all, cells_le sizes, c.dims.ensures.sound.small)

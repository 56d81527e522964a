use Rattle.std.proofs.Common.{◌≡◌, ◌≤◌, ℕ, List, length, ap, sym, ◌∙◌, arith}
use Rattle.h5_model.specs.Tree.Places.{cells}
use Rattle.h5_model.specs.Tree.Objects.{Attribute}
use Rattle.h5_model.proofs.PlainValues.{size-low}
use Rattle.h5_msg.proofs.AttributeLaws.{cells_few, length-values}
use Rattle.h5_msg.proofs.attribute.AttributeBody.cells.Goals as goal

exact : (c : goal.After-cells) → c.cells.result ≡ cells c.self.inside.extent.sizes
exact c =
    let some : 1 ≤ (c.self.inside.fixed).size = size-low c.self.inside.fixed c.size-size.ensures.one_of in
    let few = cells_few c.self.inside.place (cells c.self.inside.extent.sizes) (c.self.inside.fixed).size (length c.self.inside.body.now) some c.self.invariant in
    omega (arith, few, c.self.told.0)

pub returns-clause-cells : goal.returns-clause-cells
returns-clause-cells c = exact c ∙ ap (λ (v : List ℕ × Attribute). cells v.1.sizes) c.self.view_is

pub returns-clause-values : goal.returns-clause-values
returns-clause-values c =
    exact c ∙ sym (length-values c.self.inside.fixed c.self.inside.body.now c.self.inside.place (cells c.self.inside.extent.sizes))
    ∙ ap (λ (v : List ℕ × Attribute). length v.1.values) c.self.view_is

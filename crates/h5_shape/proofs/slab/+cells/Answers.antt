use Rattle.std.proofs.Common.{◌≡◌, ◌-◌, ◌^◌, ◌*◌, ◌∙◌}
use Rattle.std.specs.Prelude.{min}
use Rattle.h5_model.specs.Views.Selection.{selected_cells}
use Rattle.h5_shape.proofs.Products.{min_product}
use Rattle.h5_shape.proofs.slab.+cells.Goals as goal

pub returns : goal.returns
returns t c =
    let axis = c.in-Some.axis in
    let made : c.saturating_mul-2.result ≡ min ((axis.count * axis.block) * selected_cells c.rest.result) (2 ^ 64 - 1) =
    c.saturating_mul-2.ensures ∙ (λ i. min (c.saturating_mul.ensures i * c.cells.ensures i) (2 ^ 64 - 1)) ∙ min_product (2 ^ 64 - 1) (axis.count * axis.block) (selected_cells c.rest.result) in
    rw (c.in-Some.ensures, ← c.rest.ensures) made

use Rattle.std.proofs.Common.{◌∙◌, arith}
use Rattle.h5_shape.proofs.Products.{cells_le}
use Rattle.h5_edit.proofs.FoundStanding.{values_decide, values_of_run}
use Rattle.h5_edit.proofs.RuleLaws.Exits.{passed_on}
use Rattle.h5_edit.proofs.rules.write.check_cells.Goals as goal

pub one_run-requires : goal.one_run-requires
one_run-requires c =
    let small = c.dims.ensures.sound.small in
    let le = cells_le c.args.array.now.sizes in
    rw c.dims.ensures.sizes (record { small = omega (arith, small, le) })

pub returns-in_err-check_values : goal.returns-in_err-check_values
returns-in_err-check_values c =
    let one = rw c.dims.ensures.sizes at c.in-Some.ensures.run in
    passed_on _ _ c.from_residual-in_err-check_values.result _ c.from_residual-in_err-check_values.ensures.1
    (values_decide c.args.array.now c.args.hyper.now c.args.values.now _ one ∙ c.in_err-check_values.ensures)

pub returns : goal.returns
returns c =
    let one = rw c.dims.ensures.sizes at c.in-Some.ensures.run in (
      values_decide c.args.array.now c.args.hyper.now c.args.values.now _ one ∙ c.in_ok-check_values.ensures,
      values_of_run c.args.array.now c.args.hyper.now c.args.values.now _ one c.in_ok-check_values.ensures,
    )

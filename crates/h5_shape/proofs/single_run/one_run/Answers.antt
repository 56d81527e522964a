use Rattle.std.proofs.Common.{◌≡◌, true, length, List, ℕ, ap, arith}
use Rattle.h5_model.specs.Views.Selection.{has_rank}
use Rattle.h5_shape.proofs.OneRunLaws.{one-run_from, one-run_inner}
use Rattle.h5_shape.proofs.single_run.one_run.Goals as goal

pub returns-in_err-place-clause-exact : goal.returns-in_err-place-clause-exact
returns-in_err-place-clause-exact c = λ run one.
    absurd (one-run_inner c.args.dims.now c.args.hyper.now run one (rw (c.sizes-sizes.ensures.numbers, c.in_ok-axes.ensures.axes) at c.in_err-place.ensures))

pub returns-clause-run : goal.returns-clause-run
returns-clause-run c =
    let wide : length c.in_ok-axes.axes ≡ length c.args.dims.now =
    omega (arith, c.len.ensures, c.if-len-sizes.false, ap (λ (sizes : List ℕ). length sizes) c.sizes-sizes.ensures.numbers) in
    let ranks : has_rank (length c.args.dims.now) c.args.hyper.now ≡ true = rw wide at c.in_ok-axes.ensures.rank in
    one-run_from c.args.dims.now c.args.hyper.now c.in_ok-place.field-0 ranks c.sizes-sizes.ensures.rank
    (rw (c.sizes-sizes.ensures.numbers, c.in_ok-axes.ensures.axes) at c.in_ok-place.ensures)

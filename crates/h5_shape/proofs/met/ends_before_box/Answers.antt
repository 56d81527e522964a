use Rattle.std.proofs.Common.{◌-◌, ◌%◌, ◌<◌, arith}
use Rattle.std.proofs.lemmas.Bool.Decides.{nat_tests}
use Rattle.h5_shape.proofs.met.ends_before_box.Goals as goal

pub returns : goal.returns
returns c before =
    let less : c.last.result < c.args.number - c.args.number % c.args.size = grind (arith, nat_tests, before) in
    omega (arith, less, c.last.ensures, c.ranges.number.fits)

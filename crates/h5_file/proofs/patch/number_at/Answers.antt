use Rattle.std.proofs.Common.{arith}
use Rattle.h5_shape.proofs.AxisNumbers.{number_low}
use Rattle.h5_file.proofs.patch.number_at.Goals as goal

pub overflow_add-result : goal.overflow_add-result
overflow_add-result c = record { fits = omega (arith, number_low c.args.axis.now c.args.t c.requires.inside c.requires.top) }

pub overflow_add-result-2 : goal.overflow_add-result-2
overflow_add-result-2 c = record { fits = omega (arith, number_low c.args.axis.now c.args.t c.requires.inside c.requires.top) }

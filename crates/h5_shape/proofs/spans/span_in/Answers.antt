use Rattle.std.proofs.Common.{arith}
use Rattle.h5_shape.proofs.AxisNumbers.{cells_low}
use Rattle.h5_shape.proofs.spans.span_in.Goals as goal

pub overflow_cast-result : goal.overflow_cast-result
overflow_cast-result c = record { fits = omega (arith, cells_low c.args.axis.now c.requires.apart c.requires.top, c.numbers_below-from.ensures.0) }

pub overflow_cast-result-2 : goal.overflow_cast-result-2
overflow_cast-result-2 c = record { fits = omega (arith, cells_low c.args.axis.now c.requires.apart c.requires.top, c.numbers_below-end.ensures.0, c.saturating_sub.ensures) }

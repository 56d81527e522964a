use Rattle.std.proofs.Common.{arith}
use Rattle.h5_shape.proofs.InnerSteps.{axis_here}
use Rattle.h5_shape.proofs.axes.Axes.first.Goals as goal

pub returns : goal.returns
returns c = axis_here c.args.self.now 0 c.at.result (omega (arith, c.len.ensures, c.if-len-eq0.false)) (c.at.ensures c.at.result)

use Rattle.std.proofs.Common.{◌-◌, length}
use Rattle.h5_shape.proofs.parts.+start.Given as goal

abbrev pub decreases-start : goal.decreases-start
decreases-start l = length l.spans.now - l.k

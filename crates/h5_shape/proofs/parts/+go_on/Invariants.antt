use Rattle.std.proofs.Common.{◌-◌, length}
use Rattle.h5_shape.proofs.parts.+go_on.Given as goal

abbrev pub decreases-go_on : goal.decreases-go_on
decreases-go_on l = length l.spans.now - l.k

use Rattle.std.proofs.Common.{length}
use Rattle.h5_shape.proofs.met.+is_reduced.Given as goal

abbrev pub decreases-is_reduced : goal.decreases-is_reduced
decreases-is_reduced l = length l.sizes.now

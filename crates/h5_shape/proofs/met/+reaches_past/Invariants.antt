use Rattle.std.proofs.Common.{length}
use Rattle.h5_shape.proofs.met.+reaches_past.Given as goal

abbrev pub decreases-reaches_past : goal.decreases-reaches_past
decreases-reaches_past l = length l.sizes.now

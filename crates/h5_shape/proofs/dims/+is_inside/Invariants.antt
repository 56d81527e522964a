use Rattle.std.proofs.Common.{length}
use Rattle.h5_shape.proofs.dims.+is_inside.Given as goal

abbrev pub decreases-is_inside : goal.decreases-is_inside
decreases-is_inside l = length l.sizes.now

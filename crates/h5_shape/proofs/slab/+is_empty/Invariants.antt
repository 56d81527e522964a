use Rattle.std.proofs.Common.{length}
use Rattle.h5_shape.proofs.slab.+is_empty.Given as goal

abbrev pub decreases-is_empty : goal.decreases-is_empty
decreases-is_empty l = length l.axes.now

use Rattle.std.proofs.Common.{length}
use Rattle.h5_shape.proofs.slab.+has_zero_stride.Given as goal

abbrev pub decreases-has_zero_stride : goal.decreases-has_zero_stride
decreases-has_zero_stride l = length l.axes.now

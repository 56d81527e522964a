use Rattle.std.proofs.Common.{length}
use Rattle.h5_shape.proofs.slab.+has_overlap.Given as goal

abbrev pub decreases-has_overlap : goal.decreases-has_overlap
decreases-has_overlap l = length l.axes.now

use Rattle.std.proofs.Common.{length}
use Rattle.h5_shape.proofs.slab.+cells.Given as goal

abbrev pub decreases-cells : goal.decreases-cells
decreases-cells l = length l.axes.now

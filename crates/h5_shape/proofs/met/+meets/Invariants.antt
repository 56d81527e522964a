use Rattle.std.proofs.Common.{length}
use Rattle.h5_shape.proofs.met.+meets.Given as goal

abbrev pub decreases-meets : goal.decreases-meets
decreases-meets l = length l.axes.now

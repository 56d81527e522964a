use Rattle.std.proofs.Common.{length}
use Rattle.h5_shape.proofs.slab.+fits.Given as goal

abbrev pub decreases-fits : goal.decreases-fits
decreases-fits l = length l.axes.now

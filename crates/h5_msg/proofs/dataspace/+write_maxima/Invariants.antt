use Rattle.std.proofs.Common.{length}
use Rattle.h5_msg.proofs.dataspace.+write_maxima.Given as goal

abbrev pub decreases-write_maxima : goal.decreases-write_maxima
decreases-write_maxima l = length l.maxima.now

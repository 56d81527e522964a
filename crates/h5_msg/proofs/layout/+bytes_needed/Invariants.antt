use Rattle.std.proofs.Common.{length}
use Rattle.h5_msg.proofs.layout.+bytes_needed.Given as goal

abbrev pub decreases-bytes_needed : goal.decreases-bytes_needed
decreases-bytes_needed l = length l.sizes.now

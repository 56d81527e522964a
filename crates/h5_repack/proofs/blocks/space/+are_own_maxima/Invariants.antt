use Rattle.std.proofs.Common.{length}
use Rattle.h5_repack.proofs.blocks.space.+are_own_maxima.Given as goal

abbrev pub decreases-are_own_maxima : goal.decreases-are_own_maxima
decreases-are_own_maxima l = length l.sizes.now

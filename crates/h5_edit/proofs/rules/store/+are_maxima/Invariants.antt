use Rattle.std.proofs.Common.{length}
use Rattle.h5_edit.proofs.rules.store.+are_maxima.Given as goal

abbrev pub decreases-are_maxima : goal.decreases-are_maxima
decreases-are_maxima l = length l.sizes.now

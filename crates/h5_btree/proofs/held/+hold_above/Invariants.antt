use Rattle.std.proofs.Common.{length}
use Rattle.h5_btree.proofs.held.+hold_above.Given as goal

abbrev pub decreases-hold_above : goal.decreases-hold_above
decreases-hold_above g l = length l.above.now

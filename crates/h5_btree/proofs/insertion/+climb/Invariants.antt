use Rattle.std.proofs.Common.{length}
use Rattle.h5_btree.proofs.insertion.+climb.Given as goal

abbrev pub decreases-climb : goal.decreases-climb
decreases-climb l = length l.above.now

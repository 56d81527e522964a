use Rattle.std.proofs.Common.{length}
use Rattle.h5_btree.proofs.removal.+take_along.Given as goal

abbrev pub decreases-take_along : goal.decreases-take_along
decreases-take_along l = length l.above.now

use Rattle.std.proofs.Common.{length}
use Rattle.h5_shape.proofs.rows.+place_at.Given as goal

abbrev pub decreases-place_at : goal.decreases-place_at
decreases-place_at l = length l.sizes.now

use Rattle.std.proofs.Common.{◌-◌, length}
use Rattle.h5_shape.proofs.met.+lie_beside.Given as goal

abbrev pub decreases-lie_beside : goal.decreases-lie_beside
decreases-lie_beside l = length l.grid.now - l.k

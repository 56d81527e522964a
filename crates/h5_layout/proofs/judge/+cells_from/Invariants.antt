use Rattle.std.proofs.Common.{◌-◌, length}
use Rattle.h5_layout.proofs.judge.+cells_from.Given as goal

abbrev pub decreases-cells_from : goal.decreases-cells_from
decreases-cells_from l = length l.sizes.now - l.k

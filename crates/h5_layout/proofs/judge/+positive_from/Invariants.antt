use Rattle.std.proofs.Common.{◌-◌, length}
use Rattle.h5_layout.proofs.judge.+positive_from.Given as goal

abbrev pub decreases-positive_from : goal.decreases-positive_from
decreases-positive_from l = length l.extent.now.sizes - l.k

use Rattle.std.proofs.Common.{◌-◌, length}
use Rattle.h5_shape.proofs.single_run.+run_from.Given as goal

abbrev pub decreases-run_from : goal.decreases-run_from
decreases-run_from l = length l.sizes.now - l.k

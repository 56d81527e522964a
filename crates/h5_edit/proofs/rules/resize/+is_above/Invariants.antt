use Rattle.std.proofs.Common.{length}
use Rattle.h5_edit.proofs.rules.resize.+is_above.Given as goal

abbrev pub decreases-is_above : goal.decreases-is_above
decreases-is_above l = length l.sizes.now

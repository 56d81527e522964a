use Rattle.std.proofs.Common.{length}
use Rattle.h5_shape.proofs.rows.CellRows.+select.Given as goal

abbrev pub decreases-select : goal.decreases-select
decreases-select l = length l.sizes.now

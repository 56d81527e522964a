use Rattle.std.proofs.Common.{◌-◌}
use Rattle.h5_btree.proofs.write.rows.+push_rows.Given as goal

abbrev pub decreases-push_rows : goal.decreases-push_rows
decreases-push_rows g l = 16 - l.level

use Rattle.h5_btree.proofs.WalkLaws.RowSteps.{AreListed}
use Rattle.h5_btree.proofs.walk.rows.read_rows.Given as goal

abbrev pub invariant-loop-row : goal.invariant-loop-row
invariant-loop-row g l = AreListed l.image.bytes (g.T.Trees.form l.over) l.root l.level l.height l.nodes.items l.row.items

abbrev pub decreases-loop-row : goal.decreases-loop-row
decreases-loop-row g l = l.height

use Rattle.h5_btree.proofs.WalkLaws.Descended.{IsComeTo}
use Rattle.h5_btree.proofs.walk.rows.bottom_nodes.Given as goal

abbrev pub invariant-loop-height : goal.invariant-loop-height
invariant-loop-height g l = IsComeTo l.image.bytes (g.T.Trees.form l.over) l.root l.height l.row.items

abbrev pub decreases-loop-height : goal.decreases-loop-height
decreases-loop-height g l = l.height

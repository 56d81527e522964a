use Rattle.std.proofs.Common.{◌≡◌, take}
use Rattle.h5_model.specs.Format.Rows.{next_row}
use Rattle.h5_btree.specs.Walk.Below.{reading_in}
use Rattle.h5_btree.proofs.walk.rows.children_of.Given as goal

abbrev pub invariant-loop-at : goal.invariant-loop-at
invariant-loop-at g l = l.next.items ≡ next_row (reading_in l.image.bytes (g.T.Trees.form l.over)) (take l.at-index l.row)

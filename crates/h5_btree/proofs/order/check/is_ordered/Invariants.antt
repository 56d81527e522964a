use Rattle.std.proofs.Common.{ℕ, ◌<◌}
use Rattle.h5_btree.specs.Walk.Below.{reading_in}
use Rattle.h5_btree.proofs.OrderLaws.NodeOrder.{IsChildOrdered}
use Rattle.h5_btree.proofs.order.check.is_ordered.Given as goal

abbrev pub invariant-loop-i : goal.invariant-loop-i
invariant-loop-i g l = (k : ℕ) → k < l.i
    → IsChildOrdered (g.O.Ordered.sides l.over) (reading_in l.image.bytes (g.O.Trees.form l.over)) (g.O.Ordered.bottom l.over l.image.bytes) l.node k

use Rattle.std.proofs.Common.{ℕ, ◌-◌, take}
use Rattle.std.specs.List.{AllByRecursion}
use Rattle.h5_laws.specs.Ladders.{LieBetween, items_under}
use Rattle.h5_btree.specs.Walk.Below.{reading_in}
use Rattle.h5_btree.proofs.order.check.+are_between.Given as goal

abbrev pub decreases-are_between : goal.decreases-are_between
decreases-are_between g l = l.level

abbrev pub invariant-loop-i : goal.invariant-loop-i
invariant-loop-i g l = AllByRecursion (λ (at : ℕ). LieBetween (g.O.Ordered.sides l.over) l.low l.high
    (items_under (reading_in l.image.bytes (g.O.Trees.form l.over)) (g.O.Ordered.bottom l.over l.image.bytes) (l.level - 1) at)) (take l.i l.node.children)

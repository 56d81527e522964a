use Rattle.std.proofs.Common.{ℕ, ◌-◌, take}
use Rattle.std.specs.List.{AllByRecursion}
use Rattle.h5_btree.specs.Order.{IsOrderedAt, nodes_from}
use Rattle.h5_btree.proofs.order.check.+check_keys.Given as goal

abbrev pub decreases-check_keys : goal.decreases-check_keys
decreases-check_keys g l = l.level

abbrev pub invariant-loop-i : goal.invariant-loop-i
invariant-loop-i g l = AllByRecursion (λ (at : ℕ).
    AllByRecursion (IsOrderedAt (g.O.Ordered.sides l.over) l.image.bytes (g.O.Trees.form l.over) (g.O.Ordered.bottom l.over l.image.bytes))
    (nodes_from l.image.bytes (g.O.Trees.form l.over) (l.level - 1) at)) (take l.i l.node.children)

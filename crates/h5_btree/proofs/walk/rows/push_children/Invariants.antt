use Rattle.std.proofs.Common.{◌≡◌, ◌++◌, take}
use Rattle.h5_btree.proofs.walk.rows.push_children.Given as goal

abbrev pub invariant-loop-i : goal.invariant-loop-i
invariant-loop-i l = l.next.items ≡ l.initial.next.items ++ take l.i l.node.children

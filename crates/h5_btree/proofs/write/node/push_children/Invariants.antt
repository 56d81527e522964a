use Rattle.std.proofs.Common.{◌≡◌, ◌++◌, drop}
use Rattle.std.specs.List.{flat_map}
use Rattle.h5_btree.specs.Writing.Parts.{child_bytes}
use Rattle.h5_btree.proofs.write.node.push_children.Given as goal

-- the children so far, with those to come
abbrev pub invariant-loop-child : goal.invariant-loop-child
invariant-loop-child g l =
    l.out.items ++ flat_map (child_bytes g.K.TreeKey.bytes) (drop l.child-index l.children)
    ≡ l.initial.out.items ++ flat_map (child_bytes g.K.TreeKey.bytes) l.children

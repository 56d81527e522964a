use Rattle.std.proofs.Common.{◌≡◌, take}
use Rattle.h5_model.specs.Format.Nodes.{node_at}
use Rattle.h5_btree.specs.Widened.{ends_along}
use Rattle.h5_btree.proofs.widening.ends_to_widen.Given as goal

abbrev pub invariant-loop-level : goal.invariant-loop-level
invariant-loop-level g l = l.ends ≡ take l.level (ends_along (node_at l.image.bytes (g.S.Sought.tree_kind l.sought)) (g.S.Sought.behind l.sought) l.stay l.way)

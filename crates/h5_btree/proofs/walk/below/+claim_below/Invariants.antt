use Rattle.std.proofs.Common.{◌≡◌, ◌-◌, take, length}
use Rattle.std.specs.List.{AllByRecursion}
use Rattle.h5_btree.specs.Walk.Below.{reading_in, IsTakenBelow}
use Rattle.h5_btree.specs.Walk.Keyed.{AreKeyedBelow}
use Rattle.h5_btree.specs.Walk.Further.{WalksTo}
use Rattle.h5_btree.proofs.walk.below.+claim_below.Given as goal

abbrev pub decreases-claim_below : goal.decreases-claim_below
decreases-claim_below g l = l.level

abbrev pub invariant-loop-i : goal.invariant-loop-i
invariant-loop-i g l = record {
  end : l.claims.end ≡ length l.image.bytes;
  taken : IsTakenBelow l.image.bytes (g.L.Trees.form l.over) l.level (take l.i l.node.children) l.initial.claims.held l.claims.held;
  keyed : AllByRecursion (λ at. AreKeyedBelow l.image.bytes (g.L.Trees.form l.over) (l.level - 1) (reading_in l.image.bytes (g.L.Trees.form l.over) at)) (take l.i l.node.children);
  walks : WalksTo l.image.bytes (g.L.Trees.form l.over) l.initial.claims.held l.claims.held l.level l.at l.node (take l.i l.node.children);
}

use Rattle.std.proofs.Common.{◌≡◌, ℕ, ◌<◌, take, length}
use Rattle.h5_btree.specs.Walk.Forms.{IsKeyedAt}
use Rattle.h5_btree.specs.Walk.Below.{IsTakenBelow}
use Rattle.h5_btree.specs.Walk.Further.{WalksTo}
use Rattle.h5_btree.proofs.walk.leaf.claim_leaves.Given as goal

abbrev pub invariant-loop-i : goal.invariant-loop-i
invariant-loop-i g l = record {
  end : l.claims.end ≡ length l.image.bytes;
  taken : IsTakenBelow l.image.bytes (g.L.Trees.form l.over) 0 (take l.i l.node.children) l.initial.claims.held l.claims.held;
  keyed : (j : ℕ) → j < l.i → IsKeyedAt (g.L.Trees.form l.over) l.node j;
  walks : WalksTo l.image.bytes (g.L.Trees.form l.over) l.initial.claims.held l.claims.held 0 l.at l.node (take l.i l.node.children);
}

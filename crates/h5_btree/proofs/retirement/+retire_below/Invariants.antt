use Rattle.std.proofs.Common.{◌≡◌, ◌≤◌, ℕ, suc, List, length, take}
use Rattle.std.specs.List.{AllByRecursion}
use Rattle.h5_model.specs.Format.Nodes.{node_at}
use Rattle.h5_space.specs.Space.{Space}
use Rattle.h5_space.specs.Moves.{Spends}
use Rattle.h5_btree.specs.Looked.{IsLookedBelow, steps_of}
use Rattle.h5_btree.specs.Retired.{AreRetiredBelow, IsRetiring, IsSubtree, KeepsRetired}
use Rattle.h5_btree.proofs.retirement.+retire_below.Given as goal

abbrev pub decreases-retire_below : goal.decreases-retire_below
decreases-retire_below g l = l.level

abbrev pub invariant-loop-i : goal.invariant-loop-i
invariant-loop-i g l = record {
  above : 1 ≤ l.level → l.i-end ≡ length (node_at l.fn.image.bytes l.kind l.at).children;
  bottom : l.level ≡ 0 → l.i-end ≡ 0;
  retired : (start : Space) (root height : ℕ) (owned list : List ℕ) → IsRetiring (g.R.Hits.hit l.how) (g.R.Hits.stands l.how) (g.R.Hits.keys_at l.how) start l.fn.image l.kind root height owned list
      → IsSubtree (node_at start.bytes l.kind) owned list (suc l.level) l.at
      → IsLookedBelow (g.R.Hits.hit l.how) (g.R.Hits.keys_at l.how) start l.fn.image l.kind (steps_of l.look) (suc l.level) l.edge l.at
      → IsRetiring (g.R.Hits.hit l.how) (g.R.Hits.stands l.how) (g.R.Hits.keys_at l.how) start l.image l.kind root height owned list;
  kept : (start : Space) (root height : ℕ) (owned list : List ℕ) → IsRetiring (g.R.Hits.hit l.how) (g.R.Hits.stands l.how) (g.R.Hits.keys_at l.how) start l.fn.image l.kind root height owned list
      → IsSubtree (node_at start.bytes l.kind) owned list (suc l.level) l.at
      → IsLookedBelow (g.R.Hits.hit l.how) (g.R.Hits.keys_at l.how) start l.fn.image l.kind (steps_of l.look) (suc l.level) l.edge l.at
      → KeepsRetired (g.R.Hits.hit l.how) (g.R.Hits.keys_at l.how) start l.fn.image l.image l.kind owned;
  below : (start : Space) (root height : ℕ) (owned list : List ℕ) → IsRetiring (g.R.Hits.hit l.how) (g.R.Hits.stands l.how) (g.R.Hits.keys_at l.how) start l.fn.image l.kind root height owned list
      → IsSubtree (node_at start.bytes l.kind) owned list (suc l.level) l.at
      → IsLookedBelow (g.R.Hits.hit l.how) (g.R.Hits.keys_at l.how) start l.fn.image l.kind (steps_of l.look) (suc l.level) l.edge l.at
      → AllByRecursion (AreRetiredBelow (g.R.Hits.hit l.how) (g.R.Hits.keys_at l.how) start l.image l.kind l.level) (take l.i (node_at start.bytes l.kind l.at).children);
  spends : Spends l.fn.image l.image 0 0;
}

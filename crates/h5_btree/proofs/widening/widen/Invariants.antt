use Rattle.std.proofs.Common.{◌≡◌, ◌≢◌, ℕ, List, take}
use Rattle.std.specs.List.{AllByRecursion}
use Rattle.h5_model.specs.Format.Nodes.{node_at}
use Rattle.h5_btree.specs.Insertion.{Owns}
use Rattle.h5_btree.specs.Removal.{EndsInTree}
use Rattle.h5_btree.specs.Widened.{IsWidened}
use Rattle.h5_btree.specs.declared.way.Step.{Step}
use Rattle.h5_btree.proofs.widening.widen.Given as goal

abbrev pub invariant-loop-level : goal.invariant-loop-level
invariant-loop-level l = record {
  tree : (root height k : ℕ) (owned list : List ℕ) → EndsInTree l.initial.image l.kind root height l.way owned list k
      → EndsInTree l.image l.kind root height l.way owned list k;
  widened : IsWidened l.initial.image l.image l.kind l.way (take l.level l.ends) l.low l.high;
  others : (root height k : ℕ) (owned list : List ℕ) → EndsInTree l.initial.image l.kind root height l.way owned list k
      → (n : ℕ) → Owns owned n → AllByRecursion (λ (step : Step). n ≢ step.node) l.way → node_at l.image.bytes l.kind n ≡ node_at l.initial.image.bytes l.kind n;
}

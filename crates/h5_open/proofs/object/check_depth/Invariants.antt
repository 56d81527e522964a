use Rattle.std.proofs.Common.{◌≡◌, ℕ, ◌<◌, length, get_or}
use Rattle.h5_model.specs.Format.Superblock.{leaf_k}
use Rattle.h5_model.specs.Format.Symbols.{symbols_at}
use Rattle.h5_open.proofs.object.check_depth.Given as goal

abbrev pub invariant-loop-node : goal.invariant-loop-node
invariant-loop-node l = (k : ℕ) → k < l.node-index → length (symbols_at l.image.bytes (leaf_k l.image.bytes) (get_or l.node-items k 0)) ≡ 0

use Rattle.std.proofs.Common.{◌-◌, ◌*◌, ◌≤◌, length, take}
use Rattle.h5_chunks.proofs.MovedChunks.{AreTakenOut}
use Rattle.h5_chunks.proofs.outside.drop_outside.Given as goal

abbrev pub invariant-loop-k : goal.invariant-loop-k
invariant-loop-k l = record {
  within : l.k ≤ length l.outside.offsets;
  taken : AreTakenOut l.shape l.root l.sizes l.fn.image l.image (take l.k l.outside.offsets) (16 * (length l.outside.offsets - l.k));
}

abbrev pub decreases-loop-k : goal.decreases-loop-k
decreases-loop-k l = l.k

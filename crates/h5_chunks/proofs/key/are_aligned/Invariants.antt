use Rattle.std.proofs.Common.{ℕ, ◌<◌, get_or}
use Rattle.h5_model.specs.Format.Chunks.{IsOffset}
use Rattle.h5_chunks.proofs.OffsetLaws.{offset_at}
use Rattle.h5_chunks.proofs.key.are_aligned.Given as goal

abbrev pub invariant-loop-d : goal.invariant-loop-d
invariant-loop-d l = (j : ℕ) → j < l.d → IsOffset (get_or l.sizes j 0) (offset_at l.sizes l.key j)

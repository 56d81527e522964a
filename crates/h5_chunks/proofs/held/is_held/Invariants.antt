use Rattle.std.proofs.Common.{ℕ, ◌<◌, get_or}
use Rattle.h5_chunks.proofs.OffsetLaws.{offset_at}
use Rattle.h5_chunks.proofs.held.is_held.Given as goal

abbrev pub invariant-loop-d : goal.invariant-loop-d
invariant-loop-d l = (j : ℕ) → j < l.d → offset_at l.sizes l.key j < get_or l.sizes j 0

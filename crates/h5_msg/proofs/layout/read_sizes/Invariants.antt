use Rattle.std.proofs.Common.{◌≡◌, ℕ, ◌<◌, get_or}
use Rattle.h5_msg.specs.ChunkSizes.{sizes_at}
use Rattle.h5_msg.proofs.layout.read_sizes.Given as goal

-- the sizes so far
abbrev pub invariant-loop-k : goal.invariant-loop-k
invariant-loop-k l = (j : ℕ) → j < l.k → get_or l.sizes j 0 ≡ get_or (sizes_at l.place) j 0

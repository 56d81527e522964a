use Rattle.std.proofs.Common.{◌≡◌, ℕ, ◌+◌, ◌*◌, ◌<◌, get_or}
use Rattle.h5_bytes.specs.Bytes.{number_at}
use Rattle.h5_chunks.proofs.offsets.read_offsets.Given as goal

-- the offsets so far
abbrev pub invariant-loop-d : goal.invariant-loop-d
invariant-loop-d l = (j : ℕ) → j < l.d → get_or l.offsets j 0 ≡ number_at l.key (8 + 8 * j) 8

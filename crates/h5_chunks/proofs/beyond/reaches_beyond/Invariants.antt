use Rattle.std.proofs.Common.{ℕ, ◌-◌, ◌<◌, ◌≤◌, get_or, length}
use Rattle.h5_model.specs.Format.Chunks.{offsets_in}
use Rattle.h5_chunks.proofs.beyond.reaches_beyond.Given as goal

-- in the dimensions so far the chunk ends inside
abbrev pub invariant-loop-d : goal.invariant-loop-d
invariant-loop-d l = (j : ℕ) → j < l.d → get_or l.chunk j 0 ≤ get_or l.sizes j 0 - get_or (offsets_in (length l.chunk) l.key) j 0

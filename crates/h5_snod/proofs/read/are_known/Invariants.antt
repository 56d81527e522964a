use Rattle.std.proofs.Common.{ℕ, ◌<◌, ◌≤◌}
use Rattle.h5_snod.specs.Form.{cache_at}
use Rattle.h5_snod.proofs.read.are_known.Given as goal

abbrev pub invariant-loop-i : goal.invariant-loop-i
invariant-loop-i l = (k : ℕ) → k < l.i → cache_at l.bytes k ≤ 2

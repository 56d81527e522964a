use Rattle.std.proofs.Common.{◌≢◌, ℕ, ◌-◌, ◌<◌, ◌≤◌, get_or, length}
use Rattle.h5_bytes.proofs.texts.before_zero.Given as goal

abbrev pub invariant-loop-end : goal.invariant-loop-end
invariant-loop-end l = (l.from ≤ length l.bytes) × ((k : ℕ) → k < l.from → get_or l.bytes k 0 ≢ 0)

abbrev pub decreases-loop-end : goal.decreases-loop-end
decreases-loop-end l = length l.bytes - l.from

abbrev pub invariant-loop-end-2 : goal.invariant-loop-end-2
invariant-loop-end-2 l = (k : ℕ) → k < l.end → get_or l.bytes k 0 ≢ 0

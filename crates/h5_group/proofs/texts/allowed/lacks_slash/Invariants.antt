use Rattle.std.proofs.Common.{◌≢◌, ℕ, ◌-◌, ◌<◌, ◌≤◌, get_or, length}
use Rattle.h5_group.proofs.texts.allowed.lacks_slash.Given as goal

abbrev pub invariant-loop-at : goal.invariant-loop-at
invariant-loop-at l = (l.at ≤ length l.bytes) × ((k : ℕ) → k < l.at → get_or l.bytes k 0 ≢ 47)

abbrev pub decreases-loop-at : goal.decreases-loop-at
decreases-loop-at l = length l.bytes - l.at

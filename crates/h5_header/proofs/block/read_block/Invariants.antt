use Rattle.std.proofs.Common.{◌-◌, ◌≡◌, ◌+◌, ◌≤◌, ℕ}
use Rattle.h5_header.specs.Progress.{ReadTo}
use Rattle.h5_header.proofs.block.read_block.Given as goal

abbrev pub invariant-loop-at : goal.invariant-loop-at
invariant-loop-at l = (to : ℕ) × (l.at ≡ l.fn.block.at + to) × (to ≤ l.fn.block.len) × ReadTo l.image l.fn.block l.fn.list.items l.list.items l.fn.blocks.items l.blocks.items to

abbrev pub decreases-loop-at : goal.decreases-loop-at
decreases-loop-at l = l.end - l.at

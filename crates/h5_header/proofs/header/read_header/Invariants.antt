use Rattle.std.proofs.Common.{◌-◌, ◌≡◌, ◌+◌, length}
use Rattle.h5_bytes.specs.Blocks.{Separate}
use Rattle.h5_header.specs.Progress.{ReadThrough}
use Rattle.h5_space.proofs.Unheld.{unheld}
use Rattle.h5_header.proofs.header.read_header.Given as goal

abbrev pub invariant-loop-next : goal.invariant-loop-next
invariant-loop-next l = (l.claims.end ≡ length l.image) × Separate l.claims.held × ReadThrough l.image l.fn.header l.fn.claims.held l.claims.held l.list.items l.blocks.items l.next

abbrev pub decreases-loop-next : goal.decreases-loop-next
decreases-loop-next l = unheld l.claims.held (length l.image) + (length l.blocks.items - l.next)

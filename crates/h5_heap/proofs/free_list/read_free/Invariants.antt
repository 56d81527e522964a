use Rattle.std.proofs.Common.{◌≡◌, length}
use Rattle.h5_bytes.specs.Blocks.{Separate}
use Rattle.h5_space.proofs.Unheld.{unheld}
use Rattle.h5_heap.proofs.FreeLaws.{IsWalked}
use Rattle.h5_heap.proofs.free_list.read_free.Given as goal

abbrev pub invariant-loop-next : goal.invariant-loop-next
invariant-loop-next l = (l.spans.end ≡ length l.segment) × Separate l.spans.held × IsWalked l.segment l.initial.next l.next l.blocks.items l.spans.held

abbrev pub decreases-loop-next : goal.decreases-loop-next
decreases-loop-next l = unheld l.spans.held (length l.segment)

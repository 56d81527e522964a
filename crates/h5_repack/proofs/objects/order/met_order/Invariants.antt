use Rattle.std.proofs.Common.{◌+◌, length}
use Rattle.h5_repack.proofs.ObjectLaws.Walks.{IsWalk, left_over}
use Rattle.h5_repack.proofs.objects.order.met_order.Given as goal

abbrev pub invariant-loop-number : goal.invariant-loop-number
invariant-loop-number l = IsWalk l.objects l.order.items l.stack.items l.is_met.items

abbrev pub decreases-loop-number : goal.decreases-loop-number
decreases-loop-number l = left_over l.objects l.is_met.items + length l.stack.items

use Rattle.std.proofs.Common.{◌≡◌}
use Rattle.h5_chunks.proofs.KeyOrder.{order_from}
use Rattle.h5_chunks.proofs.offsets.key_order.Given as goal

abbrev pub invariant-loop-d : goal.invariant-loop-d
invariant-loop-d l = order_from l.key l.offsets 0 ≡ order_from l.key l.offsets l.d

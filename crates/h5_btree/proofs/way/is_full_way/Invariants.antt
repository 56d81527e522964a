use Rattle.std.proofs.Common.{take}
use Rattle.h5_btree.specs.Insertion.{IsFullWay}
use Rattle.h5_btree.proofs.way.is_full_way.Given as goal

abbrev pub invariant-loop-step : goal.invariant-loop-step
invariant-loop-step l = IsFullWay l.image.bytes l.kind (take l.step-index l.way)

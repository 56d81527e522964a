use Rattle.std.proofs.Common.{List, Option, take}
use Rattle.std.specs.List.{AllZip}
use Rattle.h5_repack.specs.Layout.{IsHeldObject, IsSlotSize, StoredObject}
use Rattle.h5_repack.specs.Objects.Objects.{SlotsHold}
use Rattle.h5_repack.proofs.size.measure_all.Given as goal

-- the sizes so far
abbrev pub invariant-loop-object : goal.invariant-loop-object
invariant-loop-object l = (listed : List (Option StoredObject)) → AllZip (SlotsHold IsHeldObject) l.objects listed → AllZip (IsSlotSize l.k) (take l.object-index listed) l.sizes.items

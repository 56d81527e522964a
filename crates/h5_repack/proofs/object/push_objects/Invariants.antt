use Rattle.std.proofs.Common.{◌≡◌, ◌++◌, List, Option, take}
use Rattle.std.specs.List.{AllZip, flat_map}
use Rattle.h5_repack.specs.Layout.{IsHeldObject, IsSlotSize, StoredObject, numbered_at}
use Rattle.h5_repack.specs.Objects.Objects.{SlotsHold}
use Rattle.h5_repack.proofs.object.push_objects.Given as goal

-- the objects so far
abbrev pub invariant-loop-number : goal.invariant-loop-number
invariant-loop-number l = (listed : List (Option StoredObject)) → AllZip (SlotsHold IsHeldObject) l.objects listed → AllZip (IsSlotSize l.layout.k) listed l.layout.sizes.now
    → l.out.items ≡ l.initial.out.items ++ flat_map (numbered_at l.layout l.counts listed) (take l.number-index l.order)

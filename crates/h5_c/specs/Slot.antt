-- What a slot owns: nothing while it is closed, and while it is open the session at its pointer, with the right to free it.
use Rattle.std.specs.Prelude.{Bool, true, false}
use base.Fml.{Fml, ftrue}
use base.Stored.{Coded}
use denote.RawPtr.{Ptr}
use mir.Syntax.{Ty}
use Rattle.std.specs.Box.Ownership.{box_owns}
use Rattle.std_heap.specs.contracts.Global as Heap
use Rattle.std_heap.specs.contracts.GlobalAllocator.TheImpl.{ghosts}
use Rattle.h5_c.specs.contracts.held.Held.{the_row}

abbrev pub InSlot : Type 0
InSlot = the_row.Denot

abbrev pub in_slot_coded : Coded InSlot
in_slot_coded = the_row.coded

-- there is one heap
abbrev pub heap : Heap.the_row.Denot
heap = record { memory = record { seal = tt } }

-- the right to free the block of a value of this type
abbrev pub free_right : Ty → Ptr → Fml
free_right = ghosts.dealloc_token heap

abbrev pub slot_owns : Bool → Ptr → InSlot → Fml
slot_owns true p x = box_owns free_right the_row p x
slot_owns false p x = ftrue

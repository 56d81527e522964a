use Rattle.std.proofs.Common.{◌≡◌, [], ap, arith}
use Rattle.h5_bytes.specs.Blocks.{cover}
use Rattle.h5_bytes.proofs.BlockLaws.{cover-append}
use Rattle.h5_heap.specs.Units.{text_blocks, text_begins}
use Rattle.h5_heap.proofs.UnitLaws.{fresh_none}
use Rattle.h5_heap.proofs.heap.read_heap.Goals as goal

-- no text has a unit
none : (c : goal.In-Ok-new) → (text_blocks 0 c.in-Ok-new.units.states.items ≡ []) × (text_begins 0 c.in-Ok-new.units.states.items ≡ [])
none c = fresh_none _ c.in-Ok.free.items c.in-Ok-new.units.states.items c.in-Ok-new.ensures.long (rw c.as_slice.ensures.value at c.in-Ok-new.ensures.fresh)

pub returns-in-Ok-new-clause-held : goal.returns-in-Ok-new-clause-held
returns-in-Ok-new-clause-held c =
    λ p. let nothing = ap (cover p) (none c).0 in omega (arith, nothing, cover-append p c.in-Ok.free.items (text_blocks 0 c.in-Ok-new.units.states.items))

pub returns-in-Ok-new-clause-taken : goal.returns-in-Ok-new-clause-taken
returns-in-Ok-new-clause-taken c = (none c).1

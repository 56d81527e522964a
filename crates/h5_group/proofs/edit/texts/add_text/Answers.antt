use Rattle.std.proofs.Common.{arith}
use Rattle.h5_group.proofs.HeapMoves.{heap_stands, heap_apart, entries_stay}
use Rattle.h5_group.proofs.TextEdits.{text_added, added_nodes, added_keys, added_kept}
use Rattle.h5_heap.proofs.InsertedNames.{text_reads}
use Rattle.h5_heap.proofs.NeededLaws.{needed_once}
use Rattle.h5_group.proofs.edit.texts.add_text.Goals as goal

pub insert_in_room-requires-clause-standing : goal.insert_in_room-requires-clause-standing
insert_in_room-requires-clause-standing c =
    let some = c.requires.group.1 in
    rw c.heap.ensures (heap_stands c.args.image.now c.args.table some.0 c.requires.group.0 some.1 some.2)

pub insert_in_room-requires-clause-apart : goal.insert_in_room-requires-clause-apart
insert_in_room-requires-clause-apart c =
    let some = c.requires.group.1 in
    rw c.heap.ensures (heap_apart c.args.image.now c.args.table some.0 c.requires.group.0 some.1 some.2)

pub returns-clause-added : goal.returns-clause-added
returns-clause-added c = λ links spare blocks g.
    text_added c.args.image.now c.insert_in_room.new.image c.args.table c.args.text.now c.args.room c.insert_in_room.result (rw c.heap.ensures at c.insert_in_room.ensures.inserted)
    c.requires.plain links spare blocks g (rw c.heap.ensures at c.insert_in_room.ensures.moves) (omega (arith, c.requires.short, (rw c.heap.ensures at c.insert_in_room.ensures.spends).grown))

pub returns-clause-nodes : goal.returns-clause-nodes
returns-clause-nodes c = λ links spare blocks g.
    added_nodes c.args.image.now c.insert_in_room.new.image c.args.table c.args.text.now c.args.room c.insert_in_room.result (rw c.heap.ensures at c.insert_in_room.ensures.inserted)
    c.requires.plain links spare blocks g (rw c.heap.ensures at c.insert_in_room.ensures.moves) (omega (arith, c.requires.short, (rw c.heap.ensures at c.insert_in_room.ensures.spends).grown))

pub returns-clause-keys : goal.returns-clause-keys
returns-clause-keys c =
    let some = c.requires.group.1 in
    added_keys c.args.image.now c.insert_in_room.new.image c.args.table c.args.text.now c.args.room c.insert_in_room.result (rw c.heap.ensures at c.insert_in_room.ensures.inserted)
    c.requires.plain some.0 c.requires.group.0 some.1 some.2 (rw c.heap.ensures at c.insert_in_room.ensures.moves)
    (omega (arith, c.requires.short, (rw c.heap.ensures at c.insert_in_room.ensures.spends).grown))

pub returns-clause-text : goal.returns-clause-text
returns-clause-text c = let has = rw c.heap.ensures at c.insert_in_room.ensures.inserted in text_reads _ c.insert_in_room.result c.args.text.now has.inserted.written c.requires.plain

pub returns-clause-kept : goal.returns-clause-kept
returns-clause-kept c = λ links spare blocks g.
    added_kept c.args.image.now c.insert_in_room.new.image c.args.table c.args.text.now c.args.room c.insert_in_room.result (rw c.heap.ensures at c.insert_in_room.ensures.inserted)
    c.requires.plain links spare blocks g

pub returns-clause-next : goal.returns-clause-next
returns-clause-next c = λ len fits.
    let some = c.requires.group.1 in
    let once = needed_once c.args.image.now.bytes c.insert_in_room.new.image.bytes c.args.table.heap c.args.text.now c.args.room c.insert_in_room.result len
    (heap_stands c.args.image.now c.args.table some.0 c.requires.group.0 some.1 some.2) (rw c.heap.ensures at c.insert_in_room.ensures.inserted) fits in
    (once.bytes, once.calls)

pub returns-clause-entries : goal.returns-clause-entries
returns-clause-entries c = λ node there.
    let some = c.requires.group.1 in
    let has = rw c.heap.ensures at c.insert_in_room.ensures.inserted in
    entries_stay c.args.image.now c.args.table some.0 c.requires.group.0 some.1 some.2 c.insert_in_room.new.image (rw c.heap.ensures at c.insert_in_room.ensures.moves) has.standing
    (omega (arith, c.requires.short, (rw c.heap.ensures at c.insert_in_room.ensures.spends).grown)) node there

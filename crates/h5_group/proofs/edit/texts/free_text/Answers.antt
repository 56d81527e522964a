use Rattle.std.proofs.Common.{◌∷◌, arith}
use Rattle.h5_group.proofs.HeapMoves.{heap_stands}
use Rattle.h5_group.proofs.KeptWays.{heap_ways_kept}
use Rattle.h5_group.proofs.TextEdits.{spare_span, spare_apart, text_freed, freed_nodes, freed_keys, freed_kept, moved_long, spends_nothing}
use Rattle.h5_group.proofs.edit.texts.free_text.Goals as goal

pub free-requires-clause-standing : goal.free-requires-clause-standing
free-requires-clause-standing c =
    let there = c.requires.group in
    rw c.heap.ensures (heap_stands c.args.image.now c.args.table there.0 (c.args.offset ∷ there.1) there.2 there.3)

pub free-requires-clause-span : goal.free-requires-clause-span
free-requires-clause-span c =
    let there = c.requires.group in
    rw c.heap.ensures (spare_span c.args.image.now c.args.table c.args.offset there.0 there.1 there.2 there.3)

pub free-requires-clause-apart : goal.free-requires-clause-apart
free-requires-clause-apart c =
    let there = c.requires.group in
    rw c.heap.ensures (spare_apart c.args.image.now c.args.table c.args.offset there.0 there.1 there.2 there.3)

pub returns-clause-freed : goal.returns-clause-freed
returns-clause-freed c = λ links spare blocks g unnamed.
    text_freed c.args.image.now c.args.table c.args.offset links spare blocks g c.free.new.image (rw c.heap.ensures at c.free.ensures.freed) unnamed
    (rw c.heap.ensures at c.free.ensures.moves)
    (let long = moved_long c.args.image.now c.free.new.image _ c.free.ensures.moves c.free.ensures.free in omega (arith, long, g.short))

pub returns-clause-nodes : goal.returns-clause-nodes
returns-clause-nodes c = λ links spare blocks g unnamed.
    freed_nodes c.args.image.now c.args.table c.args.offset links spare blocks g c.free.new.image (rw c.heap.ensures at c.free.ensures.freed) unnamed
    (rw c.heap.ensures at c.free.ensures.moves)
    (let long = moved_long c.args.image.now c.free.new.image _ c.free.ensures.moves c.free.ensures.free in omega (arith, long, g.short))

pub returns-clause-keys : goal.returns-clause-keys
returns-clause-keys c =
    let there = c.requires.group in
    freed_keys c.args.image.now c.args.table c.args.offset there.0 there.1 there.2 there.3 c.free.new.image (rw c.heap.ensures at c.free.ensures.freed) there.4
    (rw c.heap.ensures at c.free.ensures.moves)
    (let long = moved_long c.args.image.now c.free.new.image _ c.free.ensures.moves c.free.ensures.free in omega (arith, long, there.3.short))

pub returns-clause-kept : goal.returns-clause-kept
returns-clause-kept c = λ links spare blocks g.
    freed_kept c.args.image.now c.args.table c.args.offset links spare blocks g c.free.new.image (rw c.heap.ensures at c.free.ensures.freed)

pub returns-clause-spends : goal.returns-clause-spends
returns-clause-spends c = spends_nothing c.args.image.now c.free.new.image _ c.free.ensures.moves c.free.ensures.free c.free.ensures.room

pub returns-clause-ways : goal.returns-clause-ways
returns-clause-ways c =
    let there = c.requires.group in
    let moves = rw c.heap.ensures at c.free.ensures.moves in
    heap_ways_kept c.args.image.now c.free.new.image c.args.table there.0 (c.args.offset ∷ there.1) there.2 there.3 moves c.free.ensures.free
    (moved_long c.args.image.now c.free.new.image _ c.free.ensures.moves c.free.ensures.free)

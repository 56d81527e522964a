use Rattle.std.proofs.Common.{inl, inr}
use Rattle.h5_group.specs.Edited.{heap_text}
use Rattle.h5_group.proofs.EntryKept.{new_name_none, none_there}
use Rattle.h5_group.proofs.Standing.{node_ascends}
use Rattle.h5_group.proofs.Ways.{group_read}
use Rattle.h5_group.proofs.edit.entries.name_place.Goals as goal

pub segment-segment-requires : goal.segment-segment-requires
segment-segment-requires c = let (links, spare, blocks, g, new) = c.requires.new_name in group_read c.args.image.now c.args.table links spare blocks g

pub group_symbol_node-symbols-requires-clause-group : goal.group_symbol_node-symbols-requires-clause-group
group_symbol_node-symbols-requires-clause-group c =
    let (links, spare, blocks, g, new) = c.requires.new_name in group_read c.args.image.now c.args.table links spare blocks g

pub find-requires : goal.find-requires
find-requires c =
    let (links, spare, blocks, g, new) = c.requires.new_name in
    rw (c.segment-segment.ensures.segment, c.group_symbol_node-symbols.ensures)
    (node_ascends c.args.image.now.bytes c.args.table (group_read c.args.image.now c.args.table links spare blocks g) c.args.node c.requires.node)

pub returns-in-Ok : goal.returns-in-Ok
returns-in-Ok c =
    let (links, spare, blocks, g, new) = c.requires.new_name in
    let name = heap_text c.args.image.now c.args.table c.args.offset in
    let none = new_name_none c.args.image.now c.args.table links spare blocks g name new in
    elim c.in-Ok.is [
      | inl found ↦
          let named = rw (found, c.text_from.ensures, c.segment-segment.ensures.segment, c.group_symbol_node-symbols.ensures) at c.find.ensures.found in
          absurd (none_there c.args.image.now.bytes c.args.table c.args.node c.in-Ok.k name c.requires.node none named)
      | inr absent ↦ rw (absent, c.text_from.ensures, c.segment-segment.ensures.segment, c.group_symbol_node-symbols.ensures) at c.find.ensures.absent
    ]

use Rattle.std.proofs.Common.{Some, ap, sym, ◌∙◌}
use Rattle.h5_group.proofs.Standing.{node_ascends}
use Rattle.h5_group.proofs.Searched.{entry_there, link_found, none_found}
use Rattle.h5_group.proofs.search.lookup.Goals as goal

pub find-requires : goal.find-requires
find-requires c =
    rw (c.segment-segment.ensures.segment, c.group_symbol_node-node.ensures)
    (node_ascends c.args.image.now.bytes c.args.table c.requires c.in-Some.at c.in-Some.ensures.one)

pub link_in-requires : goal.link_in-requires
link_in-requires c = entry_there c.segment-segment.result.now c.group_symbol_node-node.result c.in-Ok.i c.args.name.now c.in-Ok.ensures.found

pub returns-in-Ok-clause-found : goal.returns-in-Ok-clause-found
returns-in-Ok-clause-found c =
    link_found c.args.image.now.bytes c.args.table c.in-Some.at c.in-Ok.i c.args.name.now c.link.result c.in-Some.ensures.one
    (rw (c.segment-segment.ensures.segment, c.group_symbol_node-node.ensures) at c.in-Ok.ensures.found)
    (rw (c.segment-segment.ensures.segment, c.group_symbol_node-node.ensures) at (c.link_in.ensures ∙ ap Some (sym c.link.ensures)))

pub returns-in-Err-clause-absent : goal.returns-in-Err-clause-absent
returns-in-Err-clause-absent c =
    none_found c.args.image.now.bytes c.args.table c.in-Some.at c.in-Err.field-0 c.args.name.now
    (rw (c.segment-segment.ensures.segment, c.group_symbol_node-node.ensures) at c.in-Err.ensures.absent)
    (rw c.segment-segment.ensures.segment at c.in-Some.ensures.only)

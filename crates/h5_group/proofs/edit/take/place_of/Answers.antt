use Rattle.std.proofs.Common.{[]}
use Rattle.h5_group.proofs.Standing.{node_ascends}
use Rattle.h5_group.proofs.TakeSteps.{none_placed, none_there, only_there, some_read}
use Rattle.h5_group.proofs.Way.{no_nodes}
use Rattle.h5_group.proofs.edit.take.place_of.Goals as goal

pub group_symbol_node-requires-clause-group : goal.group_symbol_node-requires-clause-group
group_symbol_node-requires-clause-group c = some_read c.args.image.now c.args.table [] c.requires.group

pub segment-requires : goal.segment-requires
segment-requires c = some_read c.args.image.now c.args.table [] c.requires.group

pub find-requires : goal.find-requires
find-requires c =
    rw (c.segment.ensures.segment, c.group_symbol_node.ensures)
    (node_ascends c.args.image.now.bytes c.args.table (some_read c.args.image.now c.args.table [] c.requires.group) c.node_at_end-node.result c.node_at_end-node.ensures.one)

pub returns-in_err-way-clause-absent : goal.returns-in_err-way-clause-absent
returns-in_err-way-clause-absent c =
    rw c.from_residual.ensures
    (none_there c.args.image.now.bytes c.args.table c.args.name.now
    (no_nodes c.args.image.now.bytes c.args.table (some_read c.args.image.now c.args.table [] c.requires.group) c.in_err-way.ensures.none))

pub returns-in_err-index-clause-absent : goal.returns-in_err-index-clause-absent
returns-in_err-index-clause-absent c =
    let image = c.args.image.now in
    let of = c.in_ok-way.ensures.sought in
    let only = only_there image c.args.table c.args.name.now c.in_ok-way.way c.node_at_end-node.result of c.node_at_end-node.ensures.node c.in_ok-way.ensures.only in
    rw c.from_residual-in_err-index.ensures
    (none_placed image.bytes c.args.table c.node_at_end-node.result c.args.name.now c.segment.result.now c.group_symbol_node.result c.find.result c.segment.ensures.segment c.group_symbol_node.ensures
    c.find.ensures.absent c.in_err-index.ensures.value only)

use Rattle.std.proofs.Common.{ℕ, List, ap, ◌∙◌, arith}
use Rattle.h5_model.specs.Format.Heap.{heap_header, segment_of}
use Rattle.h5_model.specs.Format.Superblock.{leaf_k}
use Rattle.h5_group.proofs.DropCalls.{block_held, block_inside, exact_stays, group_stays, header_stays, segment_stays}
use Rattle.h5_group.proofs.edit.drop.drop_symbol_node.Goals as goal

pub give-requires-clause-inside : goal.give-requires-clause-inside
give-requires-clause-inside c =
    let g = c.requires.group in
    let w = c.requires.way in
    block_inside c.args.image.now c.args.table g.1.0 g.0 g.1.1 g.1.2 w.0 c.args.way.now w.1 w.2 w.3 w.4 c.take_from.new.image c.group_kind-kind.result c.group_kind-kind.ensures
    c.take_from.ensures.taken c.node_at_end-node.result c.from.result c.node_at_end-node.ensures.node (c.from.ensures ∙ c.leaf_k.ensures ∙ ap leaf_k c.bytes.ensures)

pub give-requires-clause-held : goal.give-requires-clause-held
give-requires-clause-held c =
    let g = c.requires.group in
    let w = c.requires.way in
    block_held c.args.image.now c.args.table g.1.0 g.0 g.1.1 g.1.2 w.0 c.args.way.now w.1 w.2 w.3 w.4 c.take_from.new.image c.group_kind-kind.result c.group_kind-kind.ensures
    c.take_from.ensures.taken c.node_at_end-node.result c.from.result c.node_at_end-node.ensures.node (c.from.ensures ∙ c.leaf_k.ensures ∙ ap leaf_k c.bytes.ensures)

pub returns-clause-stayed : goal.returns-clause-stayed
returns-clause-stayed c = λ links spare blocks group.
    let w = c.requires.way in
    let grown = c.take_from.ensures.spends.grown in
    group_stays c.args.image.now c.args.table links spare blocks group w.0 c.args.way.now w.1 w.2 w.3 w.4 c.take_from.new.image c.group_kind-kind.result c.group_kind-kind.ensures
    c.take_from.ensures.taken c.node_at_end-node.result c.from.result c.node_at_end-node.ensures.node (c.from.ensures ∙ c.leaf_k.ensures ∙ ap leaf_k c.bytes.ensures)
    c.give.new.self c.give.ensures.bytes c.give.ensures.given c.requires.empty (omega (arith, grown))

pub returns-clause-segment : goal.returns-clause-segment
returns-clause-segment c =
    let g = c.requires.group in
    let w = c.requires.way in
    ap (λ (bytes : List ℕ). segment_of bytes c.args.table.heap) c.give.ensures.bytes
    ∙ segment_stays c.args.image.now c.args.table g.1.0 g.0 g.1.1 g.1.2 w.0 c.args.way.now w.1 w.2 w.3 w.4 c.take_from.new.image c.group_kind-kind.result c.group_kind-kind.ensures
    c.take_from.ensures.taken c.node_at_end-node.result c.from.result c.node_at_end-node.ensures.node (c.from.ensures ∙ c.leaf_k.ensures ∙ ap leaf_k c.bytes.ensures)

pub returns-clause-header : goal.returns-clause-header
returns-clause-header c =
    let g = c.requires.group in
    let w = c.requires.way in
    ap (λ (bytes : List ℕ). heap_header bytes c.args.table.heap) c.give.ensures.bytes
    ∙ header_stays c.args.image.now c.args.table g.1.0 g.0 g.1.1 g.1.2 w.0 c.args.way.now w.1 w.2 w.3 w.4 c.take_from.new.image c.group_kind-kind.result c.group_kind-kind.ensures
    c.take_from.ensures.taken c.node_at_end-node.result c.from.result c.node_at_end-node.ensures.node (c.from.ensures ∙ c.leaf_k.ensures ∙ ap leaf_k c.bytes.ensures)

pub returns-clause-exact : goal.returns-clause-exact
returns-clause-exact c =
    let g = c.requires.group in
    let w = c.requires.way in
    let grown = c.take_from.ensures.spends.grown in
    exact_stays c.args.image.now c.args.table g.1.0 g.0 g.1.1 g.1.2 w.0 c.args.way.now w.1 w.2 w.3 w.4 c.take_from.new.image c.group_kind-kind.result c.group_kind-kind.ensures
    c.take_from.ensures.taken c.node_at_end-node.result c.from.result c.node_at_end-node.ensures.node (c.from.ensures ∙ c.leaf_k.ensures ∙ ap leaf_k c.bytes.ensures)
    c.give.new.self c.give.ensures.bytes c.give.ensures.given c.requires.empty (omega (arith, grown))

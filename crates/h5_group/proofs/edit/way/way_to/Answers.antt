use Rattle.std.proofs.Common.{length}
use Rattle.std.specs.Prelude.{IfSome}
use Rattle.h5_bytes.specs.Blocks.{Inside}
use Rattle.h5_model.specs.Format.Nodes.{group_kind, node_at, tree_blocks, HasTree}
use Rattle.h5_btree.specs.Descent.{IsWayTo}
use Rattle.h5_btree.proofs.NameFound.{name_behind}
use Rattle.h5_group.proofs.Ways.{IsFound, found_has, found_leads, found_of, heap_inside, trees_inside}
use Rattle.h5_group.proofs.edit.way.way_to.Goals as goal
use Rattle.h5_group.proofs.edit.way.way_to.Goals.{After-unwrap}

pub segment_at-requires : goal.segment_at-requires
segment_at-requires c =
    let g = c.requires.group in
    rw c.heap.ensures (heap_inside c.args.image.now c.args.table g.1.0 g.0 g.1.1 g.1.2)

pub unwrap-requires : goal.unwrap-requires
unwrap-requires c =
    let g = c.requires.group in
    let linked = (g.1.2).linked in
    let tree : HasTree c.bytes-bytes.result.now (group_kind c.internal_k.result) c.tree.result linked.level linked.owned linked.symbol_nodes
    = rw (c.internal_k.ensures, c.bytes-bytes.ensures, c.tree.ensures) linked.tree in
    let inside : Inside (length c.bytes-bytes.result.now) (tree_blocks (group_kind c.internal_k.result) linked.owned)
    = rw (c.internal_k.ensures, c.bytes-bytes.ensures) (trees_inside c.args.image.now c.args.table g.1.0 g.0 g.1.1 g.1.2) in
    c.find_way.ensures.only linked.level linked.owned linked.symbol_nodes tree inside

found : (c : After-unwrap) → IfSome c.unwrap.result (IsFound c.args.image.now c.args.table c.args.name.now)
found c =
    let way : IfSome c.unwrap.result (IsWayTo (node_at c.bytes-bytes.result.now (group_kind c.internal_k.result)) (name_behind c.segment_at.result.now c.args.name.now)
    (node_at c.bytes-bytes.result.now (group_kind c.internal_k.result) c.tree.result).level c.tree.result)
    = rw c.unwrap.ensures at c.find_way.ensures.leads in
    rw (c.internal_k.ensures, c.bytes-bytes.ensures, c.tree.ensures, c.segment_at.ensures, c.heap.ensures) at way

pub returns-clause-leads : goal.returns-clause-leads
returns-clause-leads c = found_leads c.args.image.now c.args.table c.args.name.now c.unwrap.result (found c)

pub returns-clause-sought : goal.returns-clause-sought
returns-clause-sought c =
    let g = c.requires.group in
    found_of c.args.image.now c.args.table c.args.name.now g.1.0 g.0 g.1.1 g.1.2 c.unwrap.result (found c)

pub returns-clause-only : goal.returns-clause-only
returns-clause-only c =
    let g = c.requires.group in
    found_has c.args.image.now c.args.table c.args.name.now g.1.0 g.0 g.1.1 g.1.2 c.unwrap.result (found c)

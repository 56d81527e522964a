use Rattle.std.proofs.Common.{length, ap, arith}
use Rattle.std.specs.Prelude.{IfSome}
use Rattle.h5_bytes.specs.Blocks.{Inside}
use Rattle.h5_model.specs.Format.Heap.{segment_of}
use Rattle.h5_model.specs.Format.Nodes.{group_kind, node_at, tree_blocks, HasTree}
use Rattle.h5_btree.specs.Descent.{LeadsTo}
use Rattle.h5_btree.proofs.NameFound.{name_behind}
use Rattle.h5_group.specs.Nodes.Trees.{kind_in}
use Rattle.h5_group.proofs.Standing.{heap_there, nodes_there}
use Rattle.h5_group.proofs.Way.{one_listed, one_has, none_listed}
use Rattle.h5_group.proofs.search.node_of.Goals as goal
use Rattle.h5_group.proofs.search.node_of.Goals.{After-unwrap}

pub internal_k-requires : goal.internal_k-requires
internal_k-requires c = omega (arith, ap length c.bytes-bytes.ensures, (heap_there c.args.image.now.bytes c.args.table c.requires.group).0)

pub invariant_of-sought : goal.invariant_of-sought
invariant_of-sought c = record { few = rw (← c.bytes-bytes.ensures, ← c.internal_k.ensures) at (c.requires.group).few }

pub unwrap-requires : goal.unwrap-requires
unwrap-requires c =
    let linked = (c.requires.group).linked in
    let tree : HasTree c.bytes-bytes.result.now (group_kind c.internal_k.result) c.tree.result linked.level linked.owned linked.symbol_nodes
    = rw (c.internal_k.ensures, c.bytes-bytes.ensures, c.tree.ensures) linked.tree in
    let inside : Inside (length c.bytes-bytes.result.now) (tree_blocks (group_kind c.internal_k.result) linked.owned)
    = rw (c.internal_k.ensures, c.bytes-bytes.ensures) (nodes_there c.args.image.now.bytes c.args.table c.requires.group) in
    c.find_leaf.ensures.only linked.level linked.owned linked.symbol_nodes tree inside

leads : (c : After-unwrap) → IfSome c.unwrap.result (LeadsTo (node_at c.args.image.now.bytes (kind_in c.args.image.now.bytes))
    (name_behind (segment_of c.args.image.now.bytes c.args.table.heap) c.args.name.now)
    (node_at c.args.image.now.bytes (kind_in c.args.image.now.bytes) c.args.table.tree).level c.args.table.tree)
leads c =
    let found : IfSome c.unwrap.result (LeadsTo (node_at c.bytes-bytes.result.now (group_kind c.internal_k.result)) (name_behind c.args.segment.now c.args.name.now)
    (node_at c.bytes-bytes.result.now (group_kind c.internal_k.result) c.tree.result).level c.tree.result)
    = rw c.unwrap.ensures at c.find_leaf.ensures.leads in
    rw (c.internal_k.ensures, c.bytes-bytes.ensures, c.tree.ensures, c.requires.segment) at found

pub returns-clause-one : goal.returns-clause-one
returns-clause-one c = one_listed c.args.image.now.bytes c.args.table c.requires.group c.args.name.now c.unwrap.result (leads c)

pub returns-clause-only : goal.returns-clause-only
returns-clause-only c = rw c.requires.segment (one_has c.args.image.now.bytes c.args.table c.requires.group c.args.name.now c.unwrap.result (leads c))

pub returns-clause-none : goal.returns-clause-none
returns-clause-none c =
    let empty = rw (c.internal_k.ensures, c.bytes-bytes.ensures, c.tree.ensures) at (rw c.unwrap.ensures at c.find_leaf.ensures.empty) in
    none_listed c.args.image.now.bytes c.args.table c.requires.group c.unwrap.result empty.0

use Rattle.std.proofs.Common.{◌≡◌, slice_get, Some, subst, arith}
use Rattle.h5_model.specs.Format.Nodes.{node_at}
use Rattle.h5_model.specs.Format.Reached.{shape_kind}
use Rattle.h5_model.specs.Format.Rows.{Node}
use Rattle.h5_btree.proofs.WayLaws.{ends_on}
use Rattle.h5_chunks.specs.Way.{chunk_behind}
use Rattle.h5_chunks.proofs.EndOfWay.{below_bottom, some_child, some_filled, some_keys, some_long, some_stands}
use Rattle.h5_chunks.proofs.search.+end_below.Goals as goal

pub tree_node-node-requires-clause-long : goal.tree_node-node-requires-clause-long
tree_node-node-requires-clause-long t c = some_long c.args.image.now.bytes c.args.shape.now c.args.level c.args.at c.requires.row

pub tree_node-node-requires-clause-there : goal.tree_node-node-requires-clause-there
tree_node-node-requires-clause-there t c = some_stands c.args.image.now.bytes c.args.shape.now c.args.level c.args.at c.requires.row

pub child_for-place-requires-clause-filled : goal.child_for-place-requires-clause-filled
child_for-place-requires-clause-filled t c =
    some_filled c.args.image.now.bytes c.args.shape.now c.args.level c.args.at c.requires.row c.tree_node-node.result c.tree_node-node.ensures

pub child_for-place-requires-clause-keys : goal.child_for-place-requires-clause-keys
child_for-place-requires-clause-keys t c =
    some_keys c.args.image.now.bytes c.args.shape.now c.args.level c.args.at c.requires.row c.tree_node-node.result c.tree_node-node.ensures _ c.requires.rank

pub end_below-requires : goal.end_below-requires
end_below-requires t c =
    let row = some_child c.args.image.now.bytes c.args.shape.now c.args.level c.args.at c.requires.row c.tree_node-node.result c.tree_node-node.ensures
    (chunk_behind c.args.sought.now.offsets) c.child_for-place.result c.child.result c.child_for-place.ensures c.child.ensures c.if-level-eq0.false in
    (omega (arith, c.if-level-eq0.false, c.decreases), (row, (c.requires.few, c.requires.rank)))

pub returns-clause-ends : goal.returns-clause-ends
returns-clause-ends t c =
    let V = node_at c.args.image.now.bytes (shape_kind c.args.image.now.bytes c.args.shape.now) in
    ends_on c.args.image.now.bytes (shape_kind c.args.image.now.bytes c.args.shape.now) (chunk_behind c.args.sought.now.offsets) c.args.at c.tree_node-node.result
    c.child_for-place.result c.child.result c.tree_node-node.ensures c.child_for-place.ensures c.child.ensures c.args.level (V c.end_below.result.node) c.end_below.result.place
    c.if-level-eq0.false c.end_below.ensures.ends

pub returns-clause-bottom : goal.returns-clause-bottom
returns-clause-bottom t c =
    let V = node_at c.args.image.now.bytes (shape_kind c.args.image.now.bytes c.args.shape.now) in
    below_bottom V c.args.level c.args.at c.child_for-place.result c.child.result c.end_below.result.node c.if-level-eq0.false
    (subst (λ (n : Node). slice_get n.children c.child_for-place.result ≡ Some c.child.result) c.tree_node-node.ensures c.child.ensures)
    c.end_below.ensures.bottom

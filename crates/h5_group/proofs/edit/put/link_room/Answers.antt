use Rattle.std.proofs.Common.{◌≡◌, ◌+◌, ◌*◌, ◌^◌, ◌<◌, ◌≤◌, [], length, sym, ap, ◌∙◌, arith}
use Rattle.h5_model.specs.Format.Heap.{segment_block, segment_of}
use Rattle.h5_model.specs.Format.Nodes.{node_length}
use Rattle.h5_model.specs.Format.Superblock.{leaf_k}
use Rattle.h5_heap.proofs.EditedLaws.{segment_long}
use Rattle.h5_group.proofs.Ways.{heap_inside}
use Rattle.h5_group.proofs.edit.put.link_room.Goals as goal
use Rattle.h5_group.proofs.edit.put.link_room.Goals.{After-segment_at}

-- the segment is as long as the image says, and not longer than that
segment : (c : After-segment_at) → (length c.segment_at.result.now ≡ (segment_block c.args.image.now.bytes c.args.table.heap).len)
    × (length c.segment_at.result.now ≤ length c.args.image.now.bytes)
segment c =
    let g = c.requires.group in
    let inside = heap_inside c.args.image.now c.args.table g.0 [] g.1 g.2 in
    let ends = inside.1.0 in
    let long = ap length (c.segment_at.ensures ∙ ap (segment_of c.args.image.now.bytes) c.heap.ensures) ∙ sym (segment_long c.args.image.now.bytes c.args.table.heap inside) in
    (long, omega (arith, ends, long))

-- so the sum without the texts is far below the largest number
low : (c : After-segment_at) → 17 * c.node_length-node.result + (8 + 80 * c.from.result) + 2 * length c.segment_at.result.now + 16 < 2 ^ 63
low c =
    let here = (segment c).1 in
    let node = c.node_length-node.ensures.length ∙ ap node_length c.group_kind.ensures in
    omega (arith, here, node, c.requires.group.2.few, c.requires.short, c.leaf_k.type_inv, c.from.ensures)

pub segment_at-requires : goal.segment_at-requires
segment_at-requires c =
    let g = c.requires.group in
    rw c.heap.ensures (heap_inside c.args.image.now c.args.table g.0 [] g.1 g.2)

pub overflow_add-node-2 : goal.overflow_add-node-2
overflow_add-node-2 c = omega (arith, low (goal.at.overflow_add-node-2 c).After-segment_at)

pub overflow_add-node-3 : goal.overflow_add-node-3
overflow_add-node-3 c = omega (arith, low (goal.at.overflow_add-node-3 c).After-segment_at)

pub returns : goal.returns
returns c =
    let long = (segment (goal.at.returns c).After-segment_at).0 in
    let node = c.node_length-node.ensures.length ∙ ap node_length c.group_kind.ensures in
    let leaf = c.from.ensures ∙ c.leaf_k.ensures ∙ ap leaf_k c.bytes.ensures in
    omega (arith, long, node, leaf, c.texts_length.ensures, c.saturating_add.ensures)

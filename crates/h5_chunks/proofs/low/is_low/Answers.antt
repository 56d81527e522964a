use Rattle.std.proofs.Common.{◌≡◌, ap, ◌∙◌, arith}
use Rattle.h5_model.specs.Format.Reached.{level_at, shape_kind}
use Rattle.h5_model.specs.Format.Rows.{Node}
use Rattle.h5_btree.specs.Walk.Forms.{OfChunks}
use Rattle.h5_btree.proofs.WalkLaws.Descended.{root_there}
use Rattle.h5_chunks.proofs.ChunkFound.{stored_there, top}
use Rattle.h5_chunks.proofs.HeldLaws.{tree_there}
use Rattle.h5_chunks.proofs.low.is_low.Goals as goal

pub tree_node-requires-clause-there : goal.tree_node-requires-clause-there
tree_node-requires-clause-there c =
    root_there c.args.image.now.bytes (OfChunks c.args.shape.now) c.args.root (tree_there c.args.image.now.bytes c.args.shape.now c.args.root (c.requires.chunks).read)

pub is_low_level-requires-clause-high : goal.is_low_level-requires-clause-high
is_low_level-requires-clause-high c =
    let image = c.args.image.now.bytes in
    let read = (c.requires.chunks).read in
    let low = (stored_there image c.args.shape.now c.args.root read).low in
    let own = top image c.args.shape.now c.args.root read in
    let level : c.level.result ≡ level_at image (shape_kind image c.args.shape.now) c.args.root = c.level.ensures ∙ ap (λ (n : Node). n.level) c.tree_node.ensures in
    omega (arith, low, own, level)

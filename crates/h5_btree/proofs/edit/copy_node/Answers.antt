use Rattle.std.proofs.Common.{ℕ, refl, ap, ◌∙◌}
use Rattle.h5_bytes.specs.Bytes.{part}
use Rattle.h5_bytes.proofs.PartLaws.{length-part}
use Rattle.h5_space.specs.Lending.{with_bytes_at}
use Rattle.h5_model.specs.Format.Nodes.{node_bytes, node_length}
use Rattle.h5_btree.proofs.NodeEdits.{rewritten}
use Rattle.h5_btree.proofs.edit.copy_node.Goals as goal

pub returns : goal.returns
returns c =
    rewritten c.args.image.now _ c.args.kind c.args.to (node_bytes c.args.image.now.bytes c.args.kind c.args.from) _
    (length-part c.args.from (node_length c.args.kind) c.args.image.now.bytes c.requires.from) c.requires.to
    (c.copy.ensures ∙ ap (λ (n : ℕ). with_bytes_at c.args.image.now c.args.to (part c.args.from n c.args.image.now.bytes)) c.node_length.ensures.length)
    refl c.requires.form

use Rattle.std.proofs.Common.{◌≡◌, ℕ, List, refl, ap, ◌∙◌}
use Rattle.h5_bytes.specs.Bytes.{part}
use Rattle.h5_model.specs.Format.Nodes.{node_bytes, node_of}
use Rattle.h5_btree.proofs.NodeEdits.{rewritten}
use Rattle.h5_btree.proofs.edit.set_left.Goals as goal

pub returns : goal.returns
returns c =
    let there : c.part_at_mut-bytes.result.now ≡ node_bytes c.args.image.now.bytes c.args.kind c.args.at
    = c.part_at_mut-bytes.ensures.value ∙ ap (λ (n : ℕ). part c.args.at n c.args.image.now.bytes) c.node_length.ensures.length in
    rewritten c.args.image.now _ c.args.kind c.args.at c.put_left.new.bytes _
    (c.put_left.ensures.long ∙ c.part_at_mut-bytes.ensures.size ∙ c.node_length.ensures.length) c.requires.inside refl
    (c.put_left.ensures.node ∙ ap (λ (b : List ℕ). record (node_of c.args.kind b) { left = c.args.left }) there)
    c.put_left.ensures.form

use Rattle.std.proofs.Common.{◌≡◌, ℕ, List, refl, ap, ◌∙◌, drop}
use Rattle.h5_bytes.specs.Bytes.{part}
use Rattle.h5_model.specs.Format.Nodes.{node_bytes, node_of}
use Rattle.h5_btree.proofs.NodeEdits.{rewritten}
use Rattle.h5_btree.proofs.edit.drop_children.Goals as goal

pub returns : goal.returns
returns c =
    let there : c.part_at_mut-bytes.result.now ≡ node_bytes c.args.image.now.bytes c.args.kind c.args.at
    = c.part_at_mut-bytes.ensures.value ∙ ap (λ (n : ℕ). part c.args.at n c.args.image.now.bytes) c.node_length.ensures.length in
    rewritten c.args.image.now _ c.args.kind c.args.at c.drop_front.new.bytes _
    (c.drop_front.ensures.long ∙ c.part_at_mut-bytes.ensures.size ∙ c.node_length.ensures.length) c.requires.inside refl
    (c.drop_front.ensures.node ∙ ap (λ (b : List ℕ). record (node_of c.args.kind b) { keys = drop c.args.n (node_of c.args.kind b).keys; children = drop c.args.n (node_of c.args.kind b).children }) there)
    c.drop_front.ensures.form

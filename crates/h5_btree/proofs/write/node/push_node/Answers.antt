use Rattle.std.proofs.Common.{append_assoc}
use Rattle.h5_btree.proofs.WriteLaws.NodeParts.{node_parts}
use Rattle.h5_btree.proofs.write.node.push_node.Goals as goal

pub returns : goal.returns
returns g c =
    let parts = node_parts c.args.kind.now g.K.TreeKey.bytes c.args.level c.args.left c.args.right c.args.before c.args.children.now
    c.requires.room c.requires.first c.requires.keys in
    rw (
      c.in_ok-push_zeros.ensures,
      c.capacity.ensures.capacity,
      c.key_length.ensures.length,
      c.in_ok-push_children.ensures,
      c.in_ok-push_to.ensures,
      c.in_ok-push_head.ensures,
      parts,
    ) (simp append_assoc)

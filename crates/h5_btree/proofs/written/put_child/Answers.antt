use Rattle.std.proofs.Common.{◌+◌, ap, ◌∙◌, arith, sym, subst}
use Rattle.h5_bytes.specs.Bytes.{with_field}
use Rattle.h5_model.specs.Format.Nodes.{IsNode, node_of}
use Rattle.h5_btree.proofs.NodeEdits.{child_says, child_form, child_room}
use Rattle.h5_btree.proofs.written.put_child.Goals as goal

pub put_u64-requires : goal.put_u64-requires
put_u64-requires c =
    let room = child_room c.args.kind c.args.bytes.now c.args.i c.args.child c.requires.long c.requires.form c.requires.place (omega (arith, c.ranges.child.fits)) in
    omega (arith, room, c.place_of.ensures, c.key_length.ensures.length)

pub returns-clause-node : goal.returns-clause-node
returns-clause-node c =
    ap (node_of c.args.kind) (c.put_u64.ensures ∙ (λ k. with_field c.args.bytes.now (c.place_of.ensures k + c.key_length.ensures.length k) 8 c.args.child))
    ∙ child_says c.args.kind c.args.bytes.now c.args.i c.args.child c.requires.long c.requires.form c.requires.place (omega (arith, c.ranges.child.fits))

pub returns-clause-form : goal.returns-clause-form
returns-clause-form c =
    subst (IsNode c.args.kind) (sym (c.put_u64.ensures ∙ (λ k. with_field c.args.bytes.now (c.place_of.ensures k + c.key_length.ensures.length k) 8 c.args.child)))
    (child_form c.args.kind c.args.bytes.now c.args.i c.args.child c.requires.long c.requires.form c.requires.place (omega (arith, c.ranges.child.fits)))

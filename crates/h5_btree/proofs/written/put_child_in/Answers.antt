use Rattle.std.proofs.Common.{ap, ◌∙◌, arith, sym, subst}
use Rattle.h5_model.specs.Format.Nodes.{IsNode, node_of}
use Rattle.h5_btree.proofs.NodeMoves.{shift_fits, put_in_is, put_in_says, put_in_form}
use Rattle.h5_btree.proofs.written.put_child_in.Goals as goal

pub copy_within-requires-clause-dest_in_bounds : goal.copy_within-requires-clause-dest_in_bounds
copy_within-requires-clause-dest_in_bounds c =
    shift_fits c.args.kind c.args.bytes.now c.args.key.now c.args.j c.args.child c.from-n.result (c.from-n.ensures ∙ c.u16_at.ensures) c.requires.long c.requires.form
    (omega (arith, c.from-n.ensures ∙ c.u16_at.ensures, c.requires.place)) (omega (arith, c.from-n.ensures ∙ c.u16_at.ensures, c.requires.room)) c.requires.width (omega (arith, c.ranges.child.fits)) (omega (arith, c.from-n.ensures ∙ c.u16_at.ensures, c.requires.few))
    c.place_of-from.result c.place_of.result c.key_length.result c.key_length-2.result
    c.place_of-from.ensures c.place_of.ensures c.key_length.ensures.length c.key_length-2.ensures.length

pub overflow_cast-n : goal.overflow_cast-n
overflow_cast-n c = omega (arith, c.from-n.ensures ∙ c.u16_at.ensures, c.requires.few)

pub returns-clause-node : goal.returns-clause-node
returns-clause-node c =
    ap (node_of c.args.kind) (put_in_is c.args.kind c.args.bytes.now c.args.key.now c.args.j c.args.child c.from-n.result (c.from-n.ensures ∙ c.u16_at.ensures) c.requires.long c.requires.form
    (omega (arith, c.from-n.ensures ∙ c.u16_at.ensures, c.requires.place)) (omega (arith, c.from-n.ensures ∙ c.u16_at.ensures, c.requires.room)) c.requires.width (omega (arith, c.ranges.child.fits)) (omega (arith, c.from-n.ensures ∙ c.u16_at.ensures, c.requires.few))
    c.place_of-from.result c.place_of.result c.key_length.result c.key_length-2.result c.copy_within.new.self c.copy_from_slice.new.self c.put_u64.new.bytes c.put_u16.new.bytes
    c.place_of-from.ensures c.place_of.ensures c.key_length.ensures.length c.key_length-2.ensures.length
    c.copy_within.ensures.after c.copy_from_slice.ensures.after c.put_u64.ensures c.put_u16.ensures)
    ∙ put_in_says c.args.kind c.args.bytes.now c.args.key.now c.args.j c.args.child c.from-n.result (c.from-n.ensures ∙ c.u16_at.ensures) c.requires.long c.requires.form
    (omega (arith, c.from-n.ensures ∙ c.u16_at.ensures, c.requires.place)) (omega (arith, c.from-n.ensures ∙ c.u16_at.ensures, c.requires.room)) c.requires.width (omega (arith, c.ranges.child.fits)) (omega (arith, c.from-n.ensures ∙ c.u16_at.ensures, c.requires.few))

pub returns-clause-form : goal.returns-clause-form
returns-clause-form c =
    subst (IsNode c.args.kind) (sym (put_in_is c.args.kind c.args.bytes.now c.args.key.now c.args.j c.args.child c.from-n.result (c.from-n.ensures ∙ c.u16_at.ensures) c.requires.long c.requires.form
    (omega (arith, c.from-n.ensures ∙ c.u16_at.ensures, c.requires.place)) (omega (arith, c.from-n.ensures ∙ c.u16_at.ensures, c.requires.room)) c.requires.width (omega (arith, c.ranges.child.fits)) (omega (arith, c.from-n.ensures ∙ c.u16_at.ensures, c.requires.few))
    c.place_of-from.result c.place_of.result c.key_length.result c.key_length-2.result c.copy_within.new.self c.copy_from_slice.new.self c.put_u64.new.bytes c.put_u16.new.bytes
    c.place_of-from.ensures c.place_of.ensures c.key_length.ensures.length c.key_length-2.ensures.length
    c.copy_within.ensures.after c.copy_from_slice.ensures.after c.put_u64.ensures c.put_u16.ensures))
    (put_in_form c.args.kind c.args.bytes.now c.args.key.now c.args.j c.args.child c.from-n.result (c.from-n.ensures ∙ c.u16_at.ensures) c.requires.long c.requires.form
    (omega (arith, c.from-n.ensures ∙ c.u16_at.ensures, c.requires.place)) (omega (arith, c.from-n.ensures ∙ c.u16_at.ensures, c.requires.room)) c.requires.width (omega (arith, c.ranges.child.fits)) (omega (arith, c.from-n.ensures ∙ c.u16_at.ensures, c.requires.few)))

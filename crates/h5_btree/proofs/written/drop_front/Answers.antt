use Rattle.std.proofs.Common.{ap, ◌∙◌, arith, sym, subst}
use Rattle.h5_model.specs.Format.Nodes.{IsNode, node_of}
use Rattle.h5_btree.proofs.NodeEdits.{end_within}
use Rattle.h5_btree.proofs.NodeHalves.{drop_fits, front_dropped_is, dropped_says, dropped_form}
use Rattle.h5_btree.proofs.written.drop_front.Goals as goal

pub copy_within-requires-clause-in_bounds : goal.copy_within-requires-clause-in_bounds
copy_within-requires-clause-in_bounds c =
    end_within c.args.kind c.args.bytes.now c.from-count.result (c.from-count.ensures ∙ c.u16_at.ensures) c.requires.long c.requires.form
    c.place_of.result c.key_length.result c.place_of.ensures c.key_length.ensures.length

pub copy_within-requires-clause-dest_in_bounds : goal.copy_within-requires-clause-dest_in_bounds
copy_within-requires-clause-dest_in_bounds c =
    drop_fits c.args.kind c.args.bytes.now c.args.n c.from-count.result (c.from-count.ensures ∙ c.u16_at.ensures) c.requires.long c.requires.form
    (omega (arith, c.from-count.ensures ∙ c.u16_at.ensures, c.requires.place)) (omega arith)
    c.place_of-2.result c.place_of.result c.place_of-3.result c.key_length.result
    c.place_of-2.ensures c.place_of.ensures c.place_of-3.ensures c.key_length.ensures.length

pub returns-clause-node : goal.returns-clause-node
returns-clause-node c =
    ap (node_of c.args.kind) (front_dropped_is c.args.kind c.args.bytes.now c.args.n c.from-count.result (c.from-count.ensures ∙ c.u16_at.ensures) c.requires.long c.requires.form
    (omega (arith, c.from-count.ensures ∙ c.u16_at.ensures, c.requires.place)) (omega arith)
    c.place_of-2.result c.place_of.result c.place_of-3.result c.key_length.result c.copy_within.new.self c.put_u16.new.bytes
    c.place_of-2.ensures c.place_of.ensures c.place_of-3.ensures c.key_length.ensures.length c.copy_within.ensures.after c.put_u16.ensures)
    ∙ dropped_says c.args.kind c.args.bytes.now c.args.n c.from-count.result (c.from-count.ensures ∙ c.u16_at.ensures) c.requires.long c.requires.form
    (omega (arith, c.from-count.ensures ∙ c.u16_at.ensures, c.requires.place)) (omega arith)

pub returns-clause-form : goal.returns-clause-form
returns-clause-form c =
    subst (IsNode c.args.kind) (sym (front_dropped_is c.args.kind c.args.bytes.now c.args.n c.from-count.result (c.from-count.ensures ∙ c.u16_at.ensures) c.requires.long c.requires.form
    (omega (arith, c.from-count.ensures ∙ c.u16_at.ensures, c.requires.place)) (omega arith)
    c.place_of-2.result c.place_of.result c.place_of-3.result c.key_length.result c.copy_within.new.self c.put_u16.new.bytes
    c.place_of-2.ensures c.place_of.ensures c.place_of-3.ensures c.key_length.ensures.length c.copy_within.ensures.after c.put_u16.ensures))
    (dropped_form c.args.kind c.args.bytes.now c.args.n c.from-count.result (c.from-count.ensures ∙ c.u16_at.ensures) c.requires.long c.requires.form
    (omega (arith, c.from-count.ensures ∙ c.u16_at.ensures, c.requires.place)) (omega arith))

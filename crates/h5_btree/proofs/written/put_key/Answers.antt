use Rattle.std.proofs.Common.{ap, ◌∙◌, sym, subst}
use Rattle.h5_model.specs.Format.Nodes.{IsNode, node_of}
use Rattle.h5_btree.proofs.NodeEdits.{key_says, key_form, key_written_is}
use Rattle.h5_btree.proofs.written.put_key.Goals as goal

pub returns-clause-node : goal.returns-clause-node
returns-clause-node c =
    ap (node_of c.args.kind) (key_written_is c.args.kind c.args.bytes.now c.args.key.now c.args.i c.requires.long c.requires.form c.requires.place c.requires.width
    c.place_of-from.result c.key_length.result c.copy_from_slice.new.self c.place_of-from.ensures c.key_length.ensures.length c.copy_from_slice.ensures.after)
    ∙ key_says c.args.kind c.args.bytes.now c.args.key.now c.args.i c.requires.long c.requires.form c.requires.place c.requires.width

pub returns-clause-form : goal.returns-clause-form
returns-clause-form c =
    subst (IsNode c.args.kind) (sym (key_written_is c.args.kind c.args.bytes.now c.args.key.now c.args.i c.requires.long c.requires.form c.requires.place c.requires.width
    c.place_of-from.result c.key_length.result c.copy_from_slice.new.self c.place_of-from.ensures c.key_length.ensures.length c.copy_from_slice.ensures.after))
    (key_form c.args.kind c.args.bytes.now c.args.key.now c.args.i c.requires.long c.requires.form c.requires.place c.requires.width)

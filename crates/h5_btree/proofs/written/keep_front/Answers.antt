use Rattle.std.proofs.Common.{ap, ◌∙◌, arith, sym, subst}
use Rattle.h5_model.specs.Format.Nodes.{IsNode, node_of}
use Rattle.h5_btree.proofs.NodeHalves.{kept_says, kept_form}
use Rattle.h5_btree.proofs.written.keep_front.Goals as goal

pub returns-clause-node : goal.returns-clause-node
returns-clause-node c =
    ap (node_of c.args.kind) c.put_u16.ensures
    ∙ kept_says c.args.kind c.args.bytes.now c.args.n c.requires.long c.requires.form c.requires.place (omega (arith, c.requires.few))

pub returns-clause-form : goal.returns-clause-form
returns-clause-form c =
    subst (IsNode c.args.kind) (sym c.put_u16.ensures)
    (kept_form c.args.kind c.args.bytes.now c.args.n c.requires.long c.requires.form c.requires.place (omega (arith, c.requires.few)))

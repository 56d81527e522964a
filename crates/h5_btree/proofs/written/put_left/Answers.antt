use Rattle.std.proofs.Common.{ap, ◌∙◌, arith, sym, subst}
use Rattle.h5_model.specs.Format.Nodes.{IsNode, node_of}
use Rattle.h5_btree.proofs.NodeEdits.{left_says, left_form}
use Rattle.h5_btree.proofs.written.put_left.Goals as goal

pub returns-clause-node : goal.returns-clause-node
returns-clause-node c =
    ap (node_of c.args.kind) c.put_u64.ensures ∙ left_says c.args.kind c.args.bytes.now c.args.left c.requires.long (omega (arith, c.ranges.left.fits)) c.requires.form

pub returns-clause-form : goal.returns-clause-form
returns-clause-form c =
    subst (IsNode c.args.kind) (sym c.put_u64.ensures)
    (left_form c.args.kind c.args.bytes.now c.args.left c.requires.long (omega (arith, c.ranges.left.fits)) c.requires.form)

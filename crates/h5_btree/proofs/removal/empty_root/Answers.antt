use Rattle.std.proofs.Common.{subst}
use Rattle.h5_model.specs.Format.Rows.{Node}
use Rattle.h5_btree.specs.Rewritten.{IsRewritten}
use Rattle.h5_btree.proofs.RewriteSteps.{rewritten_then}
use Rattle.h5_btree.proofs.removal.empty_root.Goals as goal

pub returns : goal.returns
returns c =
    let second = subst (λ (n : Node). IsRewritten c.remove_child.new.image c.set_level.new.image c.args.kind c.args.step.node (record n { level = 0 }))
    c.remove_child.ensures.says c.set_level.ensures in
    rewritten_then c.args.image.now c.remove_child.new.image c.set_level.new.image c.args.kind c.args.step.node _ _ c.remove_child.ensures second

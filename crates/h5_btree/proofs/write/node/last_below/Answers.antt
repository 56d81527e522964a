use Rattle.std.proofs.Common.{ap, ◌∙◌}
use Rattle.h5_btree.specs.declared.write.child.Child.{Child}
use Rattle.h5_btree.proofs.WriteLaws.Steps.{last_is_last}
use Rattle.h5_btree.proofs.write.node.last_below.Goals as goal

pub returns-in-len1-up : goal.returns-in-len1-up
returns-in-len1-up g c =
    ap (λ (x : Child g.row.K.Denot). x.key) c.child-item.is
    ∙ last_is_last c.args.before c.args.children.now c.child-item.result c.in-len1-up.len_at_least

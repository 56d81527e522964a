use Rattle.std.proofs.Common.{refl}
use Rattle.h5_model.specs.declared.edits.Edit.TheVariants.{RemoveAttr}
use Rattle.h5_file.proofs.UntouchedViews.{answered_behind, kept_behind}
use Rattle.h5_file.proofs.session.Session.remove_attr.Goals as goal

pub invariant_of-self : goal.invariant_of-self
invariant_of-self c =
    let s = c.self.inside in
    kept_behind s.file c.remove_attr.new.self (RemoveAttr c.args.path.now c.args.name.now) s.views s.next c.self.invariant refl c.remove_attr.result c.remove_attr.ensures.edited

pub returns : goal.returns
returns c =
    let s = c.self.inside in
    record { edited = answered_behind s.file c.remove_attr.new.self (RemoveAttr c.args.path.now c.args.name.now) s.views s.next c.self.invariant refl c.args.self.now c.self.view_is c.remove_attr.result c.remove_attr.ensures.edited }

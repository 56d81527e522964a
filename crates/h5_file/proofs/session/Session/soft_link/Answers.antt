use Rattle.std.proofs.Common.{refl}
use Rattle.h5_model.specs.declared.edits.Edit.TheVariants.{SoftLink}
use Rattle.h5_file.proofs.UntouchedViews.{answered_behind, kept_behind}
use Rattle.h5_file.proofs.session.Session.soft_link.Goals as goal

pub invariant_of-self : goal.invariant_of-self
invariant_of-self c =
    let s = c.self.inside in
    kept_behind s.file c.soft_link.new.self (SoftLink c.args.text.now c.args.path.now) s.views s.next c.self.invariant refl c.soft_link.result c.soft_link.ensures.edited

pub returns : goal.returns
returns c =
    let s = c.self.inside in
    record { edited = answered_behind s.file c.soft_link.new.self (SoftLink c.args.text.now c.args.path.now) s.views s.next c.self.invariant refl c.args.self.now c.self.view_is c.soft_link.result c.soft_link.ensures.edited }

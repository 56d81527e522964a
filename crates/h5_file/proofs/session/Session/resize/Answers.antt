use Rattle.h5_model.specs.declared.edits.Edit.TheVariants.{Resize}
use Rattle.h5_file.proofs.UntouchedViews.{answered_unseen}
use Rattle.h5_file.proofs.session.Session.resize.Goals as goal

pub returns-then-is_empty : goal.returns-then-is_empty
returns-then-is_empty c =
    let s = c.self.inside in
    record { edited = answered_unseen s.file c.resize.new.self (Resize c.args.path.now c.args.dims.now) s.views s.next c.self.invariant (c.is_empty.ensures.0 c.if-is_empty.true) c.args.self.now c.self.view_is c.resize.result c.resize.ensures.edited }

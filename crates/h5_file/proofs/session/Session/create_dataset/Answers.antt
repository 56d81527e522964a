use Rattle.std.proofs.Common.{refl}
use Rattle.h5_model.specs.declared.edits.Edit.TheVariants.{CreateDataset}
use Rattle.h5_file.proofs.UntouchedViews.{answered_behind, kept_behind}
use Rattle.h5_file.proofs.session.Session.create_dataset.Goals as goal

pub invariant_of-self : goal.invariant_of-self
invariant_of-self c =
    let s = c.self.inside in
    kept_behind s.file c.create_dataset.new.self (CreateDataset c.args.path.now c.args.spec.now) s.views s.next c.self.invariant refl c.create_dataset.result c.create_dataset.ensures.edited

pub returns : goal.returns
returns c =
    let s = c.self.inside in
    record { edited = answered_behind s.file c.create_dataset.new.self (CreateDataset c.args.path.now c.args.spec.now) s.views s.next c.self.invariant refl c.args.self.now c.self.view_is c.create_dataset.result c.create_dataset.ensures.edited }

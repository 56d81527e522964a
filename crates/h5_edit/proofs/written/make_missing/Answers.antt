use Rattle.std.proofs.Common.{subst}
use Rattle.h5_model.specs.Views.Selection.{axes_of}
use Rattle.h5_edit.specs.Stored.{IsStoring}
use Rattle.h5_edit.proofs.StorageGiven.{made_accepted, made_grows, storage_refused}
use Rattle.h5_edit.proofs.WriteSteps.{has_all, has_made}
use Rattle.h5_edit.proofs.written.make_missing.Goals as goal

pub returns-in_default : goal.returns-in_default
returns-in_default c path hyper values is = has_all (subst (IsStoring c.args.opened.now path hyper values c.args.number) c.in_default.is is)

pub returns-in-Ok : goal.returns-in-Ok
returns-in-Ok c path hyper values is =
    let m = c.in-Some.missing in
    let so = subst (IsStoring c.args.opened.now path hyper values c.args.number) c.in-Some.is is in
    let a = so.write.array in
    let there = so.write.there in
    let says = c.make_storage.ensures in
    let made = c.make_storage.result in
    has_made m so c.make_storage.new.self
    (made_accepted so.write m so.found.0 so.found.1 made (says.deep a there) (says.deep_first a there) (says.full a there) c.in-Ok.field-0 c.in-Ok.is)
    (made_grows so.write m so.found.0 so.found.1 made (says.deep a there) (says.deep_first a there) (says.full a there) c.in-Ok.field-0 c.in-Ok.is)
    ((rw c.in-Ok.is at says.changed) a there)
    ((rw c.in-Ok.is at says.stored) a (axes_of hyper) there so.found.1)

pub returns : goal.returns
returns c path hyper values is =
    let m = c.in-Some.missing in
    let so = subst (IsStoring c.args.opened.now path hyper values c.args.number) c.in-Some.is is in
    let a = so.write.array in
    let there = so.write.there in
    let says = c.make_storage.ensures in (
      rw c.insertion_fault.ensures
          (storage_refused so.write m so.found.0 so.found.1 c.make_storage.result (says.deep a there) (says.deep_first a there) (says.full a there)
          c.in-Err.fault c.in-Err.is),
      rw c.in-Err.is at says.refused,
    )

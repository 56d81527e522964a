use Rattle.std.proofs.Common.{Option, subst}
use Rattle.std.specs.Option.{IfSome}
use Rattle.h5_shape.specs.declared.runs.CellRun.{CellRun}
use Rattle.h5_edit.specs.Refusals.Allowed.{AreValuesOfRun}
use Rattle.h5_edit.proofs.FoundStanding.{run_inside, run_some}
use Rattle.h5_edit.proofs.target.stored_cells.Goals as goal

pub returns-in_default : goal.returns-in_default
returns-in_default c values run = c.parted_cells.ensures values

pub run_storage-requires-clause-some : goal.run_storage-requires-clause-some
run_storage-requires-clause-some c =
    let has = subst (λ (r : Option CellRun). IfSome r (AreValuesOfRun c.args.array.now c.args.hyper.now c.requires.run.0)) c.in-Some.is c.requires.run.1 in
    run_some _ _ _ has.selected

pub run_storage-requires-clause-below : goal.run_storage-requires-clause-below
run_storage-requires-clause-below c =
    let has = subst (λ (r : Option CellRun). IfSome r (AreValuesOfRun c.args.array.now c.args.hyper.now c.requires.run.0)) c.in-Some.is c.requires.run.1 in
    run_inside _ _ _ has.selected

pub returns-in-Parted : goal.returns-in-Parted
returns-in-Parted c values run = c.parted_cells-in-Parted.ensures values

use Rattle.std.proofs.Common.{refl, subst}
use Rattle.h5_model.specs.declared.edits.Edit.TheVariants.{Write}
use Rattle.h5_edit.specs.WriteTarget.{IsTarget}
use Rattle.h5_edit.proofs.RuleLaws.Exits.{passed_on}
use Rattle.h5_edit.proofs.RuleLaws.Writes.{write_refused}
use Rattle.h5_edit.proofs.Refusals.{by_rule}
use Rattle.h5_edit.proofs.StandingRuns.{run_asked, selected_written, some_asked, standing_asked, target_has, target_ready, target_standing, target_storing}
use Rattle.h5_edit.proofs.WriteSteps.{selected_made, selected_ready}
use Rattle.h5_edit.proofs.written.write.Goals as goal

pub returns-in_err-number : goal.returns-in_err-number
returns-in_err-number c =
    passed_on _ _ c.from_residual.result _ c.from_residual.ensures.1 (
      by_rule c.args.opened.now (Write c.args.path.now c.args.hyper.now c.args.values.now) _
          (write_refused _ _ c.args.path.now c.args.hyper.now c.args.values.now _ c.in_err-number.ensures),
      refl,
    )

-- ---- cells that stand

pub write_standing-requires-clause-run : goal.write_standing-requires-clause-run
write_standing-requires-clause-run c =
    let is = subst (IsTarget c.args.opened.now c.args.path.now c.args.hyper.now c.args.values.now c.in_ok-number.number) c.in-Standing.is
    (c.in_ok-cells.ensures c.args.path.now c.in_ok-number.ensures.0 c.in_ok-number.ensures.1) in
    run_asked (target_ready c.in-Standing.cells is).1 c.in-Standing.cells (target_standing c.in-Standing.cells is)

pub write_standing-requires-clause-some : goal.write_standing-requires-clause-some
write_standing-requires-clause-some c =
    let is = subst (IsTarget c.args.opened.now c.args.path.now c.args.hyper.now c.args.values.now c.in_ok-number.number) c.in-Standing.is
    (c.in_ok-cells.ensures c.args.path.now c.in_ok-number.ensures.0 c.in_ok-number.ensures.1) in
    some_asked (target_ready c.in-Standing.cells is).1 c.in-Standing.cells (target_standing c.in-Standing.cells is)

pub write_standing-requires-clause-standing : goal.write_standing-requires-clause-standing
write_standing-requires-clause-standing c =
    let is = subst (IsTarget c.args.opened.now c.args.path.now c.args.hyper.now c.args.values.now c.in_ok-number.number) c.in-Standing.is
    (c.in_ok-cells.ensures c.args.path.now c.in_ok-number.ensures.0 c.in_ok-number.ensures.1) in
    standing_asked (target_ready c.in-Standing.cells is).1 c.in-Standing.cells (target_standing c.in-Standing.cells is)

pub returns-in-Standing : goal.returns-in-Standing
returns-in-Standing c =
    let is = subst (IsTarget c.args.opened.now c.args.path.now c.args.hyper.now c.args.values.now c.in_ok-number.number) c.in-Standing.is
    (c.in_ok-cells.ensures c.args.path.now c.in_ok-number.ensures.0 c.in_ok-number.ensures.1) in
    let wrote = c.write_standing.ensures in
    selected_made is.write c.args.opened.now (target_has c.in-Standing.cells is) is.sound c.write_standing.new.self
    (selected_written (target_ready c.in-Standing.cells is).1 c.in-Standing.cells (target_standing c.in-Standing.cells is) c.write_standing.new.self
    wrote.changed wrote.k wrote.sound wrote.whole wrote.in_place) _ refl refl

-- ---- a run in storage that is missing

pub write_missing_run-requires : goal.write_missing_run-requires
write_missing_run-requires c = (
  c.args.path.now,
  c.args.hyper.now,
  subst (IsTarget c.args.opened.now c.args.path.now c.args.hyper.now c.args.values.now c.in_ok-number.number) c.in-Missing.is
      (c.in_ok-cells.ensures c.args.path.now c.in_ok-number.ensures.0 c.in_ok-number.ensures.1),
)

pub returns-in_err-write_missing_run-in-Missing : goal.returns-in_err-write_missing_run-in-Missing
returns-in_err-write_missing_run-in-Missing c =
    let is = subst (IsTarget c.args.opened.now c.args.path.now c.args.hyper.now c.args.values.now c.in_ok-number.number) c.in-Missing.is
    (c.in_ok-cells.ensures c.args.path.now c.in_ok-number.ensures.0 c.in_ok-number.ensures.1) in
    passed_on _ _ c.from_residual-in_err-write_missing_run-in-Missing.result _ c.from_residual-in_err-write_missing_run-in-Missing.ensures.1
    (c.in_err-write_missing_run-in-Missing.ensures c.args.path.now c.args.hyper.now is)

pub returns-in_ok-write_missing_run-in-Missing : goal.returns-in_ok-write_missing_run-in-Missing
returns-in_ok-write_missing_run-in-Missing c =
    let is = subst (IsTarget c.args.opened.now c.args.path.now c.args.hyper.now c.args.values.now c.in_ok-number.number) c.in-Missing.is
    (c.in_ok-cells.ensures c.args.path.now c.in_ok-number.ensures.0 c.in_ok-number.ensures.1) in
    c.in_ok-write_missing_run-in-Missing.ensures c.args.path.now c.args.hyper.now is _ refl refl

-- ---- cells that do not stand together

pub make_missing-requires : goal.make_missing-requires
make_missing-requires c =
    let is = subst (IsTarget c.args.opened.now c.args.path.now c.args.hyper.now c.args.values.now c.in_ok-number.number) c.in-Parted.is
    (c.in_ok-cells.ensures c.args.path.now c.in_ok-number.ensures.0 c.in_ok-number.ensures.1) in
    (c.args.path.now, c.args.hyper.now, c.args.values.now, target_storing c.in-Parted.missing is)

pub returns-in_err-make_missing-in-Parted : goal.returns-in_err-make_missing-in-Parted
returns-in_err-make_missing-in-Parted c =
    let is = subst (IsTarget c.args.opened.now c.args.path.now c.args.hyper.now c.args.values.now c.in_ok-number.number) c.in-Parted.is
    (c.in_ok-cells.ensures c.args.path.now c.in_ok-number.ensures.0 c.in_ok-number.ensures.1) in
    passed_on _ _ c.from_residual-in_err-make_missing-in-Parted.result _ c.from_residual-in_err-make_missing-in-Parted.ensures.1
    (c.in_err-make_missing-in-Parted.ensures c.args.path.now c.args.hyper.now c.args.values.now (target_storing c.in-Parted.missing is))

pub write_by_runs-requires : goal.write_by_runs-requires
write_by_runs-requires c =
    let is = subst (IsTarget c.args.opened.now c.args.path.now c.args.hyper.now c.args.values.now c.in_ok-number.number) c.in-Parted.is
    (c.in_ok-cells.ensures c.args.path.now c.in_ok-number.ensures.0 c.in_ok-number.ensures.1) in
    selected_ready is.write c.make_missing.new.opened
    (c.in_ok-make_missing-in-Parted.ensures c.args.path.now c.args.hyper.now c.args.values.now (target_storing c.in-Parted.missing is))

pub returns-in_ok-make_missing-in-Parted : goal.returns-in_ok-make_missing-in-Parted
returns-in_ok-make_missing-in-Parted c =
    let is = subst (IsTarget c.args.opened.now c.args.path.now c.args.hyper.now c.args.values.now c.in_ok-number.number) c.in-Parted.is
    (c.in_ok-cells.ensures c.args.path.now c.in_ok-number.ensures.0 c.in_ok-number.ensures.1) in
    selected_made is.write c.make_missing.new.opened
    (c.in_ok-make_missing-in-Parted.ensures c.args.path.now c.args.hyper.now c.args.values.now (target_storing c.in-Parted.missing is)) is.sound
    c.write_by_runs.new.opened c.write_by_runs.ensures _ refl refl

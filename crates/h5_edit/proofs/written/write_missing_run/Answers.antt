use Rattle.std.proofs.Common.{ℕ, ◌+◌, ◌*◌, ◌^◌, ◌≤◌, List, Some, subst, sym, arith}
use Rattle.h5_layout.specs.Lacking.{IsFound}
use Rattle.h5_layout.specs.Storage.{storage_bytes}
use Rattle.h5_model.specs.Format.Limits.{most_bytes}
use Rattle.h5_model.specs.Tree.Objects.{Dataset}
use Rattle.h5_model.specs.declared.edits.Edit.TheVariants.{Write}
use Rattle.h5_model.specs.declared.hyperslab.Hyper.{Hyper}
use Rattle.h5_query.specs.Opened.State.{FileState}
use Rattle.h5_edit.specs.Carried.{IsAccepted}
use Rattle.h5_edit.specs.Edited.{IsGrowth}
use Rattle.h5_edit.specs.Refusals.Allowed.{AreStandingAt}
use Rattle.h5_edit.specs.Stored.{AreSelectedReady, HasStorage}
use Rattle.h5_edit.specs.WriteTarget.{IsTarget}
use Rattle.h5_edit.specs.declared.target.MissingRun.{MissingRun}
use Rattle.h5_edit.specs.declared.target.TargetCells.TheVariants as target
use Rattle.h5_model.specs.Views.Selection.{axes_of}
use Rattle.h5_model.specs.Format.Described.{Described}
use Rattle.h5_edit.proofs.MissingRuns.{inner_small, run_has, run_low, run_missing, run_ready, run_standing}
use Rattle.h5_edit.proofs.StandingRuns.{run_asked, selected_written, some_asked, standing_asked}
use Rattle.h5_edit.proofs.StorageGiven.{made_accepted, made_grows, storage_refused}
use Rattle.h5_edit.proofs.WriteSteps.{selected_made}
use Rattle.h5_edit.proofs.written.write_missing_run.Goals as goal
use Rattle.h5_edit.proofs.written.write_missing_run.Goals.{After-size}

pub make_storage-requires : goal.make_storage-requires
make_storage-requires c =
    let is = c.requires.2 in
    record { missing = (is.write.array, is.write.there, (axes_of c.requires.1, (run_missing c.args.run.now is).1)) }

pub returns-in-Err : goal.returns-in-Err
returns-in-Err c path hyper is =
    let a = is.write.array in
    let there = is.write.there in
    let found = run_missing c.args.run.now is in
    let says = c.make_storage.ensures in (
      rw c.insertion_fault.ensures
          (storage_refused is.write c.args.run.now.missing found.0 found.1 c.make_storage.result (says.deep a there) (says.deep_first a there) (says.full a there)
          c.in-Err.fault c.in-Err.is),
      rw c.in-Err.is at says.refused,
    )

-- ---- once the storage is made

module _ (c : After-size) {path : List ℕ} {hyper : Hyper} (is : IsTarget c.args.opened.now path hyper c.args.values.now c.args.number (target.Missing c.args.run.now)) where
  abbrev m : MissingRun
  m = c.args.run.now

  abbrev a : Described
  a = is.write.array

  found : IsFound c.args.opened.now.image a (axes_of hyper) (Some m.missing)
  found = run_missing m is

  allowed : IsAccepted c.args.opened.now (Write path hyper c.args.values.now)
  allowed =
      let says = c.make_storage.ensures in
      made_accepted is.write m.missing found.0 found.1 c.make_storage.result (says.deep a is.write.there) (says.deep_first a is.write.there)
      (says.full a is.write.there) c.in-Ok.at c.in-Ok.is

  growth : IsGrowth c.args.opened.now (Write path hyper c.args.values.now) (storage_bytes c.args.opened.now.image a m.missing)
  growth =
      let says = c.make_storage.ensures in
      made_grows is.write m.missing found.0 found.1 c.make_storage.result (says.deep a is.write.there) (says.deep_first a is.write.there)
      (says.full a is.write.there) c.in-Ok.at c.in-Ok.is

  abbrev mid : FileState
  mid = c.make_storage.new.self

  has : HasStorage c.args.opened.now path hyper c.args.values.now c.args.number mid
  has = run_has m is mid allowed growth (c.in-Ok.ensures.changed a is.write.there) (c.in-Ok.ensures.stored a (axes_of hyper) is.write.there found.1)
      c.make_storage.ensures.sound c.in-Ok.at (c.in-Ok.ensures.placed a (axes_of hyper) is.write.there found)

  ready : (d : Dataset) × AreSelectedReady mid c.args.number hyper c.args.values.now d
  ready = run_ready m is mid allowed growth (c.in-Ok.ensures.changed a is.write.there) (c.in-Ok.ensures.stored a (axes_of hyper) is.write.there found.1)
      c.make_storage.ensures.sound c.in-Ok.at (c.in-Ok.ensures.placed a (axes_of hyper) is.write.there found)

  stands : AreStandingAt mid c.args.number hyper (record { fixed = m.fixed; place = m.place; at = c.in-Ok.at + m.inner * c.size.result })
  stands = subst (λ n. AreStandingAt mid c.args.number hyper (record { fixed = m.fixed; place = m.place; at = c.in-Ok.at + m.inner * n })) (sym c.size.ensures.size)
      (run_standing m is mid allowed growth (c.in-Ok.ensures.changed a is.write.there) (c.in-Ok.ensures.stored a (axes_of hyper) is.write.there found.1)
      c.make_storage.ensures.sound c.in-Ok.at (c.in-Ok.ensures.placed a (axes_of hyper) is.write.there found))

  low : c.in-Ok.at ≤ most_bytes
  low = run_low m is mid allowed growth (c.in-Ok.ensures.changed a is.write.there) (c.in-Ok.ensures.stored a (axes_of hyper) is.write.there found.1)
      c.make_storage.ensures.sound c.in-Ok.at (c.in-Ok.ensures.placed a (axes_of hyper) is.write.there found)

pub overflow_mul-cells : goal.overflow_mul-cells
overflow_mul-cells c =
    let small = subst (λ n. c.args.run.now.inner * n ≤ 2 ^ 43) (sym c.size.ensures.size) (inner_small c.args.run.now c.requires.2) in
    omega (arith, small)

pub overflow_add-cells : goal.overflow_add-cells
overflow_add-cells c =
    let d = (goal.at.overflow_add-cells c).After-size in
    let small = subst (λ n. c.args.run.now.inner * n ≤ 2 ^ 43) (sym c.size.ensures.size) (inner_small c.args.run.now c.requires.2) in
    omega (arith, small, low d c.requires.2)

pub write_standing-requires-clause-run : goal.write_standing-requires-clause-run
write_standing-requires-clause-run c =
    let d = (goal.at.write_standing-requires-clause-run c).After-size in
    run_asked (ready d c.requires.2).1 _ (stands d c.requires.2)

pub write_standing-requires-clause-some : goal.write_standing-requires-clause-some
write_standing-requires-clause-some c =
    let d = (goal.at.write_standing-requires-clause-some c).After-size in
    some_asked (ready d c.requires.2).1 _ (stands d c.requires.2)

pub write_standing-requires-clause-standing : goal.write_standing-requires-clause-standing
write_standing-requires-clause-standing c =
    let d = (goal.at.write_standing-requires-clause-standing c).After-size in
    standing_asked (ready d c.requires.2).1 _ (stands d c.requires.2)

pub returns : goal.returns
returns c path hyper is =
    let d = (goal.at.returns c).After-size in
    let wrote = c.write_standing.ensures in
    selected_made is.write (mid d is) (has d is) is.sound c.write_standing.new.self
    (selected_written (ready d is).1 _ (stands d is) c.write_standing.new.self wrote.changed wrote.k wrote.sound wrote.whole wrote.in_place)

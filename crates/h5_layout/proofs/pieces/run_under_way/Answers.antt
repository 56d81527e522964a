use Rattle.std.proofs.Common.{◌≡◌, Some, [], List, Option, arith, sym, subst}
use Rattle.std.specs.Prelude.{MatchOption}
use Rattle.h5_shape.specs.declared.runs.CellRun.{CellRun}
use Rattle.h5_layout.specs.Runs.{AreRunsBelow, places_left}
use Rattle.h5_layout.proofs.PieceLaws.{run_below, run_on}
use Rattle.h5_layout.proofs.pieces.run_under_way.Goals as goal

pub returns-in-Some-clause-step : goal.returns-in-Some-clause-step
returns-in-Some-clause-step c =
    let run = c.args.run in
    let t : List CellRun = c.next.new.self in
    subst (λ (old : Option (List CellRun)).
    MatchOption c.next.result ((places_left run old ≡ []) × (Some t ≡ old)) (λ next. places_left run old ≡ places_left next (Some t)))
    (sym c.in-Some.is) (run_on run c.in-Some.runs t c.next.result (omega (arith, c.if-run-gt0.false)) c.next.ensures.steps)

pub returns-in-Some-clause-below : goal.returns-in-Some-clause-below
returns-in-Some-clause-below c = λ n below.
    run_below n c.args.run c.in-Some.runs c.next.new.self c.next.result c.next.ensures.steps (subst (AreRunsBelow n c.args.run) c.in-Some.is below)

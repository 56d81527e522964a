use Rattle.std.proofs.Common.{◌≡◌, ℕ, ◌<◌, ◌≤◌, ◌∷◌, ◌++◌, List, [], length, sym, ap, ◌∙◌, subst}
use Rattle.std.specs.List.{AllByRecursion}
use Rattle.h5_space.specs.Addresses.{BeginsAt, run_at, front, back}
use Rattle.h5_space.specs.declared.addresses.Run.{Run}
use Rattle.h5_space.proofs.RunLaws.{run_at_is, run_filled}
use Rattle.h5_space.proofs.RunEdits.{front_all, on_ok_then, begins_first, begins_still, entries_put, are_put, entries_stay, are_still, on_err}
use Rattle.h5_space.proofs.addresses.put.Goals as goal
use Rattle.h5_space.proofs.addresses.put.Given.{Over}

module _ (g : Over) (runs seen : List (Run g.row.V.Denot)) (r i : ℕ) (same : seen ≡ runs) (none : back seen r i ≡ []) where
  behind_none : back runs r i ≡ []
  behind_none = subst (λ (rs : List (Run g.row.V.Denot)). back rs r i ≡ []) same none

pub begin-requires-clause-behind : goal.begin-requires-clause-behind
begin-requires-clause-behind g c = subst (λ (es : List (ℕ × g.row.V.Denot)). AllByRecursion (λ e. e.0 < c.args.entry.0) es)
    (front_all c.args.runs.now.items c.args.run c.args.index (behind_none g c.args.runs.now.items c.deref.result.now c.args.run c.args.index c.deref.ensures.value (c.is_end.ensures.end c.if-is_end.true))) c.requires.gap.low

pub returns-then-is_end-clause-put : goal.returns-then-is_end-clause-put
returns-then-is_end-clause-put g c =
    let none = behind_none g c.args.runs.now.items c.deref.result.now c.args.run c.args.index c.deref.ensures.value (c.is_end.ensures.end c.if-is_end.true) in
    on_ok_then c.begin.result c.begin.ensures.put (λ put. put
    ∙ ap (λ (es : List (ℕ × g.row.V.Denot)). es ++ c.args.entry ∷ []) (sym (front_all c.args.runs.now.items c.args.run c.args.index none))
    ∙ ap (λ (es : List (ℕ × g.row.V.Denot)). front c.args.runs.now.items c.args.run c.args.index ++ c.args.entry ∷ es) (sym none))

-- ---- where memory is refused

pub shift_in-requires : goal.shift_in-requires
shift_in-requires g c = subst (λ (es : List (ℕ × g.row.V.Denot)). c.in_ok-run.index ≤ length es)
    (run_at_is c.roomy_place.new.runs.items c.in_ok-run.run' c.index_mut-taker.result.now c.in_ok-run.ensures.there c.index_mut-taker.ensures.value) c.in_ok-run.ensures.inside

module _ (g : Over) (c : goal.After-from_residual-in_err-shift_in g) where
  unchanged : c.shift_in.new.items.items ≡ run_at c.roomy_place.new.runs.items c.in_ok-run.run'
  unchanged = c.in_err-shift_in.ensures.err ∙ sym (run_at_is c.roomy_place.new.runs.items c.in_ok-run.run' c.index_mut-taker.result.now c.in_ok-run.ensures.there c.index_mut-taker.ensures.value)

pub returns-in_err-shift_in-clause-runs : goal.returns-in_err-shift_in-clause-runs
returns-in_err-shift_in-clause-runs g c = are_still c.roomy_place.new.runs.items c.in_ok-run.run' _ c.in_ok-run.ensures.there (unchanged g c) c.roomy_place.ensures.runs
    (subst (λ (es : List (ℕ × g.row.V.Denot)). BeginsAt c.index_mut-taker.result.now.first es) (sym c.in_err-shift_in.ensures.err)
    (run_filled c.roomy_place.new.runs.items c.in_ok-run.run' c.index_mut-taker.result.now c.roomy_place.ensures.runs.filled c.in_ok-run.ensures.there c.index_mut-taker.ensures.value))

pub returns-in_err-shift_in-clause-err : goal.returns-in_err-shift_in-clause-err
returns-in_err-shift_in-clause-err g c = on_err c.from_residual-in_err-shift_in.result
    (entries_stay c.roomy_place.new.runs.items c.in_ok-run.run' _ c.in_ok-run.ensures.there (unchanged g c) ∙ c.roomy_place.ensures.entries)

-- ---- before the first entry of a run

pub returns-then-index-eq0-clause-put : goal.returns-then-index-eq0-clause-put
returns-then-index-eq0-clause-put g c = entries_put c.args.runs.now.items c.roomy_place.new.runs.items c.args.run c.args.index c.in_ok-run.run' c.in_ok-run.index c.args.entry c.index_mut-taker.result.now _
    c.roomy_place.ensures.entries c.in_ok-run.ensures.place c.in_ok-run.ensures.there c.index_mut-taker.ensures.value c.in_ok-shift_in.ensures.put

pub returns-then-index-eq0-clause-runs : goal.returns-then-index-eq0-clause-runs
returns-then-index-eq0-clause-runs g c = are_put c.args.runs.now.items c.roomy_place.new.runs.items c.args.run c.args.index c.in_ok-run.run' c.in_ok-run.index c.args.entry c.index_mut-taker.result.now _
    c.roomy_place.ensures.entries c.in_ok-run.ensures.place c.in_ok-run.ensures.there c.index_mut-taker.ensures.value c.in_ok-shift_in.ensures.put c.roomy_place.ensures.runs c.requires.gap
    (begins_first c.index_mut-taker.result.now.entries.items c.in_ok-run.index c.args.entry c.if-index-eq0.true)

-- ---- behind it

pub returns-else-index-eq0-clause-put : goal.returns-else-index-eq0-clause-put
returns-else-index-eq0-clause-put g c = entries_put c.args.runs.now.items c.roomy_place.new.runs.items c.args.run c.args.index c.in_ok-run.run' c.in_ok-run.index c.args.entry c.index_mut-taker.result.now _
    c.roomy_place.ensures.entries c.in_ok-run.ensures.place c.in_ok-run.ensures.there c.index_mut-taker.ensures.value c.in_ok-shift_in.ensures.put

pub returns-else-index-eq0-clause-runs : goal.returns-else-index-eq0-clause-runs
returns-else-index-eq0-clause-runs g c = are_put c.args.runs.now.items c.roomy_place.new.runs.items c.args.run c.args.index c.in_ok-run.run' c.in_ok-run.index c.args.entry c.index_mut-taker.result.now _
    c.roomy_place.ensures.entries c.in_ok-run.ensures.place c.in_ok-run.ensures.there c.index_mut-taker.ensures.value c.in_ok-shift_in.ensures.put c.roomy_place.ensures.runs c.requires.gap
    (begins_still c.index_mut-taker.result.now.first c.index_mut-taker.result.now.entries.items c.in_ok-run.index c.args.entry
    (run_filled c.roomy_place.new.runs.items c.in_ok-run.run' c.index_mut-taker.result.now c.roomy_place.ensures.runs.filled c.in_ok-run.ensures.there c.index_mut-taker.ensures.value) c.if-index-eq0.false)

use Rattle.std.proofs.Common.{◌≡◌, ℕ, List, None, Some, ap, subst, sym, ◌∙◌}
use Rattle.h5_model.specs.Edits.Refusal.{first_holding}
use Rattle.h5_model.specs.Views.Selection.{axes_of, selection_of}
use Rattle.h5_query.specs.Selected.{hyper_rules}
use Rattle.h5_edit.specs.Stored.{AreSelectedRuns, AreValuesWritten}
use Rattle.h5_edit.proofs.RunsReady.{runs_ready}
use Rattle.h5_edit.proofs.written.write_by_runs.Goals as goal

pub dims_of-dims-requires : goal.dims_of-dims-requires
dims_of-dims-requires c = (c.requires.0, (c.requires.1).array)

pub unreachable-requires : goal.unreachable-requires
unreachable-requires c =
    let ready = c.requires.1 in
    let same = c.dims_of-dims.ensures.sizes c.requires.0 ready.array in
    absurd (let never : None ≡ Some c.in_default.field-0 = sym ready.selects ∙ ap (λ (sizes : List ℕ). first_holding (hyper_rules sizes c.args.hyper.now)) (sym same) ∙ c.in_default.ensures.rules in cc)

pub write_cells-requires : goal.write_cells-requires
write_cells-requires c =
    let ready = c.requires.1 in
    let same = c.dims_of-dims.ensures.sizes c.requires.0 ready.array in
    let are : AreSelectedRuns (c.requires.0).sizes c.args.hyper.now c.runs.result = subst (λ (sizes : List ℕ). AreSelectedRuns sizes c.args.hyper.now c.runs.result) same (record {
      places = c.runs.ensures.places ∙ ap (selection_of c.dims_of-dims.result) (c.in-Ok.ensures.rules).1;
      maximal = c.runs.ensures.maximal;
      few = c.dims_of-dims.ensures.small;
    }) in
    record { run = (c.requires.0, runs_ready ready c.runs.result are) }

pub returns : goal.returns
returns c d array =
    let same = c.dims_of-dims.ensures.sizes d array in
    let places = c.runs.ensures.places ∙ ap (selection_of c.dims_of-dims.result) (c.in-Ok.ensures.rules).1
    ∙ ap (λ (sizes : List ℕ). selection_of sizes (axes_of c.args.hyper.now)) same in
    let wrote = c.write_cells.ensures in
    subst (λ (ps : List ℕ). AreValuesWritten c.args.opened.now c.args.number ps c.args.values.now c.write_cells.new.self) places
    (record { changed = wrote.changed; k = wrote.k; sound = λ _. wrote.sound; whole = wrote.whole; in_place = λ _. wrote.in_place })

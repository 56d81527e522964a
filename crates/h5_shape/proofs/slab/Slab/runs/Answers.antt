use Rattle.std.proofs.Common.{◌≡◌, true, sym, ap, subst, ◌∙◌}
use Rattle.h5_model.specs.Views.Selection.{selection_of, selects_none}
use Rattle.h5_shape.specs.Runs.{AreMaximal, places_in, cell_runs}
use Rattle.h5_shape.proofs.RunLaws.{places_of_runs, runs-maximal}
use Rattle.h5_shape.proofs.SlabRuns.{selection_none}
use Rattle.h5_shape.proofs.slab.Slab.runs.Goals as goal

pub returns-then-is_empty-clause-value : goal.returns-then-is_empty-clause-value
returns-then-is_empty-clause-value c =
    let none : selects_none c.args.self.now ≡ true = cc in
    c.none.ensures ∙ ap cell_runs (sym (selection_none c.args.dims.now c.args.self.now none))

pub returns-then-is_empty-clause-places : goal.returns-then-is_empty-clause-places
returns-then-is_empty-clause-places c =
    let none : selects_none c.args.self.now ≡ true = cc in
    ap places_in c.none.ensures ∙ sym (selection_none c.args.dims.now c.args.self.now none)

pub returns-clause-places : goal.returns-clause-places
returns-clause-places c =
    let value : c.of.result ≡ cell_runs (selection_of c.args.dims.now c.args.self.now) = cc in
    ap places_in value ∙ places_of_runs (selection_of c.args.dims.now c.args.self.now)

pub returns-clause-maximal : goal.returns-clause-maximal
returns-clause-maximal c =
    let value : c.of.result ≡ cell_runs (selection_of c.args.dims.now c.args.self.now) = cc in
    subst AreMaximal (sym value) (runs-maximal (selection_of c.args.dims.now c.args.self.now))

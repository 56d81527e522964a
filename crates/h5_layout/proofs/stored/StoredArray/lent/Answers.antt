use Rattle.std.proofs.Common.{◌≡◌, ℕ, ◌+◌, ◌*◌, ◌≤◌, List, [], ◌∷◌, length, sym, ap, ◌∙◌, subst}
use Rattle.h5_model.specs.Format.Fixed.{Fixed}
use Rattle.h5_model.specs.Tree.Objects.{Dataset}
use Rattle.h5_model.specs.Views.Selection.{selection_of}
use Rattle.h5_shape.specs.Runs.{cell_runs}
use Rattle.h5_layout.specs.Runs.{AreCellBytes}
use Rattle.h5_layout.proofs.DataLaws.{few_cells}
use Rattle.h5_layout.proofs.LentLaws.{run_lent, run_room}
use Rattle.h5_layout.proofs.stored.StoredArray.lent.Goals as goal
use Rattle.h5_layout.proofs.stored.StoredArray.lent.Goals.{After-fixed}

type-is : (c : After-fixed) → c.fixed.result ≡ c.args.self.now.fixed
type-is c = c.fixed.ensures ∙ ap (λ (d : Dataset). d.fixed) c.self.view_is

one : (c : After-fixed) → cell_runs (selection_of c.args.self.now.sizes c.args.slab.now) ≡ c.in_ok-run.run' ∷ []
one c =
    let sizes = c.dims.ensures.sizes ∙ ap (λ (d : Dataset). d.sizes) c.self.view_is in
    ap (λ (ds : List ℕ). cell_runs (selection_of ds c.args.slab.now)) (sym sizes) ∙ c.in_ok-run.ensures

pub single_run-requires-clause-small : goal.single_run-requires-clause-small
single_run-requires-clause-small c = few_cells c.self.inside.array.sizes c.dims.result.now c.self.inside.array c.dims.ensures.sizes c.dims.ensures.sound

pub run_bytes-requires : goal.run_bytes-requires
run_bytes-requires c =
    let b = (goal.at.run_bytes-requires c).After-fixed in
    let run = c.in_ok-run.run' in
    subst (λ (t : Fixed). (run.place + run.length) * t.size ≤ length c.in_ok-bytes.bytes.now) (sym (type-is b))
    (run_room c.args.self.now c.args.slab.now run (one b) c.in_ok-bytes.bytes.now c.in_ok-bytes.ensures)

pub returns : goal.returns
returns c =
    let b = (goal.at.returns c).After-fixed in
    let run = c.in_ok-run.run' in
    run_lent c.args.self.now c.args.slab.now run (one b) c.in_ok-bytes.bytes.now c.run_bytes.result.now c.requires.within c.in_ok-bytes.ensures
    (subst (λ (t : Fixed). AreCellBytes t c.in_ok-bytes.bytes.now run.place run.length c.run_bytes.result.now) (type-is b) c.run_bytes.ensures.cells)

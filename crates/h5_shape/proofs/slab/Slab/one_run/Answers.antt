use Rattle.std.proofs.Common.{◌≡◌, true, sym, ap, ◌∙◌}
use Rattle.std.specs.Option.{is_some}
use Rattle.h5_model.specs.Views.Selection.{selection_of}
use Rattle.h5_shape.proofs.RunLaws.{single-steps, run-single, is_single}
use Rattle.h5_shape.proofs.slab.Slab.one_run.Goals as goal

pub returns-then-is_some : goal.returns-then-is_some
returns-then-is_some c =
    let some : is_some c.next.result ≡ true = cc in
    single-steps _ _ _ c.next.result c.next-then-is_some.result c.next.ensures.steps c.next-then-is_some.ensures.steps some c.is_none.result c.is_none.ensures
    ∙ ap is_single c.runs-runs.ensures.value ∙ sym (run-single (selection_of c.args.dims.now c.args.self.now))

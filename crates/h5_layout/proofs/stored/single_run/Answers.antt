use Rattle.std.proofs.Common.{◌≡◌, true, sym, ap, ◌∙◌}
use Rattle.std.specs.Option.{is_some}
use Rattle.h5_model.specs.Views.Selection.{selection_of}
use Rattle.h5_layout.proofs.LentLaws.{not_single}
use Rattle.h5_layout.proofs.stored.single_run.Goals as goal

pub returns-then-is_some : goal.returns-then-is_some
returns-then-is_some c =
    let some : is_some c.next.result ≡ true = ap is_some c.in_ok-run.was in
    not_single (selection_of c.args.dims.now c.args.slab.now) _ _ _ c.next.result c.next-2.result c.runs-runs.ensures.value c.next.ensures.steps c.next-2.ensures.steps some
    (sym c.is_some.ensures ∙ c.if-is_some.true)

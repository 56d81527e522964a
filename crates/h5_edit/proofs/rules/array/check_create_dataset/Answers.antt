use Rattle.std.proofs.Common.{sym, ◌∙◌}
use Rattle.h5_edit.proofs.RuleLaws.Exits.{passed_on}
use Rattle.h5_edit.proofs.RuleLaws.Verdicts.{array_refused, spec_refused, no_array_left, array_placed}
use Rattle.h5_edit.proofs.rules.array.check_create_dataset.Goals as goal

pub returns-in_err-place-clause-placed : goal.returns-in_err-place-clause-placed
returns-in_err-place-clause-placed c =
    passed_on _ _ c.from_residual.result _ c.from_residual.ensures.1 (array_refused _ _ c.args.path.now c.args.spec.now _ c.in_err-place.ensures)

pub returns-in_err-check_spec-clause-placed : goal.returns-in_err-check_spec-clause-placed
returns-in_err-check_spec-clause-placed c =
    passed_on _ _ c.from_residual-in_err-check_spec.result _ c.from_residual-in_err-check_spec.ensures.1
    (spec_refused _ _ c.args.path.now c.args.spec.now c.in_ok-place.place c.in_ok-place.ensures _ c.in_err-check_spec.ensures.rules)

pub returns-then-is_full-clause-placed : goal.returns-then-is_full-clause-placed
returns-then-is_full-clause-placed c =
    no_array_left _ _ c.args.path.now c.args.spec.now c.in_ok-place.place c.in_ok-place.ensures c.in_ok-check_spec.ensures.rules (sym c.is_full.ensures ∙ c.if-is_full.true)

pub returns-clause-placed : goal.returns-clause-placed
returns-clause-placed c =
    array_placed _ _ c.args.path.now c.args.spec.now c.in_ok-place.place c.in_ok-place.ensures c.in_ok-check_spec.ensures.rules (sym c.is_full.ensures ∙ c.if-is_full.false)

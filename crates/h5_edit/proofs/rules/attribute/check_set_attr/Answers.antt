use Rattle.h5_edit.proofs.RuleLaws.Exits.{passed_on}
use Rattle.h5_edit.proofs.RuleLaws.Verdicts.{set_refused, own_refused, set_at}
use Rattle.h5_edit.proofs.rules.attribute.check_set_attr.Goals as goal

pub returns-in_err-object-clause-at : goal.returns-in_err-object-clause-at
returns-in_err-object-clause-at c =
    passed_on _ _ c.from_residual.result _ c.from_residual.ensures.1 (set_refused _ _ c.args.path.now c.args.attr.now _ c.in_err-object.ensures.found)

pub returns-in_err-check_own-clause-at : goal.returns-in_err-check_own-clause-at
returns-in_err-check_own-clause-at c =
    passed_on _ _ c.from_residual-in_err-check_own.result _ c.from_residual-in_err-check_own.ensures.1
    (own_refused _ _ c.args.path.now c.args.attr.now c.in_ok-object.object.number c.in_ok-object.ensures.found.leads _ c.in_err-check_own.ensures.rules)

pub returns-clause-at : goal.returns-clause-at
returns-clause-at c =
    set_at _ _ c.args.path.now c.args.attr.now c.in_ok-object.object.number c.in_ok-object.ensures.found.leads c.in_ok-check_own.ensures.rules

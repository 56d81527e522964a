use Rattle.h5_edit.proofs.RuleLaws.Exits.{passed_on}
use Rattle.h5_edit.proofs.RuleLaws.Verdicts.{remove_refused}
use Rattle.h5_edit.proofs.RuleLaws.Attributes.{name_absent, name_present}
use Rattle.h5_edit.proofs.rules.attribute.check_remove_attr.Goals as goal

pub returns-in_err-number-clause-at : goal.returns-in_err-number-clause-at
returns-in_err-number-clause-at c =
    passed_on _ _ c.from_residual.result _ c.from_residual.ensures.1 (remove_refused _ _ c.args.path.now c.args.name.now _ c.in_err-number.ensures.found)

pub new-requires : goal.new-requires
new-requires c = rw (c.in_ok-number.ensures.found.image) (c.in_ok-number.ensures.found.kept).kept.header.within

pub returns-in-Some-clause-at : goal.returns-in-Some-clause-at
returns-in-Some-clause-at c =
    name_present c.args.opened.now c.in_ok-number.field-0.number c.in_ok-number.field-0.object.now c.in_ok-number.ensures.found.kept
    _ c.args.path.now c.args.name.now c.in_ok-number.ensures.found.leads c.in-Some.field-0 (rw (c.new.ensures, c.in_ok-number.ensures.found.image) at c.in-Some.ensures.entry)

pub returns-in-None-clause-at : goal.returns-in-None-clause-at
returns-in-None-clause-at c =
    name_absent c.args.opened.now c.in_ok-number.field-0.number c.in_ok-number.field-0.object.now c.in_ok-number.ensures.found.kept
    _ c.args.path.now c.args.name.now c.in_ok-number.ensures.found.leads (rw (c.new.ensures, c.in_ok-number.ensures.found.image) at c.in-None.ensures.entry)

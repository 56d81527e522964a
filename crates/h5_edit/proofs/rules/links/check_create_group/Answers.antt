use Rattle.std.proofs.Common.{sym, ◌∙◌}
use Rattle.h5_edit.proofs.RuleLaws.Exits.{passed_on}
use Rattle.h5_edit.proofs.RuleLaws.Verdicts.{group_refused, no_group_left, group_placed}
use Rattle.h5_edit.proofs.rules.links.check_create_group.Goals as goal

pub returns-in_err-place : goal.returns-in_err-place
returns-in_err-place c = passed_on _ _ c.from_residual.result _ c.from_residual.ensures.1 (group_refused _ _ c.args.path.now _ c.in_err-place.ensures)

pub returns-then-is_full : goal.returns-then-is_full
returns-then-is_full c = no_group_left _ _ c.args.path.now c.in_ok-place.place c.in_ok-place.ensures (sym c.is_full.ensures ∙ c.if-is_full.true)

pub returns : goal.returns
returns c = group_placed _ _ c.args.path.now c.in_ok-place.place c.in_ok-place.ensures (sym c.is_full.ensures ∙ c.if-is_full.false)

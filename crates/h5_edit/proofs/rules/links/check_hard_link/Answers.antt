use Rattle.h5_edit.proofs.RuleLaws.Exits.{passed_on}
use Rattle.h5_edit.proofs.RuleLaws.Verdicts.{target_refused, paths_refused, hard_refused, link_refused, link_placed}
use Rattle.h5_edit.proofs.rules.links.check_hard_link.Goals as goal

pub returns-in_err-check_target-in-Ok-Ok : goal.returns-in_err-check_target-in-Ok-Ok
returns-in_err-check_target-in-Ok-Ok c =
    passed_on _ _ c.from_residual.result _ c.from_residual.ensures.1
    (link_refused _ _ c.args.target.now c.args.path.now c.in-Ok-Ok.field-0-0.number c.in-Ok-Ok.ensures.found.leads c.in-Ok-Ok.place c.in-Ok-Ok.ensures' _ c.in_err-check_target-in-Ok-Ok.ensures)

pub returns-in_ok-check_target-in-Ok-Ok : goal.returns-in_ok-check_target-in-Ok-Ok
returns-in_ok-check_target-in-Ok-Ok c =
    link_placed _ _ c.args.target.now c.args.path.now c.in-Ok-Ok.field-0-0.number c.in-Ok-Ok.ensures.found.leads c.in-Ok-Ok.place c.in-Ok-Ok.ensures' c.in_ok-check_target-in-Ok-Ok.ensures

pub returns-in-Ok-Err : goal.returns-in-Ok-Err
returns-in-Ok-Err c = hard_refused _ _ c.args.target.now c.args.path.now c.in-Ok-Err.field-0-0.number c.in-Ok-Err.ensures.found.leads c.in-Ok-Err.fault c.in-Ok-Err.ensures'

pub returns-in-Err-Ok : goal.returns-in-Err-Ok
returns-in-Err-Ok c = target_refused _ _ c.args.target.now c.args.path.now c.in-Err-Ok.field-0-1 c.in-Err-Ok.fault c.in-Err-Ok.ensures.found c.in-Err-Ok.ensures'

pub returns-in-Err-Err : goal.returns-in-Err-Err
returns-in-Err-Err c =
    rw c.lower.ensures
    (paths_refused _ _ c.args.target.now c.args.path.now c.in-Err-Err.of_target c.in-Err-Err.of_path c.in-Err-Err.ensures.found c.in-Err-Err.ensures')

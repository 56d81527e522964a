use Rattle.h5_edit.proofs.RuleLaws.Verdicts.{text_refused, both_refused, soft_answered}
use Rattle.h5_edit.proofs.rules.links.check_soft_link.Goals as goal

pub returns-in-Ok-default : goal.returns-in-Ok-default
returns-in-Ok-default c =
    let allowed = rw c.in-Ok-default.is-0 at c.check_text.ensures in
    soft_answered _ _ c.args.path.now c.args.text.now allowed c.new_place-placed.result c.new_place-placed.ensures

pub returns-in-Err-Ok : goal.returns-in-Err-Ok
returns-in-Err-Ok c = text_refused _ _ c.args.path.now c.args.text.now c.in-Err-Ok.field-0-1 c.in-Err-Ok.fault c.in-Err-Ok.ensures' c.in-Err-Ok.ensures

pub returns-in-Err-Err : goal.returns-in-Err-Err
returns-in-Err-Err c =
    rw c.lower.ensures (both_refused _ _ c.args.path.now c.args.text.now c.in-Err-Err.of_text c.in-Err-Err.of_path c.in-Err-Err.ensures c.in-Err-Err.ensures')

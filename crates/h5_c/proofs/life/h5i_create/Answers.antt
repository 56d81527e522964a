use Rattle.std.proofs.Common.{ap, ◌∙◌}
use Rattle.h5_c.proofs.Opened.{created_as, not_created}
use Rattle.h5_c.proofs.life.h5i_create.Goals as goal

pub returns-in_default-clause-created : goal.returns-in_default-clause-created
returns-in_default-clause-created c shut = not_created _ _ (ap (λ s. s.is_open) c.is_open.ensures.1 ∙ shut)

pub returns-in-Ok-keep-clause-created : goal.returns-in-Ok-keep-clause-created
returns-in-Ok-keep-clause-created c shut = created_as c.in-Ok.file _ _ c.in-Ok.ensures.created c.in-Ok-keep.ensures

pub returns-in-Err-clause-created : goal.returns-in-Err-clause-created
returns-in-Err-clause-created c shut = not_created _ _ c.in-Err.ensures

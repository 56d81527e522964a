use Rattle.std.proofs.Common.{refl, ap, ◌∙◌}
use Rattle.h5_c.proofs.Opened.{opened_as, refused_at, short_of_memory}
use Rattle.h5_c.proofs.life.h5i_open.Goals as goal

pub returns-in_default-clause-opened : goal.returns-in_default-clause-opened
returns-in_default-clause-opened c shut = short_of_memory c.args.bytes.now _ _ _ (ap (λ s. s.is_open) c.is_open.ensures.1 ∙ shut)

pub returns-in-Ok-keep-clause-opened : goal.returns-in-Ok-keep-clause-opened
returns-in-Ok-keep-clause-opened c shut =
    opened_as c.args.bytes.now c.in-Ok.image.items _ _ _ _ c.in-Ok.ensures.items c.in-Ok-read_file.ensures c.in-Ok-keep.ensures

pub returns-in-Err-keep-clause-opened : goal.returns-in-Err-keep-clause-opened
returns-in-Err-keep-clause-opened c shut = short_of_memory c.args.bytes.now _ _ _ c.in-Err-keep.ensures

pub returns-in-Err-clause-opened : goal.returns-in-Err-clause-opened
returns-in-Err-clause-opened c shut =
    refused_at c.args.bytes.now c.in-Ok.image.items _ _ _ _ c.in-Err.fault c.in-Ok.ensures.items (ap (λ s. s.is_open) c.is_open.ensures.1 ∙ shut) c.in-Err.ensures refl c.open_status.ensures

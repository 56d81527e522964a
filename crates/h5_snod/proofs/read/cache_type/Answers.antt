use Rattle.std.proofs.Common.{ℕ, List, ap, ◌∙◌}
use Rattle.h5_model.specs.Format.Symbols.{entry_of}
use Rattle.h5_bytes.specs.Bytes.{number_at}
use Rattle.h5_snod.proofs.read.cache_type.Goals as goal

pub returns : goal.returns
unfolding entry_of
returns c = c.u32_at.ensures ∙ ap (λ (bytes : List ℕ). number_at bytes 16 4) c.entry_bytes.ensures.bytes

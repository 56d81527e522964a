use Rattle.std.proofs.Common.{ℕ, List, ap, ◌∙◌}
use Rattle.h5_bytes.specs.Bytes.{number_at}
use Rattle.h5_bytes.specs.Texts.{text_at}
use Rattle.h5_model.specs.Format.Symbols.{entry_of}
use Rattle.h5_snod.proofs.search.entry_name.Goals as goal

pub returns : goal.returns
unfolding entry_of
returns c = c.text_from.ensures
    ∙ ap (text_at c.args.segment.now) (c.u64_at.ensures ∙ ap (λ (bytes : List ℕ). number_at bytes 0 8) c.entry_bytes.ensures.bytes)

use Rattle.std.proofs.Common.{ap, ◌∙◌}
use Rattle.h5_model.specs.Format.Symbols.{entry_of}
use Rattle.h5_snod.proofs.WrittenLaws.{entry_back}
use Rattle.h5_snod.proofs.write.write_entry.Goals as goal

pub returns-clause-reads : goal.returns-clause-reads
returns-clause-reads c = ap entry_of c.write_parts.ensures.written ∙ entry_back c.args.symbol c.write_parts.ensures.small

use Rattle.std.proofs.Common.{rules, length}
use Rattle.h5_snod.proofs.WrittenLaws.{form_back, known_back, entries_back}
use Rattle.h5_snod.proofs.write.write_symbol_node.Goals as goal

pub returns-clause-form : goal.returns-clause-form
returns-clause-form c = form_back c.args.symbols.now (length c.args.bytes.now) c.requires.counted _ (search rules)

pub returns-clause-known : goal.returns-clause-known
returns-clause-known c = known_back c.args.symbols.now (length c.args.bytes.now) c.requires.counted _ (search rules) c.write_entries.ensures.small

pub returns-clause-reads : goal.returns-clause-reads
returns-clause-reads c = entries_back c.args.symbols.now (length c.args.bytes.now) c.requires.counted _ (search rules) c.write_entries.ensures.small

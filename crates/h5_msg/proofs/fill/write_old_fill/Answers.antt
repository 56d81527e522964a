use Rattle.std.proofs.Common.{rules, length}
use Rattle.h5_msg.proofs.FillLaws.{old_fill_back}
use Rattle.h5_msg.proofs.fill.write_old_fill.Goals as goal

pub returns-clause-reads : goal.returns-clause-reads
returns-clause-reads c = old_fill_back c.args.fixed.now c.args.value (length c.args.bytes.now) _ c.size-size.ensures.one_of c.requires.of_type (search rules)

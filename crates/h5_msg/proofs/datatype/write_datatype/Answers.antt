use Rattle.std.proofs.Common.{length, arith}
use Rattle.std.proofs.lemmas.Grind.{common_steps}
use Rattle.h5_msg.proofs.DatatypeLaws.{fixed_back}
use Rattle.h5_msg.proofs.datatype.write_datatype.Goals as goal

pub returns-clause-reads : goal.returns-clause-reads
returns-clause-reads c = fixed_back c.args.fixed.now (length c.args.bytes.now) _ c.size-size.ensures.one_of (grind (arith, common_steps))

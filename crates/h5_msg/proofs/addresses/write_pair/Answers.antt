use Rattle.std.proofs.Common.{rules, length, arith}
use Rattle.std.proofs.lemmas.Grind.{common_steps}
use Rattle.h5_msg.proofs.AddressLaws.{first_back, second_back}
use Rattle.h5_msg.proofs.addresses.write_pair.Goals as goal

pub returns-clause-first : goal.returns-clause-first
returns-clause-first c = first_back c.args.first c.args.second (length c.args.bytes.now) _ (search rules) (grind (arith, common_steps))

pub returns-clause-second : goal.returns-clause-second
returns-clause-second c = second_back c.args.first c.args.second (length c.args.bytes.now) _ (search rules) (grind (arith, common_steps))

use Rattle.std.proofs.Common.{length, arith}
use Rattle.std.proofs.lemmas.Grind.{common_steps}
use Rattle.h5_msg.proofs.WordLaws.{words_long}
use Rattle.h5_msg.proofs.DataspaceLaws.{plain_back}
use Rattle.h5_msg.proofs.dataspace.write_dataspace.Goals as goal

pub returns-clause-reads : goal.returns-clause-reads
returns-clause-reads c = plain_back c.args.sizes.now (length c.args.bytes.now) _ c.requires.rank (λ k. (c.type_inv.sizes k).fits)
    (grind (arith, common_steps, words_long))

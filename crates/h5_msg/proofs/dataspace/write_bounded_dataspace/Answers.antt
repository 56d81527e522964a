use Rattle.std.proofs.Common.{length, arith}
use Rattle.std.proofs.lemmas.Grind.{common_steps}
use Rattle.h5_model.proofs.EditLaws.{length-are_maxima}
use Rattle.h5_msg.proofs.WordLaws.{bounds_long}
use Rattle.h5_msg.proofs.DataspaceLaws.{bounded_back}
use Rattle.h5_msg.proofs.dataspace.write_bounded_dataspace.Goals as goal

pub returns-clause-reads : goal.returns-clause-reads
returns-clause-reads c = bounded_back c.args.sizes.now c.args.maxima.now (length c.args.bytes.now) _ c.requires.rank (λ k. (c.type_inv.sizes k).fits)
    c.requires.bounds c.write_bounds.ensures.small
    (grind (arith, common_steps, bounds_long, length-are_maxima))

use Rattle.std.proofs.Common.{length, arith}
use Rattle.std.proofs.lemmas.Grind.{common_steps}
use Rattle.h5_msg.proofs.LayoutLaws.{contiguous_back}
use Rattle.h5_msg.proofs.layout.write_contiguous_layout.Goals as goal

pub returns-clause-reads : goal.returns-clause-reads
returns-clause-reads c = λ sizes size need. contiguous_back c.args.address c.args.len (length c.args.bytes.now) _ sizes size c.requires.address c.ranges.len.fits
    (grind (arith, common_steps)) need

use Rattle.std.proofs.Common.{length, arith}
use Rattle.std.proofs.lemmas.Grind.{common_steps}
use Rattle.h5_msg.proofs.LayoutLaws.{compact_back}
use Rattle.h5_msg.proofs.layout.write_compact_layout.Goals as goal

pub returns-clause-reads : goal.returns-clause-reads
returns-clause-reads c = λ sizes size need. compact_back c.args.data.now (length c.args.bytes.now) _ sizes size c.requires.short
    (grind (arith, common_steps)) need

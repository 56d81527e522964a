use Rattle.std.proofs.Common.{rules, length, arith}
use Rattle.std.proofs.lemmas.Grind.{common_steps}
use Rattle.h5_msg.proofs.LayoutLaws.{short_words_long, chunked_back}
use Rattle.h5_msg.proofs.layout.write_chunked_layout.Goals as goal

pub returns-clause-reads : goal.returns-clause-reads
returns-clause-reads c = λ sizes same. chunked_back c.args.chunk.now c.args.tree c.args.fixed.now.size (length c.args.bytes.now) _ sizes
    (λ k. (c.type_inv.chunk k).fits) c.requires.sizes c.requires.address c.requires.dimensions (first_of (search rules, omega arith))
    (grind (arith, common_steps, short_words_long)) same

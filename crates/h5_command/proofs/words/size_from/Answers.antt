use Rattle.std.proofs.Common.{rules}
use Rattle.h5_command.proofs.Splits.{size_from_three}
use Rattle.h5_command.proofs.words.size_from.Goals as goal

pub returns-then-is_some : goal.returns-then-is_some
returns-then-is_some c =
    size_from_three c.args.word.now c.cut.result.0.now c.cut-2.result.0.now c.cut.result.1 c.cut-2.result.1 c.in-Some.rest c.cut.ensures.parts c.in-Some.is c.cut-2.ensures.parts (search rules)

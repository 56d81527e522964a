use Rattle.std.proofs.Common.{◌∙◌, arith}
use Rattle.std.proofs.lemmas.Grind.{common_steps}
use Rattle.h5_attr.proofs.EntryLaws.{named-is}
use Rattle.h5_attr.proofs.find.get.Goals as goal

pub returns-then-eq-clause-first : goal.returns-then-eq-clause-first
returns-then-eq-clause-first c = grind (arith, common_steps)

pub returns-then-eq-clause-entry : goal.returns-then-eq-clause-entry
returns-then-eq-clause-entry c attributes has =
    returns-then-eq-clause-first c ∙ named-is c.args.name.now c.args.header.now.messages attributes has

pub returns-clause-first : goal.returns-clause-first
returns-clause-first c = grind (arith, common_steps)

pub returns-clause-entry : goal.returns-clause-entry
returns-clause-entry c attributes has =
    returns-clause-first c ∙ named-is c.args.name.now c.args.header.now.messages attributes has

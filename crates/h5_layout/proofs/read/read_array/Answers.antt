use Rattle.std.proofs.Common.{Ok}
use Rattle.h5_model.proofs.DescribedLaws.{one_array}
use Rattle.h5_layout.proofs.BreachLaws.{no_breach, breach_rule}
use Rattle.h5_layout.proofs.read.read_array.Goals as goal

pub returns-in-Ok-clause-only : goal.returns-in-Ok-clause-only
returns-in-Ok-clause-only c array h =
    let same = one_array c.args.header.now.messages c.in-Ok.array array c.in-Ok.ensures.read h in
    λ i. Ok (same i)

pub returns-in-Err-clause-only : goal.returns-in-Err-clause-only
returns-in-Err-clause-only c array h =
    let none = no_breach c.args.header.now.messages array h in
    let some = c.in-Err.ensures.first in
    absurd (cc)

pub returns-in-Err-clause-refused : goal.returns-in-Err-clause-refused
returns-in-Err-clause-refused c =
    breach_rule c.args.header.now.image c.args.header.now.address c.args.header.now.messages c.requires c.in-Err.cause c.in-Err.ensures.first

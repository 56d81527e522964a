use Rattle.h5_open.proofs.OpenedLaws.Indexed.{number_at_header}
use Rattle.h5_query.proofs.step.number_of.Goals as goal

pub returns-clause-found : goal.returns-clause-found
returns-clause-found c = rw c.unwrap.ensures at c.number_at.ensures.found

pub returns-clause-only : goal.returns-clause-only
returns-clause-only c =
    number_at_header c.args.opened.now c.number_at.ensures.sound c.unwrap.result c.args.header (rw c.unwrap.ensures at c.number_at.ensures.found)

use Rattle.std.proofs.Common.{sym, ◌∙◌}
use Rattle.h5_query.proofs.Parts.{cut_first, only_part}
use Rattle.h5_query.proofs.path.cut.Goals as goal

pub returns-in-Some : goal.returns-in-Some
returns-in-Some c = cut_first c.args.text.now c.in-Some.end (sym c.slash_at.ensures ∙ c.in-Some.is)

pub returns-in-None : goal.returns-in-None
returns-in-None c = only_part c.args.text.now (sym c.slash_at.ensures ∙ c.in-None.is)

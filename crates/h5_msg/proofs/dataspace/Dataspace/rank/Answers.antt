use Rattle.std.proofs.Common.{sym, ◌∙◌}
use Rattle.h5_msg.proofs.ExtentLaws.{length-sizes, length-maxima}
use Rattle.h5_msg.proofs.dataspace.Dataspace.rank.Goals as goal

pub returns-clause-rank : goal.returns-clause-rank
returns-clause-rank c = c.from.ensures ∙ sym (length-sizes c.self.inside.body.now c.args.self.now c.self.view_is)

pub returns-clause-maxima : goal.returns-clause-maxima
returns-clause-maxima c = c.from.ensures ∙ sym (length-maxima c.self.inside.body.now c.args.self.now c.self.view_is)

use Rattle.std.proofs.Common.{arith}
use Rattle.h5_model.specs.Format.Symbols.{link_of}
use Rattle.h5_group.proofs.LinksLeft.{first_link}
use Rattle.h5_group.proofs.list.link_at.Goals as goal

pub returns-in-Some-clause-link : goal.returns-in-Some-clause-link
returns-in-Some-clause-link c =
    rw c.in-Some.is (first_link (link_of c.args.segment.now) c.in-Some.node c.args.i c.link_in.result (omega (arith, c.if-i-len.true, c.len.ensures)) c.link_in.ensures)

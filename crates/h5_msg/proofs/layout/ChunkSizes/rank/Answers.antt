use Rattle.std.proofs.Common.{sym, ap, length, arith}
use Rattle.h5_msg.proofs.LayoutLaws.{length-chunk}
use Rattle.h5_msg.proofs.layout.ChunkSizes.rank.Goals as goal

pub returns-in-Body-clause-rank : goal.returns-in-Body-clause-rank
returns-in-Body-clause-rank c = sym (length-chunk c.in-Body.body.now c.args.self.now c.in-Body.rank (rw c.in-Body.is at c.self.view_is))

pub returns-in-Body-clause-most : goal.returns-in-Body-clause-most
returns-in-Body-clause-most c =
    let long = length-chunk c.in-Body.body.now c.args.self.now c.in-Body.rank (rw c.in-Body.is at c.self.view_is) in
    omega (arith, c.self.invariant.1, ap length c.self.view_is)

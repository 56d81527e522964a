use Rattle.std.proofs.Common.{arith}
use Rattle.h5_query.proofs.ShownMaxima.{next_shown}
use Rattle.h5_query.proofs.links.write_maxima.Goals as goal

pub loop-k-preserved : goal.loop-k-preserved
loop-k-preserved c =
    next_shown c.args.array.now.maxima c.loop-k.shown c.loop-k.k c.maximum.result c.unwrap_or.result c.maximum.ensures c.unwrap_or.ensures (omega (arith, c.loop-k-test.true, c.loop-k.auto.shown)) c.loop-k.invariant

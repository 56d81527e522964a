use Rattle.std.proofs.Common.{length, refl}
use Rattle.h5_text.proofs.Printing.{told_more}
use Rattle.h5_text.proofs.streams.write_text.Goals as goal

pub loop-rest-preserved : goal.loop-rest-preserved
loop-rest-preserved g c =
    told_more (g.W.Write.contents c.args.output.now) (g.W.Write.contents c.loop-rest.output) (g.W.Write.contents c.write.new.self)
    c.args.text.now c.loop-rest.rest.now c.in-Ok.count (length c.loop-rest.rest.now) refl c.loop-rest.invariant c.in-Ok.ensures.bytes

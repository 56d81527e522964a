use Rattle.std.proofs.Common.{arith, map}
use Rattle.h5_heap.specs.Writing.Links.{name_and_leads}
use Rattle.h5_heap.proofs.WriteLaws.Lengths.{used-le, short_length, long_length}
use Rattle.h5_heap.proofs.write.heap.segment_length.Goals as goal

pub returns-in_err-used : goal.returns-in_err-used
returns-in_err-used c =
    let least = used-le (map name_and_leads c.args.links.now) in
    rw c.from_residual.ensures (omega (arith, c.in_err-used.ensures))

pub returns-then-used-le72 : goal.returns-then-used-le72
returns-then-used-le72 c = (short_length (map name_and_leads c.args.links.now) c.in_ok-used.used c.in_ok-used.ensures.0 c.if-used-le72.true, omega arith)

pub returns-else-used-le72 : goal.returns-else-used-le72
returns-else-used-le72 c = (long_length (map name_and_leads c.args.links.now) c.in_ok-used.used c.in_ok-used.ensures.0 c.if-used-le72.false, c.in_ok-used.ensures.1)

use Rattle.std.proofs.Common.{refl, arith, sym}
use Rattle.h5_msg.proofs.LayoutLaws.{length-chunk}
use Rattle.h5_msg.proofs.layout.read_chunked.Goals as goal

pub invariant_of-result : goal.invariant_of-result
invariant_of-result c =
    let long = length-chunk c.args.body.now _ c.args.rank refl in
    (omega arith, omega arith, sym c.if-has_zero.ensures)

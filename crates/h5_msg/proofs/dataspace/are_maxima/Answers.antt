use Rattle.std.proofs.Common.{◌≡◌, false, sym, arith}
use Rattle.h5_model.specs.Format.Extent.{maximum_fits}
use Rattle.h5_model.proofs.TestLaws.{each_below_not}
use Rattle.h5_msg.proofs.dataspace.are_maxima.Goals as goal

pub returns-then-not-is_maximum : goal.returns-then-not-is_maximum
returns-then-not-is_maximum c =
    let no : maximum_fits c.args.body.now c.loop-k.k ≡ false = cc in
    sym (each_below_not c.args.rank (maximum_fits c.args.body.now) c.loop-k.k (omega arith) no)

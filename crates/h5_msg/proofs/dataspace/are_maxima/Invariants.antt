use Rattle.std.proofs.Common.{◌≡◌, true}
use Rattle.h5_model.specs.Scripts.Tests.{each_below}
use Rattle.h5_model.specs.Format.Extent.{maximum_fits}
use Rattle.h5_msg.proofs.dataspace.are_maxima.Given as goal

-- no maximum so far is below its size
abbrev pub invariant-loop-k : goal.invariant-loop-k
invariant-loop-k l = each_below l.k (maximum_fits l.body) ≡ true

use Rattle.std.proofs.Common.{◌≡◌, take}
use Rattle.h5_msg.proofs.dataspace.Dataspace.dims.Given as goal

-- the sizes so far
abbrev pub invariant-loop-k : goal.invariant-loop-k
invariant-loop-k l = l.dims ≡ take l.k l.self.sizes

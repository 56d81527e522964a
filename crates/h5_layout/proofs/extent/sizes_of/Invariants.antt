use Rattle.std.proofs.Common.{◌≡◌, length, take}
use Rattle.h5_layout.proofs.extent.sizes_of.Given as goal

-- the sizes so far
abbrev pub invariant-loop-k : goal.invariant-loop-k
invariant-loop-k l = (length l.room ≡ 32) × (take l.k l.room ≡ take l.k l.extent.sizes)

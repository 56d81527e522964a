use Rattle.std.proofs.Common.{◌≡◌, ◌++◌, take, drop}
use Rattle.h5_repack.proofs.blocks.space.read_maxima.Given as goal

-- the maxima so far, and those that are left
abbrev pub invariant-loop-k : goal.invariant-loop-k
invariant-loop-k l = take l.k l.maxima ++ drop l.k (l.array).maxima ≡ (l.array).maxima

use Rattle.std.proofs.Common.{◌≡◌, ◌++◌, take, drop}
use Rattle.h5_repack.proofs.blocks.layout.read_chunk.Given as goal

-- the sizes so far, and those that are left
abbrev pub invariant-loop-k : goal.invariant-loop-k
invariant-loop-k l = take l.k l.chunk ++ drop l.k l.sizes ≡ l.sizes

use Rattle.std.proofs.Common.{◌≡◌, length, take}
use Rattle.h5_layout.proofs.grid.copy_short_sizes.Given as goal

-- the sizes so far
abbrev pub invariant-loop-k : goal.invariant-loop-k
invariant-loop-k l = record {
  room : length l.to ≡ length l.from;
  copied : take l.k l.to ≡ take l.k l.from;
}

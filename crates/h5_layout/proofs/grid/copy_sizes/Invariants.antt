use Rattle.std.proofs.Common.{◌≡◌, ℕ, ◌<◌, ◌≤◌, ◌^◌, length, take, slice_index_or}
use Rattle.std.specs.List.{AllByRecursion}
use Rattle.h5_layout.proofs.grid.copy_sizes.Given as goal

-- the sizes so far
abbrev pub invariant-loop-k : goal.invariant-loop-k
invariant-loop-k l = record {
  room : length l.to ≡ length l.from;
  copied : take l.k l.to ≡ take l.k l.from;
  short : AllByRecursion (λ (size : ℕ). size < 2 ^ 32) (take l.k l.from);
  some : (d : ℕ) → d < l.k → 1 ≤ slice_index_or l.from d 0;
}

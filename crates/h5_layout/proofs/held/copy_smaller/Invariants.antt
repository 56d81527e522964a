use Rattle.std.proofs.Common.{◌≡◌, take}
use Rattle.h5_layout.specs.Kept.{smaller_sizes}
use Rattle.h5_layout.proofs.held.copy_smaller.Given as goal

abbrev pub invariant-loop-d : goal.invariant-loop-d
invariant-loop-d l = take l.d l.to ≡ take l.d (smaller_sizes l.old l.new)

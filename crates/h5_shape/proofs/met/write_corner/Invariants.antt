use Rattle.std.proofs.Common.{◌≡◌, take}
use Rattle.h5_shape.specs.PartCells.{part_corner}
use Rattle.h5_shape.proofs.met.write_corner.Given as goal

abbrev pub invariant-loop-k : goal.invariant-loop-k
invariant-loop-k l = take l.k l.corner ≡ take l.k (part_corner l.part)

use Rattle.std.proofs.Common.{◌≡◌, map, take}
use Rattle.h5_c.specs.Given.{maximum_of}
use Rattle.h5_c.proofs.given.maxima_of.Given as goal

-- those so far
abbrev pub invariant-loop-maximum : goal.invariant-loop-maximum
invariant-loop-maximum l = l.list.items ≡ map maximum_of (take l.maximum-index l.maxima)

use Rattle.std.proofs.Common.{◌≡◌, map, take}
use Rattle.h5_model.specs.Scripts.Reading.{shown_maximum}
use Rattle.h5_query.proofs.links.write_maxima.Given as goal

-- the maxima so far
abbrev pub invariant-loop-k : goal.invariant-loop-k
invariant-loop-k l = take l.k l.shown ≡ map shown_maximum (take l.k l.array.maxima)

use Rattle.std.proofs.Common.{◌≡◌, Some, map, take}
use Rattle.h5_model.proofs.dataset.own_maxima.Given as goal

abbrev pub invariant-loop-size : goal.invariant-loop-size
invariant-loop-size l = l.maxima.items ≡ map Some (take l.size-index l.dims)

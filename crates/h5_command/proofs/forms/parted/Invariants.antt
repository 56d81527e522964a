use Rattle.std.proofs.Common.{◌≡◌, map, take}
use Rattle.h5_command.proofs.forms.parted.Given as goal

abbrev pub invariant-loop-size : goal.invariant-loop-size
invariant-loop-size l = record {
  sizes : l.sizes.items ≡ map (λ d. d.0) (take l.size-index l.pairs);
  maxima : l.maxima.items ≡ map (λ d. d.1) (take l.size-index l.pairs);
}

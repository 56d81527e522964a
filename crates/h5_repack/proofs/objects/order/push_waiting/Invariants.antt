use Rattle.std.proofs.Common.{◌≡◌, ◌++◌, map}
use Rattle.h5_repack.specs.Objects.Targets.{targets}
use Rattle.h5_repack.proofs.objects.order.push_waiting.Given as goal

-- the objects of the links so far
abbrev pub invariant-loop-link : goal.invariant-loop-link
invariant-loop-link l = l.stack.items ≡ l.fn.stack.items ++ targets (map (λ k. k.now) l.yielded)

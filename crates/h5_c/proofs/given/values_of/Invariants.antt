use Rattle.std.proofs.Common.{◌≡◌, ◌*◌, map}
use Rattle.std.specs.List.{range_with_len}
use Rattle.h5_model.specs.Format.Fixed.{value_at}
use Rattle.h5_c.proofs.given.values_of.Given as goal

-- those so far
abbrev pub invariant-loop-k : goal.invariant-loop-k
invariant-loop-k l = l.values.items ≡ map (λ k. value_at l.fn.fixed l.bytes (k * l.fn.fixed.size)) (range_with_len 0 l.k)

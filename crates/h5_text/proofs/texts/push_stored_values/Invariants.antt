use Rattle.std.proofs.Common.{◌≡◌, ◌*◌, ◌++◌, map}
use Rattle.std.specs.List.{range_with_len}
use Rattle.h5_model.specs.Format.Fixed.{value_at}
use Rattle.h5_model.specs.Scripts.Text.{values_text}
use Rattle.h5_text.proofs.texts.push_stored_values.Given as goal

abbrev pub invariant-loop-k : goal.invariant-loop-k
invariant-loop-k l = l.out.items ≡ l.fn.out.items ++ values_text (map (λ k. value_at l.fixed l.bytes (k * l.fixed.size)) (range_with_len 0 l.k))

use Rattle.std.proofs.Common.{◌≡◌, ◌++◌, take}
use Rattle.h5_model.specs.Scripts.Text.{values_text}
use Rattle.h5_text.proofs.texts.push_values.Given as goal

abbrev pub invariant-loop-value : goal.invariant-loop-value
invariant-loop-value l = l.out.items ≡ l.fn.out.items ++ values_text (take l.value-index l.values)

use Rattle.std.proofs.Common.{◌≡◌, ◌++◌, take}
use Rattle.h5_model.specs.Scripts.Text.{values_text}
use Rattle.h5_text.specs.Listing.{attribute_line_head}
use Rattle.h5_dump.proofs.dump.push_attribute.Given as goal

abbrev pub invariant-loop-k : goal.invariant-loop-k
invariant-loop-k l = l.text.items ≡ l.fn.text.items ++ attribute_line_head l.attribute.0 l.attribute.1.fixed l.attribute.1.sizes ++ values_text (take l.k l.attribute.1.values)

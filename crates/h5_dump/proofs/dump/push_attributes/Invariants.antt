use Rattle.std.proofs.Common.{◌≡◌, ◌++◌, take}
use Rattle.std.specs.List.{flat_map}
use Rattle.h5_model.specs.Scripts.Text.{attribute_line}
use Rattle.h5_dump.proofs.dump.push_attributes.Given as goal

abbrev pub invariant-loop-attribute : goal.invariant-loop-attribute
invariant-loop-attribute l = l.text.items ≡ l.fn.text.items ++ flat_map attribute_line (take l.attribute-index l.attributes)

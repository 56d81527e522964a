use Rattle.std.proofs.Common.{take}
use Rattle.std.specs.List.{flat_map}
use Rattle.h5_model.specs.Scripts.Text.{attribute_line}
use Rattle.h5_text.proofs.Appending.{appends_err}
use Rattle.h5_dump.proofs.dump.push_attributes.Goals as goal

pub returns-in_err-push_attribute : goal.returns-in_err-push_attribute
returns-in_err-push_attribute c =
    appends_err c.from_residual.result c.args.text.now.items (flat_map attribute_line (take c.loop-attribute.attribute-index c.args.attributes.now)) c.loop-attribute.text.items
    c.push_attribute.new.text.items (flat_map attribute_line c.args.attributes.now) c.from_residual.ensures.0 c.loop-attribute.invariant c.in_err-push_attribute.ensures

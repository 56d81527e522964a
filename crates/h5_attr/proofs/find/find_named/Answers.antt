use Rattle.std.proofs.Common.{◌≡◌, Some, None, sym, ◌∙◌, arith}
use Rattle.std.specs.List.{position_from}
use Rattle.std.proofs.lemmas.Grind.{common_steps}
use Rattle.std.proofs.lemmas.Iterator.Adapters.{position_from-zero}
use Rattle.h5_attr.specs.Attributes.{is_attribute_named}
use Rattle.h5_attr.proofs.find.find_named.Goals as goal

pub returns-then-is_named : goal.returns-then-is_named
returns-then-is_named c =
    let ms = c.args.header.now.messages in
    let found : Some c.loop-message.k ≡ position_from (is_attribute_named c.args.name.now) 0 ms = grind (arith, common_steps) in
    found ∙ sym (position_from-zero (is_attribute_named c.args.name.now) ms)

pub returns : goal.returns
returns c =
    let ms = c.args.header.now.messages in
    let found : None ≡ position_from (is_attribute_named c.args.name.now) 0 ms = grind (arith, common_steps) in
    found ∙ sym (position_from-zero (is_attribute_named c.args.name.now) ms)

use Rattle.std.proofs.Common.{refl}
use Rattle.h5_edit.proofs.AttributeFacts.{attribute_removed, attribute_there, remove_given, short_image}
use Rattle.h5_edit.proofs.attributes.remove_attr.Goals as goal

pub remove_attribute-requires : goal.remove_attribute-requires
remove_attribute-requires c = record {
  there = attribute_there c.args.opened.now c.in_ok-number.ensures.sound c.args.path.now c.args.name.now c.in_ok-number.number c.in_ok-number.ensures.at;
}

pub returns : goal.returns
returns c =
    let f = c.args.opened.now in
    let path = c.args.path.now in
    let name = c.args.name.now in
    attribute_removed f path c.in_ok-number.number c.remove_attribute.new.self _ refl refl name c.in_ok-number.ensures.at
    (remove_given f path name (short_image f c.in_ok-number.ensures.sound)) c.remove_attribute.ensures.changed

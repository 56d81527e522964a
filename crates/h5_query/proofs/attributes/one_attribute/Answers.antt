use Rattle.h5_header.specs.Listed.{messages_in}
use Rattle.h5_open.specs.Attributes.{attributes_of}
use Rattle.h5_query.proofs.Calls.{has_attribute}
use Rattle.h5_query.proofs.attributes.one_attribute.Goals as goal

pub returns-in-Some : goal.returns-in-Some
returns-in-Some c =
    let image = c.args.opened.now.image in
    let m = c.in_ok-header_at.ensures.0 in
    let there = c.in_ok-header_at.ensures.1 in
    let ms = messages_in image m.list in
    has_attribute image _ c.args.path.now m there c.args.name.now c.in-Some.attribute
    ((rw c.in_ok-header_at.ensures.2 at c.in-Some.ensures.entry) (attributes_of ms) there.kept.attributes)

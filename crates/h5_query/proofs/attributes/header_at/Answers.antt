use Rattle.h5_query.proofs.Calls.{header_there}
use Rattle.h5_query.proofs.attributes.header_at.Goals as goal

pub returns-in-Object : goal.returns-in-Object
returns-in-Object c =
    let place = rw c.in-Object.is at c.in_ok-object.ensures in
    (c.in-Object.object.now.messages, header_there c.args.opened.now c.in-Object.number c.in-Object.object.now place.1 c.args.path.now place.0, rw c.image.ensures.bytes at c.new.ensures)

use Rattle.h5_group.proofs.EditTold.{some_told}
use Rattle.h5_group.proofs.edit.put.reserve_link.Goals as goal

pub link_room-requires-clause-group : goal.link_room-requires-clause-group
link_room-requires-clause-group c = some_told c.args.image.now c.args.table c.requires.group c.requires.short

use Rattle.h5_query.proofs.Indexed.{object_found}
use Rattle.h5_query.proofs.array.array_header.Goals as goal

pub unwrap-object-requires : goal.unwrap-object-requires
unwrap-object-requires c =
    object_found c.args.opened.now c.object.ensures.sound c.args.number c.requires.0 c.requires.1 c.object.result c.object.ensures.found

use Rattle.h5_open.specs.Told.{array_told}
use Rattle.h5_query.proofs.array.stored_array.Goals as goal

pub known_array-requires-clause-array : goal.known_array-requires-clause-array
known_array-requires-clause-array c = (array_told c.args.header.now.messages, c.requires.list.array)

pub new-requires : goal.new-requires
new-requires c = rw (c.image.ensures, c.known_array.ensures) c.requires.stored

pub returns : goal.returns
returns c = rw (c.image.ensures, c.known_array.ensures) at c.new.ensures

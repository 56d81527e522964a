use Rattle.h5_layout.specs.ArrayEdits.{described_in}
use Rattle.h5_layout.proofs.copied.copied_cells.Goals as goal

pub known_array-array-requires-clause-array : goal.known_array-array-requires-clause-array
known_array-array-requires-clause-array c = rw c.new.ensures (described_in c.args.image.now.bytes c.args.messages.now, c.requires.array.array)

use Rattle.h5_model.specs.Tree.Places.{index_of}
use Rattle.h5_layout.proofs.grid.GridRef.find_row.Goals as goal

pub place_row-requires-clause-number : goal.place_row-requires-clause-number
place_row-requires-clause-number c = (index_of c.args.self.now.sizes c.args.cursor.now.beside.first.place, c.requires.found.number)

use Rattle.std.proofs.Common.{arith}
use Rattle.h5_layout.proofs.FoundRows.{left_low, left_row}
use Rattle.h5_layout.proofs.index.FoundRow.cells_from.Goals as goal

pub overflow_add-result : goal.overflow_add-result
overflow_add-result c =
    let there = c.requires.row in
    omega (arith, left_low there.0 c.args.self.now there.2 c.args.place c.requires.since c.requires.until there.1)

pub returns : goal.returns
returns c g grid is = left_row g c.args.self.now is c.args.place c.requires.since c.requires.until grid

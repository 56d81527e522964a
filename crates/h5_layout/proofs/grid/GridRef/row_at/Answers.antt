use Rattle.h5_layout.specs.GridKept.{IsChunkRow}
use Rattle.h5_layout.proofs.FoundRows.{row_found}
use Rattle.h5_layout.proofs.grid.GridRef.row_at.Goals as goal
use Rattle.h5_layout.proofs.grid.GridRef.row_at.Goals.{After-cells_from}

-- the cells from the place on of the row that was sought
there : (c : After-cells_from) → IsChunkRow c.args.self.now c.args.place c.cells_from.result
there c =
    c.cells_from.ensures c.args.self.now c.requires.found.grid
    (row_found c.args.self.now c.seek.new.cursor c.seek.new.row c.args.place c.seek.ensures.found c.seek.ensures.since c.seek.ensures.until)

pub returns-clause-some : goal.returns-clause-some
returns-clause-some c = (there (goal.at.returns-clause-some c).After-cells_from).some

pub returns-clause-beside : goal.returns-clause-beside
returns-clause-beside c = (there (goal.at.returns-clause-beside c).After-cells_from).beside

pub returns-clause-place : goal.returns-clause-place
returns-clause-place c = (there (goal.at.returns-clause-place c).After-cells_from).inner

pub returns-clause-room : goal.returns-clause-room
returns-clause-room c = (there (goal.at.returns-clause-room c).After-cells_from).room

pub returns-clause-at : goal.returns-clause-at
returns-clause-at c = (there (goal.at.returns-clause-at c).After-cells_from).at

pub returns-clause-inside : goal.returns-clause-inside
returns-clause-inside c = (there (goal.at.returns-clause-inside c).After-cells_from).inside

use Rattle.std.proofs.Common.{ap, subst, sym}
use Rattle.h5_layout.specs.GridKept.{GridKept, IsChunkRow, IsRowOf, grid_in}
use Rattle.h5_layout.proofs.FoundRows.{row_found}
use Rattle.h5_layout.proofs.index.ChunkIndex.row_at.Goals as goal
use Rattle.h5_layout.proofs.index.ChunkIndex.row_at.Goals.{After-cells_from}

-- the cells from the place on of the row that was sought
there : (c : After-cells_from) → IsChunkRow (grid_in c.args.image.now.bytes c.args.self.now) c.args.place c.cells_from.result
there c =
    let image = c.args.image.now.bytes in
    let new : GridKept = c.seek.new.self in
    let g = grid_in image new in
    let kept = c.seek.ensures.kept in
    let row : IsRowOf g c.self.inside.row =
    subst (IsRowOf g) (sym (ap (λ (k : GridKept). k.row) c.self.view_is)) (row_found g new.cursor new.row c.args.place kept c.seek.ensures.since c.seek.ensures.until) in
    subst (λ (k : GridKept). IsChunkRow (grid_in image k) c.args.place c.cells_from.result) c.seek.ensures.same (c.cells_from.ensures g kept.grid row)

pub returns-clause-some : goal.returns-clause-some
returns-clause-some c = (there (goal.at.returns-clause-some c).After-cells_from).some

pub returns-clause-beside : goal.returns-clause-beside
returns-clause-beside c = (there (goal.at.returns-clause-beside c).After-cells_from).beside

pub returns-clause-place : goal.returns-clause-place
returns-clause-place c = (there (goal.at.returns-clause-place c).After-cells_from).inner

pub returns-clause-room : goal.returns-clause-room
returns-clause-room c = (there (goal.at.returns-clause-room c).After-cells_from).room

pub returns-clause-at : goal.returns-clause-at
returns-clause-at c = (there (goal.at.returns-clause-at c).After-cells_from).at

pub returns-clause-inside : goal.returns-clause-inside
returns-clause-inside c = (there (goal.at.returns-clause-inside c).After-cells_from).inside

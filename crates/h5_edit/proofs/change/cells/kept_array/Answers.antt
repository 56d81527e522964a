use Rattle.h5_edit.proofs.ChangedLaws.CellLaws.{kept_array, kept_chunks}
use Rattle.h5_edit.proofs.change.cells.kept_array.Goals as goal

pub returns-clause-array : goal.returns-clause-array
returns-clause-array c =
    let image = c.args.header.now.image in
    kept_array image c.args.header.now.messages c.requires.list c.requires.stored c.known_array-array.result c.known_array-array.ensures
    c.in_ok-cells.cells (rw c.image.ensures at c.in_ok-cells.ensures)

pub returns-clause-chunks : goal.returns-clause-chunks
returns-clause-chunks c =
    let image = c.args.header.now.image in
    kept_chunks image c.args.header.now.messages c.requires.list c.requires.stored c.known_array-array.result c.known_array-array.ensures
    c.in_ok-cells.cells (rw c.image.ensures at c.in_ok-cells.ensures)

use Rattle.std.proofs.Common.{sym, subst}
use Rattle.h5_chunks.specs.Told.{chunks_told}
use Rattle.h5_model.specs.Tree.Places.{index_of}
use Rattle.h5_layout.specs.FoundChunks.{IsNumberBeside}
use Rattle.h5_layout.proofs.grid.GridRef.address_beside.Goals as goal
use Rattle.h5_layout.proofs.grid.GridRef.address_beside.Goals.{in-Some, in-None}

pub returns-clause-beside : goal.returns-clause-beside
returns-clause-beside c =
    let now = c.args.self.now in
    let first = index_of now.sizes c.args.cursor.now.beside.first.place in
    let corner = index_of now.sizes c.args.corner.place in
    let known : IsNumberBeside now.shape.sizes first corner c.match-number.behind = elim c.match-number.branch [
      | in-Some w ↦ subst (IsNumberBeside now.shape.sizes first corner) (sym w.behind-is) (subst (IsNumberBeside now.shape.sizes first corner) w.in-Some.is c.requires.number)
      | in-None w ↦ subst (IsNumberBeside now.shape.sizes first corner) (sym w.behind-is) w.number_of-behind.ensures.number
    ] in
    c.put.ensures.beside (chunks_told now.image now.shape now.root) now.sizes now.shape.sizes c.requires.corner c.requires.beside known (sym c.in_ok-at.ensures.exact)

use Rattle.std.proofs.Common.{◌≡◌, ap, sym, subst, ◌∙◌}
use Rattle.std.specs.FinMap.{get}
use Rattle.h5_model.specs.Tree.Places.{index_of}
use Rattle.h5_layout.specs.FoundChunks.{AreChunksBeside, IsNumberBeside, corner_beside}
use Rattle.h5_layout.specs.declared.beside.FoundChunks.{FoundChunks}
use Rattle.h5_layout.proofs.FoundBeside.{beside_itself, more_beside, one_beside}
use Rattle.h5_layout.proofs.beside.FoundChunks.put.Goals as goal

pub returns-in_default-number-clause-number : goal.returns-in_default-number-clause-number
returns-in_default-number-clause-number c = λ sizes chunk is.
    subst (λ (f : FoundChunks). index_of sizes c.args.corner.place ≡ corner_beside chunk (index_of sizes f.first.place) 0) (sym c.begin.ensures)
    (sym (beside_itself chunk (index_of sizes c.args.corner.place)))

pub returns-in_default-number-clause-beside : goal.returns-in_default-number-clause-beside
returns-in_default-number-clause-beside c = λ chunks sizes chunk corner are is found.
    subst (AreChunksBeside chunks sizes chunk) (sym c.begin.ensures) (one_beside chunks sizes chunk c.args.corner c.in-Some.kept c.args.at corner c.in-Some.ensures found)

pub returns-then-behind-clause-beside : goal.returns-then-behind-clause-beside
returns-then-behind-clause-beside c = λ chunks sizes chunk corner are is found.
    let here : index_of sizes c.args.corner.place ≡ corner_beside chunk (index_of sizes c.args.self.now.first.place) c.in-Some-number.behind
    = subst (IsNumberBeside chunk (index_of sizes c.args.self.now.first.place) (index_of sizes c.args.corner.place)) c.in-Some-number.is is in
    more_beside chunks sizes chunk c.args.self.now c.in-Some-number.behind c.in-Some.kept c.args.at are c.in-Some.ensures (ap (get chunks) (sym here) ∙ found)

pub returns-clause-number : goal.returns-clause-number
returns-clause-number c = λ sizes chunk is.
    subst (λ (f : FoundChunks). index_of sizes c.args.corner.place ≡ corner_beside chunk (index_of sizes f.first.place) 0) (sym c.begin-2.ensures)
    (sym (beside_itself chunk (index_of sizes c.args.corner.place)))

pub returns-clause-beside : goal.returns-clause-beside
returns-clause-beside c = λ chunks sizes chunk corner are is found.
    subst (AreChunksBeside chunks sizes chunk) (sym c.begin-2.ensures) (one_beside chunks sizes chunk c.args.corner c.in-Some.kept c.args.at corner c.in-Some.ensures found)

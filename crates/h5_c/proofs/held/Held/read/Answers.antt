use Rattle.std.proofs.Common.{subst}
use Rattle.h5_file.specs.DatasetAt.{IsDatasetAt}
use Rattle.h5_file.specs.Opened.State.{FileState}
use Rattle.h5_c.proofs.ReadLaws.{read_there}
use Rattle.h5_c.proofs.held.Held.read.Goals as goal

pub returns-in-Ok : goal.returns-in-Ok
returns-in-Ok c =
    let there = subst (λ (f : FileState). IsDatasetAt f.tree c.args.path.now c.in-Ok.array) c.file.ensures.file c.in-Ok.ensures in
    read_there c.args.self.now.session.file.tree c.args.path.now c.args.hyper.now c.args.room.now c.read_selected.new.room c.read_selected.result c.in-Ok.array there c.read_selected.ensures

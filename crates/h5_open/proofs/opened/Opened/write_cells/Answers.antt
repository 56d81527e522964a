use Rattle.std.proofs.Common.{subst}
use Rattle.h5_open.specs.Opened.State.{FileState, opened_state}
use Rattle.h5_open.specs.Written.{AreWrittenAt}
use Rattle.h5_shape.specs.Runs.{places_in}
use Rattle.h5_open.proofs.opened.Opened.write_cells.Goals as goal

pub returns-clause-local : goal.returns-clause-local
returns-clause-local c =
    let now = opened_state c.write_runs.new.image c.self.inside.index.objects.items in
    (subst (λ (f : FileState). AreWrittenAt f c.args.number (places_in c.args.runs) c.args.values.now now) c.self.view_is c.write_runs.ensures.written).local

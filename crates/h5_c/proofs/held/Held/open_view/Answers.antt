use Rattle.std.proofs.Common.{refl}
use Rattle.h5_c.proofs.OpenedViews.{view_there, view_unopened}
use Rattle.h5_c.proofs.held.Held.open_view.Goals as goal

pub returns-in-Ok : goal.returns-in-Ok
returns-in-Ok c = view_there c.args.self.now c.args.path.now c.args.hyper.now _ refl c.in-Ok.view.0 c.args.number.now c.in-Ok.ensures

pub returns-in-Err : goal.returns-in-Err
returns-in-Err c =
    view_unopened c.args.self.now c.args.path.now c.args.hyper.now _ refl c.in-Err.fault c.args.number.now c.view_status.result
    c.in-Err.ensures.1 c.in-Err.ensures.0 c.view_status.ensures

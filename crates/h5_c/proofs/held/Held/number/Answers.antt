use Rattle.h5_c.proofs.ListedNames.{number_told, number_refused}
use Rattle.h5_c.proofs.held.Held.number.Goals as goal

pub returns-in-Ok : goal.returns-in-Ok
returns-in-Ok c = number_told c.file.result.now _ c.file.ensures.file c.args.path.now c.in-Ok.found.0 c.args.number.now c.in-Ok.ensures

pub returns-in-Err : goal.returns-in-Err
returns-in-Err c = number_refused c.file.result.now _ c.file.ensures.file c.args.path.now c.in-Err.fault c.args.number.now c.number-in-Err.result c.in-Err.ensures c.number-in-Err.ensures

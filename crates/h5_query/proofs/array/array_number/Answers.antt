use Rattle.h5_query.proofs.Calls.{array_numbered}
use Rattle.h5_query.proofs.array.array_number.Goals as goal

pub returns-in-Array : goal.returns-in-Array
returns-in-Array c =
    let place = rw c.in-Object.is at c.in_ok-number.ensures in
    array_numbered c.args.opened.now c.in-Object.number c.in-Object.object.now place.1 c.args.path.now place.0 c.in-Array.is

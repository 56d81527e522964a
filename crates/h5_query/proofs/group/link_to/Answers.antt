use Rattle.std.proofs.Common.{sym, ap}
use Rattle.h5_model.specs.Tree.Objects.{ToObject}
use Rattle.h5_query.proofs.group.link_to.Goals as goal

pub returns-in-Object : goal.returns-in-Object
returns-in-Object c = rw c.in-Object.is (ap ToObject (sym c.number_of.ensures.only))

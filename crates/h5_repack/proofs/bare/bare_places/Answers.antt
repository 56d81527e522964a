use Rattle.std.proofs.Common.{refl, arith}
use Rattle.h5_repack.proofs.BareGroup.{bare_places_are}
use Rattle.h5_repack.proofs.bare.bare_places.Goals as goal

pub returns-clause-places : goal.returns-clause-places
returns-clause-places c leaf k = bare_places_are leaf c.args.internal k _ (omega arith) refl (omega arith)

use Rattle.std.proofs.Common.{subst}
use Rattle.h5_space.proofs.AddressLaws.{all_at}
use Rattle.h5_btree.proofs.WaySteps.{IsStep, way_there}
use Rattle.h5_btree.proofs.WideningLaws.{rewritten_none}
use Rattle.h5_btree.proofs.widening.widen_end.Goals as goal

pub returns-else-gives_way-clause-key : goal.returns-else-gives_way-clause-key
returns-else-gives_way-clause-key c = λ step is.
    let e = c.requires.ends in
    let all = way_there c.args.image.now c.args.kind e.0 e.1 c.args.way.now e.2 e.3 e.4 e.5 in
    let here : IsStep c.args.image.now c.args.kind step
    = subst (IsStep c.args.image.now c.args.kind) is (all_at (IsStep c.args.image.now c.args.kind) c.args.way.now c.args.level step all c.requires.level) in
    rw c.if-gives_way.false (rewritten_none c.args.image.now c.args.kind step.node here.1)

use Rattle.std.proofs.Common.{ℕ, length, sym, ap, subst, arith, List}
use Rattle.std.specs.List.{remove}
use Rattle.h5_space.specs.Space.{Space}
use Rattle.h5_btree.specs.Removal.{EndsInTree, EndsSomewhere, IsTakenAlong}
use Rattle.h5_btree.proofs.WaySteps.{ends_roomy}
use Rattle.h5_btree.proofs.RemovalEnds.{taken_roomy}
use Rattle.h5_btree.proofs.removal.remove_at.Goals as goal
use Rattle.h5_btree.proofs.removal.remove_at.Goals.{After-take_from}

pub take_from-requires-clause-ends : goal.take_from-requires-clause-ends
take_from-requires-clause-ends c =
    let e = c.requires.ends in
    subst (λ (s : Space). EndsSomewhere s c.args.kind c.args.way.now) (sym c.in_ok-reserve.ensures.ok)
    (e.0, e.1, e.2, e.3, e.4, ends_roomy c.args.image.now _ _ c.args.kind e.0 e.1 c.args.way.now e.2 e.3 e.4 e.5)

taken : (c : After-take_from) (root level k : ℕ) (owned list : List ℕ) → EndsInTree c.args.image.now c.args.kind root level c.args.way.now owned list k
    → IsTakenAlong c.args.image.now c.take_from.new.image c.args.kind root c.args.way.now (remove list k) owned
taken c root level k owned list e =
    taken_roomy c.args.image.now c.take_from.new.image _ _ c.args.kind root c.args.way.now (remove list k) owned
    (subst (λ (s : Space). IsTakenAlong s c.take_from.new.image c.args.kind root c.args.way.now (remove list k) owned) c.in_ok-reserve.ensures.ok
    (c.take_from.ensures.taken root level k owned list
    (subst (λ (s : Space). EndsInTree s c.args.kind root level c.args.way.now owned list k) (sym c.in_ok-reserve.ensures.ok)
    (ends_roomy c.args.image.now _ _ c.args.kind root level c.args.way.now owned list k e))))

pub returns-clause-taken : goal.returns-clause-taken
returns-clause-taken c = taken (goal.at.returns-clause-taken c).After-take_from

pub returns-clause-long : goal.returns-clause-long
returns-clause-long c =
    let e = c.requires.ends in
    let t = taken (goal.at.returns-clause-long c).After-take_from e.0 e.1 e.4 e.2 e.3 e.5 in
    let low = ((t.7).moves).grown in
    let high = c.take_from.ensures.spends.grown in
    let same = ap (λ (s : Space). length s.bytes) c.in_ok-reserve.ensures.ok in
    omega (arith, low, high, same)

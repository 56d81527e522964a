use Rattle.std.proofs.Common.{◌+◌, sym, subst}
use Rattle.std.specs.Prelude.{if◌then◌else◌}
use Rattle.std.specs.List.{insert}
use Rattle.h5_space.specs.Space.{Space}
use Rattle.h5_btree.specs.Insertion.{IsPutAlong, KeepsEntries}
use Rattle.h5_btree.specs.Removal.{EndsInTree, EndsSomewhere}
use Rattle.h5_btree.proofs.WaySteps.{ends_roomy}
use Rattle.h5_btree.proofs.InsertionEnds.{IsPut, put_roomy}
use Rattle.h5_btree.proofs.insertion.insert_at.Goals as goal

pub put_at-requires-clause-ends : goal.put_at-requires-clause-ends
put_at-requires-clause-ends c =
    let e = c.requires.ends in
    subst (λ (s : Space). EndsSomewhere s c.args.kind c.args.way.now) (sym c.in_default.ensures.ok)
    (e.0, e.1, e.2, e.3, e.4, ends_roomy c.args.image.now _ _ c.args.kind e.0 e.1 c.args.way.now e.2 e.3 e.4 e.5)

pub returns-clause-put : goal.returns-clause-put
returns-clause-put c = λ root level k owned list e.
    put_roomy c.args.image.now c.put_at.new.image _ _ c.args.kind root (insert list (if c.args.behind then k + 1 else k) c.args.child) owned
    (subst (λ (s : Space). IsPut s c.put_at.new.image c.args.kind root (insert list (if c.args.behind then k + 1 else k) c.args.child) owned) c.in_default.ensures.ok
    (c.put_at.ensures.put root level k owned list
    (subst (λ (s : Space). EndsInTree s c.args.kind root level c.args.way.now owned list k) (sym c.in_default.ensures.ok)
    (ends_roomy c.args.image.now _ _ c.args.kind root level c.args.way.now owned list k e))))

pub returns-clause-along : goal.returns-clause-along
returns-clause-along c = λ step above is.
    subst (λ (s : Space). IsPutAlong s.bytes c.put_at.new.image.bytes c.args.kind step.node above (if c.args.behind then step.place + 1 else step.place) c.args.keys.now c.args.child)
    c.in_default.ensures.ok (c.put_at.ensures.along step above is)

pub returns-clause-others : goal.returns-clause-others
returns-clause-others c = λ root level k owned list e n listed apart.
    subst (λ (s : Space). KeepsEntries s.bytes c.put_at.new.image.bytes c.args.kind n) c.in_default.ensures.ok
    (c.put_at.ensures.others root level k owned list
    (subst (λ (s : Space). EndsInTree s c.args.kind root level c.args.way.now owned list k) (sym c.in_default.ensures.ok)
    (ends_roomy c.args.image.now _ _ c.args.kind root level c.args.way.now owned list k e)) n listed apart)

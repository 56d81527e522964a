use Rattle.std.proofs.Common.{refl}
use Rattle.h5_query.specs.Place.{link_at}
use Rattle.h5_edit.proofs.RuleLaws.Exits.{passed_on}
use Rattle.h5_edit.proofs.RuleLaws.Removals.{missing_refused, removed, root_kept, spot_refused}
use Rattle.h5_edit.proofs.rules.unlink.check_unlink.Goals as goal

pub returns-in_err-look_up : goal.returns-in_err-look_up
returns-in_err-look_up c =
    passed_on _ _ c.from_residual.result _ c.from_residual.ensures.1
    (spot_refused c.args.opened.now.tree c.args.opened.now.next c.args.path.now _ c.in_err-look_up.ensures)

pub returns-in-Root : goal.returns-in-Root
returns-in-Root c =
    let spot = rw c.in-Root.is at c.in_ok-look_up.ensures in
    root_kept c.args.opened.now.tree c.args.opened.now.next c.args.path.now spot.0 spot.1

pub returns-in-Free : goal.returns-in-Free
returns-in-Free c =
    let spot = rw c.in-Free.is at c.in_ok-look_up.ensures in
    missing_refused c.args.opened.now.tree c.args.opened.now.next c.args.path.now spot.0 c.in-Free.parent c.in-Free.name.now spot.1.0 spot.1.1

pub returns-in-Taken : goal.returns-in-Taken
returns-in-Taken c =
    let spot = rw c.in-Taken.is at c.in_ok-look_up.ensures in
    removed c.args.opened.now.tree c.args.opened.now.next c.args.path.now spot.0 c.in-Taken.parent c.in-Taken.name.now spot.1.0 (link_at c.in-Taken.place) spot.1.1
    _ refl refl c.object_number.ensures

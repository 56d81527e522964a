use Rattle.h5_query.specs.Place.{link_at}
use Rattle.h5_edit.proofs.RuleLaws.Exits.{passed_on}
use Rattle.h5_edit.proofs.RuleLaws.NewPaths.{path_refused, taken_refused, long_refused, free_there}
use Rattle.std.proofs.Common.{refl, arith}
use Rattle.h5_edit.proofs.rules.place.new_place.Goals as goal

pub returns-in_err-look_up : goal.returns-in_err-look_up
returns-in_err-look_up c =
    passed_on _ _ c.from_residual.result _ c.from_residual.ensures.1
    (path_refused c.args.opened.now.tree c.args.path.now _ c.in_err-look_up.ensures)

pub returns-in-Taken : goal.returns-in-Taken
returns-in-Taken c =
    let spot = rw c.in-Taken.is at c.in_ok-look_up.ensures in
    taken_refused c.args.opened.now.tree c.args.path.now spot.0 c.in-Taken.parent c.in-Taken.name.now spot.1.0 (link_at c.in-Taken.place) spot.1.1

pub returns-in-Free : goal.returns-in-Free
returns-in-Free c =
    let spot = rw c.in-Free.is at c.in_ok-look_up.ensures in
    long_refused c.args.opened.now.tree c.args.path.now spot.0 c.in-Free.parent c.in-Free.name.now spot.1.0 spot.1.1 (omega arith)

pub returns-in-Free-2 : goal.returns-in-Free-2
returns-in-Free-2 c =
    let spot = rw c.in-Free.is at c.in_ok-look_up.ensures in
    free_there c.args.opened.now.tree c.args.path.now spot.0 c.in-Free.parent c.in-Free.name.now spot.1.0 spot.1.1 _ refl refl
    (omega arith)

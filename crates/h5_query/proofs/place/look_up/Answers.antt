use Rattle.std.proofs.Common.{arith}
use Rattle.h5_query.proofs.PathLaws.{counted, path-long}
use Rattle.h5_query.proofs.Looks.{followed}
use Rattle.h5_query.proofs.place.look_up.Goals as goal

pub slice_bounds-follow-count : goal.slice_bounds-follow-count
slice_bounds-follow-count c = let names = counted c.args.path.now c.in-Some-2.field-0 c.in-Some-2.ensures in path-long c.args.path.now names.0 names.1

pub slice_bounds-follow-start : goal.slice_bounds-follow-start
slice_bounds-follow-start c = let names = counted c.args.path.now c.in-Some-2.field-0 c.in-Some-2.ensures in path-long c.args.path.now names.0 names.1

pub returns-in-Some-2 : goal.returns-in-Some-2
returns-in-Some-2 c =
    let names = counted c.args.path.now c.in-Some-2.field-0 c.in-Some-2.ensures in
    followed c.args.opened.now c.args.path.now names.0 names.1
    (omega (arith, names.2, c.in-Some.count-test.1, c.in-Some-2.field-0-is)) (omega (arith, names.2, c.if-count-gt-MAX_DEPTH.false, c.in-Some-2.field-0-is))
    c.follow.result c.follow.ensures

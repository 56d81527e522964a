use Rattle.std.proofs.Common.{sym, ◌∙◌, subst, arith}
use Rattle.std.specs.List.{AllByRecursion}
use Rattle.h5_btree.specs.Held.{IsStepThere}
use Rattle.h5_btree.proofs.NodeLaws.{capacity_low}
use Rattle.h5_btree.proofs.HeldKeys.{way_steps}
use Rattle.h5_btree.proofs.held.hold_keys.Goals as goal
use Rattle.h5_btree.proofs.held.hold_keys.Goals.{then-behind, else-behind}

pub overflow_add-place : goal.overflow_add-place
overflow_add-place g c =
    let e = c.requires.ends in
    let all = subst (AllByRecursion (IsStepThere c.args.image.now.bytes c.args.kind)) (sym c.steps.ensures.steps ∙ c.in-Some.ensures.cases.0)
    (way_steps c.args.image.now c.args.kind e.0 e.1 c.args.way.now e.2 e.3 e.4 e.5) in
    let place = all.0.1 in
    let roomy = all.0.0.1.roomy in
    let inside = all.0.0.0 in
    let short = (e.5).short in
    omega (arith, place, roomy, inside, short, capacity_low c.args.kind)

pub hold_above-requires-clause-node : goal.hold_above-requires-clause-node
hold_above-requires-clause-node g c =
    let e = c.requires.ends in
    let all = subst (AllByRecursion (IsStepThere c.args.image.now.bytes c.args.kind)) (sym c.steps.ensures.steps ∙ c.in-Some.ensures.cases.0)
    (way_steps c.args.image.now c.args.kind e.0 e.1 c.args.way.now e.2 e.3 e.4 e.5) in
    all.0.0

pub hold_above-requires-clause-above : goal.hold_above-requires-clause-above
hold_above-requires-clause-above g c =
    let e = c.requires.ends in
    let all = subst (AllByRecursion (IsStepThere c.args.image.now.bytes c.args.kind)) (sym c.steps.ensures.steps ∙ c.in-Some.ensures.cases.0)
    (way_steps c.args.image.now c.args.kind e.0 e.1 c.args.way.now e.2 e.3 e.4 e.5) in
    all.1

pub hold_above-requires-clause-some : goal.hold_above-requires-clause-some
hold_above-requires-clause-some g c =
    let e = c.requires.ends in
    let all = subst (AllByRecursion (IsStepThere c.args.image.now.bytes c.args.kind)) (sym c.steps.ensures.steps ∙ c.in-Some.ensures.cases.0)
    (way_steps c.args.image.now c.args.kind e.0 e.1 c.args.way.now e.2 e.3 e.4 e.5) in
    let place = all.0.1 in
    let roomy = all.0.0.1.roomy in
    omega (arith, place, roomy)

pub hold_above-requires-clause-place : goal.hold_above-requires-clause-place
hold_above-requires-clause-place g c =
    let e = c.requires.ends in
    let all = subst (AllByRecursion (IsStepThere c.args.image.now.bytes c.args.kind)) (sym c.steps.ensures.steps ∙ c.in-Some.ensures.cases.0)
    (way_steps c.args.image.now c.args.kind e.0 e.1 c.args.way.now e.2 e.3 e.4 e.5) in
    let place = all.0.1 in
    let roomy = all.0.0.1.roomy in
    elim c.if-behind.branch [ then-behind w ↦ omega (arith, place, w.place-is) | else-behind w ↦ omega (arith, place, w.place-is) ]

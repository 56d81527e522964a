use Rattle.std.proofs.Common.{◌≡◌, ℕ, ◌<◌, List, length, get_or, refl, sym, ap, ◌∙◌, subst, arith}
use Rattle.std.specs.List.{AllByRecursion}
use Rattle.h5_model.specs.Format.Rows.{Node}
use Rattle.h5_model.specs.Format.Nodes.{node_at, node_bytes}
use Rattle.h5_space.proofs.AddressLaws.{all_at}
use Rattle.h5_btree.specs.declared.way.Step.{Step}
use Rattle.h5_btree.proofs.NodeLaws.{length-children}
use Rattle.h5_btree.proofs.TreeReadings.{Listed}
use Rattle.h5_btree.proofs.WaySteps.{IsStep, way_owned, way_there}
use Rattle.h5_btree.proofs.KeyedWays.{ends_keyed}
use Rattle.h5_btree.proofs.ends.set_end.Goals as goal
use Rattle.h5_btree.proofs.ends.set_end.Goals.{then-last, else-last}

abbrev none : Step
none = record { node = 0; place = 0 }

pub node_there-requires-clause-inside : goal.node_there-requires-clause-inside
node_there-requires-clause-inside c =
    let e = c.requires.ends in
    let all = subst (AllByRecursion (IsStep c.args.image.now c.args.kind)) (sym c.steps.ensures.steps) (way_there c.args.image.now c.args.kind e.0 e.1 c.args.way.now e.2 e.3 e.4 e.5) in
    let low : c.args.level < length c.steps.result.now = omega (arith, c.requires.level, ap (λ (ws : List Step). length ws) c.steps.ensures.steps) in
    let here = all_at (IsStep c.args.image.now c.args.kind) c.steps.result.now c.args.level none all low in
    rw c.bytes.ensures here.0

pub node_there-requires-clause-form : goal.node_there-requires-clause-form
node_there-requires-clause-form c =
    let e = c.requires.ends in
    let all = subst (AllByRecursion (IsStep c.args.image.now c.args.kind)) (sym c.steps.ensures.steps) (way_there c.args.image.now c.args.kind e.0 e.1 c.args.way.now e.2 e.3 e.4 e.5) in
    let low : c.args.level < length c.steps.result.now = omega (arith, c.requires.level, ap (λ (ws : List Step). length ws) c.steps.ensures.steps) in
    let here = all_at (IsStep c.args.image.now c.args.kind) c.steps.result.now c.args.level none all low in
    rw c.bytes.ensures here.1

pub set_key-requires-clause-inside : goal.set_key-requires-clause-inside
set_key-requires-clause-inside c =
    let e = c.requires.ends in
    let all = subst (AllByRecursion (IsStep c.args.image.now c.args.kind)) (sym c.steps.ensures.steps) (way_there c.args.image.now c.args.kind e.0 e.1 c.args.way.now e.2 e.3 e.4 e.5) in
    let low : c.args.level < length c.steps.result.now = omega (arith, c.requires.level, ap (λ (ws : List Step). length ws) c.steps.ensures.steps) in
    let here = all_at (IsStep c.args.image.now c.args.kind) c.steps.result.now c.args.level none all low in
    here.0

pub set_key-requires-clause-form : goal.set_key-requires-clause-form
set_key-requires-clause-form c =
    let e = c.requires.ends in
    let all = subst (AllByRecursion (IsStep c.args.image.now c.args.kind)) (sym c.steps.ensures.steps) (way_there c.args.image.now c.args.kind e.0 e.1 c.args.way.now e.2 e.3 e.4 e.5) in
    let low : c.args.level < length c.steps.result.now = omega (arith, c.requires.level, ap (λ (ws : List Step). length ws) c.steps.ensures.steps) in
    let here = all_at (IsStep c.args.image.now c.args.kind) c.steps.result.now c.args.level none all low in
    here.1

pub set_key-requires-clause-place : goal.set_key-requires-clause-place
set_key-requires-clause-place c =
    let e = c.requires.ends in
    let all = subst (AllByRecursion (IsStep c.args.image.now c.args.kind)) (sym c.steps.ensures.steps) (way_there c.args.image.now c.args.kind e.0 e.1 c.args.way.now e.2 e.3 e.4 e.5) in
    let low : c.args.level < length c.steps.result.now = omega (arith, c.requires.level, ap (λ (ws : List Step). length ws) c.steps.ensures.steps) in
    let here = all_at (IsStep c.args.image.now c.args.kind) c.steps.result.now c.args.level none all low in
    let st : Step = get_or c.steps.result.now c.args.level none in
    let is : c.node_there.result ≡ node_at c.args.image.now.bytes c.args.kind st.node
    = c.node_there.ensures ∙ ap (λ (b : List ℕ). node_at b c.args.kind st.node) c.bytes.ensures in
    let read = c.len-count.ensures.children ∙ ap (λ (n : Node). length n.children) is in
    let count = length-children c.args.kind (node_bytes c.args.image.now.bytes c.args.kind st.node) (node_at c.args.image.now.bytes c.args.kind st.node) refl in
    elim c.if-last.branch [ then-last w ↦ omega (arith, read, count, w.place-is) | else-last w ↦ omega (arith, w.place-is) ]

pub returns-clause-tree : goal.returns-clause-tree
returns-clause-tree c = λ root height k owned list e.
    let all = subst (AllByRecursion (λ (step : Step). Listed owned step.node)) (sym c.steps.ensures.steps) (way_owned c.args.image.now c.args.kind root height c.args.way.now owned list k e) in
    let low : c.args.level < length c.steps.result.now = omega (arith, c.requires.level, ap (λ (ws : List Step). length ws) c.steps.ensures.steps) in
    let listed = all_at (λ (step : Step). Listed owned step.node) c.steps.result.now c.args.level none all low in
    ends_keyed c.args.image.now c.set_key.new.image c.args.kind root height c.args.way.now owned list k e (get_or c.steps.result.now c.args.level none).node listed _ c.set_key.ensures

use Rattle.std.proofs.Common.{◌≡◌, ℕ, ◌*◌, List, length, take, get_or, refl, sym, ap, ◌∙◌, arith, subst, add-one}
use Rattle.h5_model.specs.Format.Rows.{Node}
use Rattle.h5_model.specs.Format.Nodes.{node_at, node_bytes}
use Rattle.h5_space.proofs.AddressLaws.{all_at}
use Rattle.h5_btree.specs.Insertion.{IsFullWay}
use Rattle.h5_btree.specs.declared.way.Step.{Step}
use Rattle.h5_btree.proofs.NodeLaws.{length-children}
use Rattle.h5_btree.proofs.WaySteps.{IsStep, all_more, way_there}
use Rattle.h5_btree.proofs.way.is_full_way.Goals as goal
use Rattle.h5_btree.proofs.way.is_full_way.Goals.{After-bytes}

abbrev none : Step
none = record { node = 0; place = 0 }

-- a node stands at this step
here : (c : After-bytes) → IsStep c.args.image.now c.args.kind (get_or c.steps-step-items.result.now c.loop-step.step-index none)
here c =
    let e = c.requires.ends in
    let way = c.steps-step-items.ensures.steps in
    let all = way_there c.args.image.now c.args.kind e.0 e.1 c.args.way.now e.2 e.3 e.4 e.5 in
    all_at (IsStep c.args.image.now c.args.kind) c.steps-step-items.result.now c.loop-step.step-index none (rw way all) c.loop-step-test.true

pub node_there-requires-clause-inside : goal.node_there-requires-clause-inside
node_there-requires-clause-inside c = rw c.bytes.ensures ((here c).0)

pub node_there-requires-clause-form : goal.node_there-requires-clause-form
node_there-requires-clause-form c = rw c.bytes.ensures ((here c).1)

pub loop-step-preserved : goal.loop-step-preserved
loop-step-preserved c =
    let st : Step = get_or c.steps-step-items.result.now c.loop-step.step-index none in
    let is : c.node_there.result ≡ node_at c.args.image.now.bytes c.args.kind st.node
    = c.node_there.ensures ∙ ap (λ (b : List ℕ). node_at b c.args.kind st.node) c.bytes.ensures in
    let count = ap (λ (n : Node). length n.children) is in
    let entries = length-children c.args.kind (node_bytes c.args.image.now.bytes c.args.kind st.node) (node_at c.args.image.now.bytes c.args.kind st.node) refl in
    let roomy = ((here (goal.at.loop-step-preserved c).After-bytes).1).roomy in
    let full : length (node_at c.args.image.now.bytes c.args.kind st.node).children ≡ 2 * c.args.kind.k
    = omega (arith, count, entries, roomy, c.len.ensures.children, c.capacity.ensures.capacity, c.if-len-capacity.false) in
    let way = c.steps-step-items.ensures.steps in
    let before = subst (λ (ws : List Step). IsFullWay c.args.image.now.bytes c.args.kind (take c.loop-step.step-index ws)) (sym way) c.loop-step.invariant in
    rw (add-one, ← way)
    (all_more (λ (s : Step). length (node_at c.args.image.now.bytes c.args.kind s.node).children ≡ 2 * c.args.kind.k) c.steps-step-items.result.now c.loop-step.step-index none
    c.loop-step-test.true before full)

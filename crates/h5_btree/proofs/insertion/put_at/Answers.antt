use Rattle.std.proofs.Common.{◌≡◌, ◌≢◌, ℕ, suc, ◌+◌, List, ◌∷◌, length, Bool, sym, ap, ◌∙◌, subst, arith}
use Rattle.std.specs.Prelude.{if◌then◌else◌}
use Rattle.std.specs.List.{AllByRecursion, insert}
use Rattle.h5_btree.specs.Insertion.{IsClimbing, IsFullWay, IsPutAlong}
use Rattle.h5_btree.specs.declared.way.Step.{Step}
use Rattle.h5_btree.proofs.NodeLaws.{capacity_low}
use Rattle.h5_btree.proofs.WaySteps.{IsStep, way_there}
use Rattle.h5_btree.proofs.InsertionEnds.{begins_at, place_few}
use Rattle.h5_btree.proofs.insertion.put_at.Goals as goal
use Rattle.h5_btree.proofs.insertion.put_at.Goals.{Joined-behind, then-behind, else-behind}

pub overflow_add-place : goal.overflow_add-place
overflow_add-place c =
    let e = c.requires.ends in
    let cut = sym c.steps.ensures.steps ∙ c.in-Some.ensures.cases.0 in
    let low = place_few c.args.image.now c.args.kind e.0 e.1 c.args.way.now e.2 e.3 e.4 e.5 c.args.child c.in-Some.step.now c.in-Some.above.now cut in
    let all = subst (AllByRecursion (IsStep c.args.image.now c.args.kind)) cut (way_there c.args.image.now c.args.kind e.0 e.1 c.args.way.now e.2 e.3 e.4 e.5) in
    let inside = all.0.0 in
    let short = (e.5).short in
    omega (arith, low, inside, short, capacity_low c.args.kind)

pub climb-requires-clause-some : goal.climb-requires-clause-some
climb-requires-clause-some c =
    let e = c.requires.ends in
    let cut = sym c.steps.ensures.steps ∙ c.in-Some.ensures.cases.0 in
    let low = place_few c.args.image.now c.args.kind e.0 e.1 c.args.way.now e.2 e.3 e.4 e.5 c.args.child c.in-Some.step.now c.in-Some.above.now cut in
    omega (arith, low)

-- the place at which it comes in
place_is : (c : Joined-behind) → c.if-behind.place ≡ (if c.args.behind then c.in-Some.step.now.place + 1 else c.in-Some.step.now.place)
place_is c = elim c.if-behind.branch [
  | then-behind w ↦ w.place-is ∙ ap (λ (b : Bool). if b then c.in-Some.step.now.place + 1 else c.in-Some.step.now.place) (sym w.if-behind.true)
  | else-behind w ↦ w.place-is ∙ ap (λ (b : Bool). if b then c.in-Some.step.now.place + 1 else c.in-Some.step.now.place) (sym w.if-behind.false)
]

pub climb-requires-clause-climbs : goal.climb-requires-clause-climbs
climb-requires-clause-climbs c =
    let e = c.requires.ends in
    let cut = sym c.steps.ensures.steps ∙ c.in-Some.ensures.cases.0 in
    let at = place_is (goal.at.climb-requires-clause-climbs c).Joined-behind in
    let begins = begins_at c.args.image.now c.args.kind e.0 e.1 c.args.way.now e.2 e.3 e.4 e.5 c.args.child c.args.behind c.in-Some.step.now c.in-Some.above.now cut in
    let long : length c.args.way.now ≡ suc (length c.in-Some.above.now) = ap (λ (ws : List Step). length ws) cut in
    record {
      start = c.args.image.now;
      root = e.0;
      level = 0;
      list = insert e.3 (if c.args.behind then e.4 + 1 else e.4) c.args.child;
      owned = e.2;
      own = e.2;
      climbs = subst (λ (n : ℕ). IsClimbing c.args.image.now c.args.image.now c.args.kind e.0 0 c.in-Some.step.now.node c.in-Some.above.now n c.args.child
          (insert e.3 (if c.args.behind then e.4 + 1 else e.4) c.args.child) e.2 e.2) (sym at) begins;
      low = λ full above.
          let low = c.requires.low (subst (IsFullWay c.args.image.now.bytes c.args.kind) (sym cut) (full, above)) in
          omega (arith, low, long);
    }

pub returns-after-behind-clause-put : goal.returns-after-behind-clause-put
returns-after-behind-clause-put c = λ root level k owned list e.
    let cut = sym c.steps.ensures.steps ∙ c.in-Some.ensures.cases.0 in
    let at = place_is (goal.at.returns-after-behind-clause-put c).Joined-behind in
    let begins = begins_at c.args.image.now c.args.kind root level c.args.way.now owned list k e c.args.child c.args.behind c.in-Some.step.now c.in-Some.above.now cut in
    c.climb.ensures.put c.args.image.now root 0 (insert list (if c.args.behind then k + 1 else k) c.args.child) owned owned
    (subst (λ (n : ℕ). IsClimbing c.args.image.now c.args.image.now c.args.kind root 0 c.in-Some.step.now.node c.in-Some.above.now n c.args.child
    (insert list (if c.args.behind then k + 1 else k) c.args.child) owned owned) (sym at) begins)

pub returns-after-behind-clause-along : goal.returns-after-behind-clause-along
returns-after-behind-clause-along c = λ step above is.
    let cut = sym c.steps.ensures.steps ∙ c.in-Some.ensures.cases.0 in
    let both : c.in-Some.step.now ∷ c.in-Some.above.now ≡ step ∷ above = sym cut ∙ is in
    let first : c.in-Some.step.now ≡ step = cc in
    let rest : c.in-Some.above.now ≡ above = cc in
    let at = place_is (goal.at.returns-after-behind-clause-along c).Joined-behind in
    let made = subst (λ (n : ℕ). IsPutAlong c.args.image.now.bytes c.climb.new.image.bytes c.args.kind c.in-Some.step.now.node c.in-Some.above.now n c.args.keys.now c.args.child) at c.climb.ensures.along in
    subst (λ (st : Step). IsPutAlong c.args.image.now.bytes c.climb.new.image.bytes c.args.kind st.node above (if c.args.behind then st.place + 1 else st.place) c.args.keys.now c.args.child) first
    (subst (λ (ws : List Step). IsPutAlong c.args.image.now.bytes c.climb.new.image.bytes c.args.kind c.in-Some.step.now.node ws (if c.args.behind then c.in-Some.step.now.place + 1 else c.in-Some.step.now.place) c.args.keys.now c.args.child) rest made)

pub returns-after-behind-clause-others : goal.returns-after-behind-clause-others
returns-after-behind-clause-others c = λ root level k owned list e n listed apart.
    let cut = sym c.steps.ensures.steps ∙ c.in-Some.ensures.cases.0 in
    let at = place_is (goal.at.returns-after-behind-clause-others c).Joined-behind in
    let begins = begins_at c.args.image.now c.args.kind root level c.args.way.now owned list k e c.args.child c.args.behind c.in-Some.step.now c.in-Some.above.now cut in
    let off = subst (AllByRecursion (λ (step : Step). n ≢ step.node)) cut apart in
    c.climb.ensures.others c.args.image.now root 0 (insert list (if c.args.behind then k + 1 else k) c.args.child) owned owned
    (subst (λ (i : ℕ). IsClimbing c.args.image.now c.args.image.now c.args.kind root 0 c.in-Some.step.now.node c.in-Some.above.now i c.args.child
    (insert list (if c.args.behind then k + 1 else k) c.args.child) owned owned) (sym at) begins) n listed off.0 off.1

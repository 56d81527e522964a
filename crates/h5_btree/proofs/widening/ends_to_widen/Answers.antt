use Rattle.std.proofs.Common.{◌≡◌, ℕ, ◌<◌, List, [], ◌∷◌, ◌++◌, length, take, get_or, sym, ap, ◌∙◌, subst, arith, add-one}
use Rattle.std.specs.Prelude.{nat_le}
use Rattle.std.specs.List.{AllByRecursion}
use Rattle.std.proofs.lemmas.List.{take_all}
use Rattle.h5_model.specs.Format.Nodes.{node_at}
use Rattle.h5_space.proofs.AddressLaws.{all_at}
use Rattle.h5_btree.specs.Held.{IsStepThere}
use Rattle.h5_btree.specs.Widened.{end_at, ends_along}
use Rattle.h5_btree.specs.declared.way.Step.{Step}
use Rattle.h5_btree.specs.declared.widening.End.{End}
use Rattle.h5_btree.proofs.HeldKeys.{way_steps}
use Rattle.h5_btree.proofs.WideningLaws.{length-ends_along, ends_more}
use Rattle.h5_btree.proofs.widening.ends_to_widen.Goals as goal

abbrev none : Step
none = record { node = 0; place = 0 }

pub ends_at-requires : goal.ends_at-requires
ends_at-requires g c =
    let e = c.requires.ends in
    let kind = g.S.Sought.tree_kind c.args.sought.now in
    let all = subst (AllByRecursion (IsStepThere c.args.image.now.bytes kind)) (sym c.steps-step-items.ensures.steps)
    (way_steps c.args.image.now kind e.0 e.1 c.args.way.now e.2 e.3 e.4 e.5) in
    let here = all_at (IsStepThere c.args.image.now.bytes kind) c.steps-step-items.result.now c.loop-level.level none all c.loop-level-test.true in
    rw c.bytes.ensures here

pub loop-level-preserved : goal.loop-level-preserved
loop-level-preserved g c =
    let kind = g.S.Sought.tree_kind c.args.sought.now in
    let V = node_at c.args.image.now.bytes kind in
    let behind = g.S.Sought.behind c.args.sought.now in
    let i : ℕ = c.loop-level.level in
    let way = c.steps-step-items.ensures.steps in
    let low : i < length c.args.way.now = omega (arith, ap (λ (ws : List Step). length ws) way, c.loop-level-test.true) in
    let here : c.ends_at.result ≡ end_at V behind (nat_le c.args.stay i) (get_or c.args.way.now i none)
    = c.ends_at.ensures ∙ ap (λ (b : List ℕ). end_at (node_at b kind) behind (nat_le c.args.stay i) (get_or c.steps-step-items.result.now i none)) c.bytes.ensures
    ∙ ap (λ (ws : List Step). end_at V behind (nat_le c.args.stay i) (get_or ws i none)) way in
    c.push.ensures ∙ ap (λ (es : List End). es ++ c.ends_at.result ∷ []) c.loop-level.invariant
    ∙ ap (λ (end : End). take i (ends_along V behind c.args.stay c.args.way.now) ++ end ∷ []) here
    ∙ sym (ends_more V behind c.args.stay c.args.way.now i none low)
    ∙ ap (λ (n : ℕ). take n (ends_along V behind c.args.stay c.args.way.now)) (sym (add-one i))

pub returns : goal.returns
returns g c =
    let kind = g.S.Sought.tree_kind c.args.sought.now in
    let V = node_at c.args.image.now.bytes kind in
    let behind = g.S.Sought.behind c.args.sought.now in
    let long = ap (λ (ws : List Step). length ws) c.steps-step-items.ensures.steps in
    let all = length-ends_along V behind c.args.stay c.args.way.now in
    let end = c.loop-level-test.false in
    c.loop-level.invariant ∙ take_all c.loop-level.level (ends_along V behind c.args.stay c.args.way.now) (omega (arith, long, all, end))

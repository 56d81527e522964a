use Rattle.std.proofs.Common.{◌≡◌, ◌≢◌, ℕ, ◌+◌, ◌<◌, [], length, refl, sym, subst, ◌∙◌, arith, false, true, below_more}
use Rattle.std.proofs.lemmas.Option.{get_or_from_slice_get}
use Rattle.h5_model.specs.Format.Rows.{Node}
use Rattle.h5_btree.specs.Order.{IsKnownFrom}
use Rattle.h5_btree.specs.Walk.Below.{reading_in}
use Rattle.h5_btree.proofs.OrderLaws.NodeOrder.{IsChildOrdered, child_asked, child_ordered, each_ordered}
use Rattle.h5_btree.proofs.OrderLaws.DepthLaws.{known_child}
use Rattle.h5_btree.proofs.order.check.is_ordered.Goals as goal
use Rattle.h5_btree.proofs.order.check.is_ordered.Goals.{then-not-may_follow-via-then-not-may_follow, then-not-may_follow-via-else-not-may_follow+then-not-are_between}

pub is_ordered-requires-clause-known : goal.is_ordered-requires-clause-known
is_ordered-requires-clause-known g c =
    let V = reading_in c.args.image.now.bytes (g.O.Trees.form c.args.over.now) in
    let Known = g.O.Ordered.known c.args.over.now c.args.image.now.bytes in
    subst (λ (l : ℕ). IsKnownFrom Known V l c.args.node.now) (sym c.level-level.ensures ∙ c.if-level-eq0.true) c.requires.known

pub are_between-requires-clause-known : goal.are_between-requires-clause-known
are_between-requires-clause-known g c =
    let V = reading_in c.args.image.now.bytes (g.O.Trees.form c.args.over.now) in
    let Known = g.O.Ordered.known c.args.over.now c.args.image.now.bytes in
    let node : Node = c.args.node.now in
    let low : c.loop-i.i < length node.children = omega arith in
    let some : node.level ≢ 0 = λ e. c.if-level-eq0.false (c.level-level.ensures ∙ e) in
    let read = get_or_from_slice_get node.children c.loop-i.i c.child.result c.child.result c.child.ensures in
    rw c.level-level.ensures (known_child Known V node node.level c.loop-i.i c.child.result some c.requires.known low read)

pub returns-then-not-may_follow : goal.returns-then-not-may_follow
returns-then-not-may_follow g c = (
  λ (yes : false ≡ true). absurd (cc),
  λ ordered.
      let V = reading_in c.args.image.now.bytes (g.O.Trees.form c.args.over.now) in
      let sides = g.O.Ordered.sides c.args.over.now in
      let bottom = g.O.Ordered.bottom c.args.over.now c.args.image.now.bytes in
      let node : Node = c.args.node.now in
      let low : c.loop-i.i < length node.children = omega arith in
      let some : node.level ≢ 0 = λ e. c.if-level-eq0.false (c.level-level.ensures ∙ e) in
      let low_is = get_or_from_slice_get node.keys c.loop-i.i c.key-low.result.now [] c.key-low.ensures in
      let high_is = get_or_from_slice_get node.keys (c.loop-i.i + 1) c.key-high.result.now [] c.key-high.ensures in
      elim c.then-not-may_follow.branch [
        | then-not-may_follow-via-then-not-may_follow w ↦ w.if-not-may_follow.ensures.1 (rw (low_is, high_is) at (ordered.rising c.loop-i.i low))
        | then-not-may_follow-via-else-not-may_follow+then-not-are_between w ↦
            let read = get_or_from_slice_get node.children c.loop-i.i w.child.result 0 w.child.ensures in
            let asked = child_asked sides V bottom node c.loop-i.i w.child.result c.key-low.result.now c.key-high.result.now some low read low_is high_is
            (each_ordered sides V bottom node ordered c.loop-i.i low) in
            w.if-not-are_between.ensures.1 (rw c.level-level.ensures asked.1)
      ],
)

pub loop-i-preserved : goal.loop-i-preserved
loop-i-preserved g c =
    let V = reading_in c.args.image.now.bytes (g.O.Trees.form c.args.over.now) in
    let sides = g.O.Ordered.sides c.args.over.now in
    let bottom = g.O.Ordered.bottom c.args.over.now c.args.image.now.bytes in
    let node : Node = c.args.node.now in
    let low : c.loop-i.i < length node.children = omega arith in
    let some : node.level ≢ 0 = λ e. c.if-level-eq0.false (c.level-level.ensures ∙ e) in
    let read = get_or_from_slice_get node.children c.loop-i.i c.child.result 0 c.child.ensures in
    let low_is = get_or_from_slice_get node.keys c.loop-i.i c.key-low.result.now [] c.key-low.ensures in
    let high_is = get_or_from_slice_get node.keys (c.loop-i.i + 1) c.key-high.result.now [] c.key-high.ensures in
    below_more (IsChildOrdered sides V bottom node) c.loop-i.i c.loop-i.invariant
    (child_ordered sides V bottom node c.loop-i.i c.child.result c.key-low.result.now c.key-high.result.now some low read low_is high_is
    (c.if-not-may_follow.ensures.0 refl, rw c.level-level.ensures at (c.if-not-are_between.ensures.0 refl)))

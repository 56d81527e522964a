use Rattle.std.proofs.Common.{◌≡◌, ◌<◌, ◌≤◌, ◌-◌, length, refl, arith, false, true}
use Rattle.std.proofs.lemmas.Option.{get_or_from_slice_get}
use Rattle.h5_model.specs.Format.Rows.{Node}
use Rattle.h5_btree.specs.Walk.Below.{reading_in}
use Rattle.h5_btree.proofs.OrderLaws.BetweenLaws.{IsBelow, below_down, below_up, keys_stand}
use Rattle.h5_btree.proofs.OrderLaws.DepthLaws.{child_over, known_over}
use Rattle.h5_btree.proofs.OrderLaws.Elements.{all_at, all_more, all_done}
use Rattle.h5_btree.proofs.order.check.+are_between.Goals as goal

pub lie_between-requires-clause-keys : goal.lie_between-requires-clause-keys
lie_between-requires-clause-keys g t c =
    rw c.tree_node-node.ensures (keys_stand c.args.image.now.bytes (g.O.Trees.form c.args.over.now) c.args.level c.args.at c.requires.subtree.0)

pub lie_between-requires-clause-leaves : goal.lie_between-requires-clause-leaves
lie_between-requires-clause-leaves g t c =
    rw c.tree_node-node.ensures (rw c.if-level-eq0.true at c.requires.subtree.1)

pub lie_between-requires-clause-known : goal.lie_between-requires-clause-known
lie_between-requires-clause-known g t c =
    rw c.tree_node-node.ensures (rw c.if-level-eq0.true at c.requires.known)

pub are_between-requires : goal.are_between-requires
are_between-requires g t c κs within =
    let node : Node = c.tree_node-node.result in
    let V = reading_in c.args.image.now.bytes (g.O.Trees.form c.args.over.now) in
    let Known = g.O.Ordered.known c.args.over.now c.args.image.now.bytes in
    let low : c.loop-i.i < length node.children = omega arith in
    let read = get_or_from_slice_get node.children c.loop-i.i c.child.result c.child.result c.child.ensures in
    let known = known_over Known V c.args.at node c.tree_node-node.ensures c.args.level c.loop-i.i c.child.result c.if-level-eq0.false c.requires.known low read in (
      omega (arith, c.decreases),
      (
        within,
        (
          c.requires.superblock,
          (
            child_over c.args.image.now.bytes (g.O.Trees.form c.args.over.now) c.args.at node c.tree_node-node.ensures c.args.level c.loop-i.i c.child.result
                c.if-level-eq0.false c.requires.subtree low read,
            (known, (c.requires.low, c.requires.high)),
          ),
        ),
      ),
    )

pub returns-then-not-are_between : goal.returns-then-not-are_between
returns-then-not-are_between g t c =
    let V = reading_in c.args.image.now.bytes (g.O.Trees.form c.args.over.now) in
    let sides = g.O.Ordered.sides c.args.over.now in
    let bottom = g.O.Ordered.bottom c.args.over.now c.args.image.now.bytes in
    let node : Node = c.tree_node-node.result in
    let low : c.loop-i.i < length node.children = omega arith in
    let read = get_or_from_slice_get node.children c.loop-i.i c.child.result c.child.result c.child.ensures in (
      λ (yes : false ≡ true). absurd (cc),
      λ all. c.if-not-are_between.ensures.1
          (all_at (IsBelow sides V bottom c.args.low.now c.args.high.now c.args.at node c.tree_node-node.ensures (c.args.level - 1)) node.children c.loop-i.i c.child.result low read
          (below_down sides V bottom c.args.low.now c.args.high.now c.args.at node c.tree_node-node.ensures c.args.level c.if-level-eq0.false all)),
    )

pub loop-i-preserved : goal.loop-i-preserved
loop-i-preserved g t c =
    let V = reading_in c.args.image.now.bytes (g.O.Trees.form c.args.over.now) in
    let sides = g.O.Ordered.sides c.args.over.now in
    let bottom = g.O.Ordered.bottom c.args.over.now c.args.image.now.bytes in
    let node : Node = c.tree_node-node.result in
    let low : c.loop-i.i < length node.children = omega arith in
    let read = get_or_from_slice_get node.children c.loop-i.i c.child.result c.child.result c.child.ensures in
    all_more (IsBelow sides V bottom c.args.low.now c.args.high.now c.args.at node c.tree_node-node.ensures (c.args.level - 1)) node.children c.loop-i.i c.child.result low read
    c.loop-i.invariant (c.if-not-are_between.ensures.0 refl)

pub returns : goal.returns
returns g t c =
    let V = reading_in c.args.image.now.bytes (g.O.Trees.form c.args.over.now) in
    let sides = g.O.Ordered.sides c.args.over.now in
    let bottom = g.O.Ordered.bottom c.args.over.now c.args.image.now.bytes in
    let node : Node = c.tree_node-node.result in
    let end : length node.children ≤ c.loop-i.i = omega arith in (
      λ _. below_up sides V bottom c.args.low.now c.args.high.now c.args.at node c.tree_node-node.ensures c.args.level c.if-level-eq0.false
          (all_done (IsBelow sides V bottom c.args.low.now c.args.high.now c.args.at node c.tree_node-node.ensures (c.args.level - 1)) node.children c.loop-i.i end c.loop-i.invariant),
      λ _. refl,
    )

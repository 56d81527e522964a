use Rattle.std.proofs.Common.{ℕ, ◌≡◌, ◌<◌, ◌≤◌, ◌-◌, ◌∙◌, length, refl, ap, arith, false, true, subst, sym}
use Rattle.std.specs.List.{AllByRecursion}
use Rattle.std.proofs.lemmas.Option.{get_or_from_slice_get}
use Rattle.std.proofs.lemmas.Result.{err_from_is_err_and}
use Rattle.h5_model.specs.Format.Rows.{Node}
use Rattle.h5_laws.specs.Ladders.{IsOrderedBy}
use Rattle.h5_btree.specs.Order.{HasSubtree, IsKnownFrom, IsOrderedAt}
use Rattle.h5_btree.specs.Walk.Below.{reading_in}
use Rattle.h5_btree.proofs.OrderLaws.BetweenLaws.{children_stand, keys_stand}
use Rattle.h5_btree.proofs.OrderLaws.DepthLaws.{AllFrom, child_over, from_child, from_itself, from_up, known_over}
use Rattle.h5_btree.proofs.OrderLaws.Elements.{all_more, all_done}
use Rattle.h5_btree.proofs.order.check.+check_keys.Goals as goal

pub is_ordered-requires-clause-keys : goal.is_ordered-requires-clause-keys
is_ordered-requires-clause-keys g t c =
    rw c.tree_node-node.ensures (keys_stand c.args.image.now.bytes (g.O.Trees.form c.args.over.now) c.args.level c.args.at c.requires.subtree.0)

pub is_ordered-requires-clause-children : goal.is_ordered-requires-clause-children
is_ordered-requires-clause-children g t c =
    let image = c.args.image.now.bytes in
    let form = g.O.Trees.form c.args.over.now in
    let high : c.tree_node-node.result.level ≡ c.args.level = ap (λ (n : Node). n.level) c.tree_node-node.ensures ∙ (c.requires.subtree.0).high in
    subst (λ (l : ℕ). AllByRecursion (HasSubtree image form l) c.tree_node-node.result.children) (sym high)
    (children_stand image form c.args.at c.tree_node-node.result c.tree_node-node.ensures c.args.level c.requires.subtree)

pub is_ordered-requires-clause-known : goal.is_ordered-requires-clause-known
is_ordered-requires-clause-known g t c =
    let node : Node = c.tree_node-node.result in
    let V = reading_in c.args.image.now.bytes (g.O.Trees.form c.args.over.now) in
    let Known = g.O.Ordered.known c.args.over.now c.args.image.now.bytes in
    let high : node.level ≡ c.args.level = ap (λ (n : Node). n.level) c.tree_node-node.ensures ∙ (c.requires.subtree.0).high in
    subst (λ (l : ℕ). IsKnownFrom Known V l node) (sym high)
    (subst (IsKnownFrom Known V c.args.level) (sym c.tree_node-node.ensures) c.requires.known)

pub returns-then-not-is_ordered-clause-refused : goal.returns-then-not-is_ordered-clause-refused
returns-then-not-is_ordered-clause-refused g t c =
    let form = g.O.Trees.form c.args.over.now in
    let sides = g.O.Ordered.sides c.args.over.now in
    let bottom = g.O.Ordered.bottom c.args.over.now c.args.image.now.bytes in
    rw c.fault.ensures (
      refl,
      from_itself c.args.image.now.bytes form c.args.level c.args.at,
      λ ordered.
          let yes : false ≡ true
          = c.if-not-is_ordered.ensures.1 (subst (IsOrderedBy sides (reading_in c.args.image.now.bytes form) bottom) (sym c.tree_node-node.ensures) ordered) in
          absurd (cc),
    )

pub check_keys-requires : goal.check_keys-requires
check_keys-requires g t c κs within =
    let node : Node = c.tree_node-node.result in
    let low : c.loop-i.i < length node.children = omega arith in
    let V = reading_in c.args.image.now.bytes (g.O.Trees.form c.args.over.now) in
    let Known = g.O.Ordered.known c.args.over.now c.args.image.now.bytes in
    let read = get_or_from_slice_get node.children c.loop-i.i c.child.result c.child.result c.child.ensures in (
      omega (arith, c.decreases),
      (
        within,
        (
          c.requires.superblock,
          (
            child_over c.args.image.now.bytes (g.O.Trees.form c.args.over.now) c.args.at node c.tree_node-node.ensures c.args.level c.loop-i.i c.child.result
                c.if-level-eq0.false c.requires.subtree low read,
            known_over Known V c.args.at node c.tree_node-node.ensures c.args.level c.loop-i.i c.child.result c.if-level-eq0.false c.requires.known low read,
          ),
        ),
      ),
    )

pub returns-in_err-check_keys-clause-refused : goal.returns-in_err-check_keys-clause-refused
returns-in_err-check_keys-clause-refused g t c =
    let form = g.O.Trees.form c.args.over.now in
    let node : Node = c.tree_node-node.result in
    let low : c.loop-i.i < length node.children = omega arith in
    let read = get_or_from_slice_get node.children c.loop-i.i c.child.result c.child.result c.child.ensures in
    let refused = c.in_err-check_keys.ensures.refused in
    let p = err_from_is_err_and c.from_residual.result c.from_residual.ensures.1 in
    rw (p.1, p.2) (
      refused.0,
      from_child c.args.image.now.bytes form c.args.at node c.tree_node-node.ensures c.args.level c.loop-i.i c.child.result _ c.if-level-eq0.false low read refused.1,
      refused.2,
    )

pub loop-i-preserved : goal.loop-i-preserved
loop-i-preserved g t c =
    let form = g.O.Trees.form c.args.over.now in
    let sides = g.O.Ordered.sides c.args.over.now in
    let bottom = g.O.Ordered.bottom c.args.over.now c.args.image.now.bytes in
    let node : Node = c.tree_node-node.result in
    let low : c.loop-i.i < length node.children = omega arith in
    let read = get_or_from_slice_get node.children c.loop-i.i c.child.result c.child.result c.child.ensures in
    all_more (AllFrom c.args.image.now.bytes form c.args.at node c.tree_node-node.ensures (IsOrderedAt sides c.args.image.now.bytes form bottom) (c.args.level - 1))
    node.children c.loop-i.i c.child.result low read c.loop-i.invariant c.in_ok-check_keys.ensures.ordered

pub returns-clause-ordered : goal.returns-clause-ordered
returns-clause-ordered g t c =
    let form = g.O.Trees.form c.args.over.now in
    let sides = g.O.Ordered.sides c.args.over.now in
    let bottom = g.O.Ordered.bottom c.args.over.now c.args.image.now.bytes in
    let node : Node = c.tree_node-node.result in
    let end : length node.children ≤ c.loop-i.i = omega arith in
    let here = subst (IsOrderedBy sides (reading_in c.args.image.now.bytes form) bottom) c.tree_node-node.ensures (c.if-not-is_ordered.ensures.0 refl) in
    from_up c.args.image.now.bytes form c.args.at node c.tree_node-node.ensures (IsOrderedAt sides c.args.image.now.bytes form bottom) c.args.level c.if-level-eq0.false here
    (all_done (AllFrom c.args.image.now.bytes form c.args.at node c.tree_node-node.ensures (IsOrderedAt sides c.args.image.now.bytes form bottom) (c.args.level - 1))
    node.children c.loop-i.i end c.loop-i.invariant)

use Rattle.std.proofs.Common.{length, arith, refl, ap}
use Rattle.h5_model.specs.Format.Rows.{Node}
use Rattle.h5_model.specs.Format.Nodes.{node_at, node_bytes}
use Rattle.h5_btree.proofs.NodeLaws.{length-children, length-keys}
use Rattle.h5_btree.proofs.HeldKeys.{long_keys}
use Rattle.h5_btree.proofs.widening.ends_at.Goals as goal

pub is_before-requires-clause-keys : goal.is_before-requires-clause-keys
is_before-requires-clause-keys g c =
    let is = rw c.kind.ensures at c.node_there-node.ensures in
    rw is (long_keys c.args.image.now (g.S.Sought.tree_kind c.args.sought.now) c.args.step.node c.requires.0)

pub is_before-requires-clause-some : goal.is_before-requires-clause-some
is_before-requires-clause-some g c =
    let kind = g.S.Sought.tree_kind c.args.sought.now in
    let is = rw c.kind.ensures at c.node_there-node.ensures in
    let keys = ap (λ (n : Node). length n.keys) is in
    let count = length-keys kind (node_bytes c.args.image.now kind c.args.step.node) (node_at c.args.image.now kind c.args.step.node) refl in
    omega (arith, keys, count)

pub is_past-requires-clause-keys : goal.is_past-requires-clause-keys
is_past-requires-clause-keys g c =
    let is = rw c.kind.ensures at c.node_there-node.ensures in
    rw is (long_keys c.args.image.now (g.S.Sought.tree_kind c.args.sought.now) c.args.step.node c.requires.0)

pub is_past-requires-clause-place : goal.is_past-requires-clause-place
is_past-requires-clause-place g c =
    let kind = g.S.Sought.tree_kind c.args.sought.now in
    let is = rw c.kind.ensures at c.node_there-node.ensures in
    let children = ap (λ (n : Node). length n.children) is in
    let count = length-children kind (node_bytes c.args.image.now kind c.args.step.node) (node_at c.args.image.now kind c.args.step.node) refl in
    let place = c.requires.1 in
    omega (arith, children, count, place)

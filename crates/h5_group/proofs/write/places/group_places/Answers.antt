use Rattle.std.proofs.Common.{◌≡◌, ◌*◌, ◌+◌, ◌^◌, ◌≤◌, ◌<◌, refl, ap, ◌∙◌, arith, subst}
use Rattle.h5_model.specs.Format.Limits.{most_bytes, highest_level}
use Rattle.h5_model.specs.Format.Nodes.{Kind, group_kind, node_length}
use Rattle.h5_btree.specs.Writing.Written.{root_level}
use Rattle.h5_group.proofs.WriteLaws.Counts.{links_few, counted, product_low}
use Rattle.h5_group.proofs.write.places.group_places.Goals as goal
use Rattle.h5_group.proofs.write.places.group_places.Goals.{After-node_length, After-from-2}

-- fewer than 2^33 nodes of the tree, none with more than 2^22 bytes, overflow nothing
tree_low : (c : After-node_length) → c.nodes_over.result * c.node_length.result ≤ 2 ^ 55
tree_low c =
    let size : c.node_length.result ≡ node_length (group_kind (c.args.k.now).internal) = c.node_length.ensures.length ∙ ap node_length c.group-kind.ensures in
    product_low c.nodes_over.result c.node_length.result c.nodes_over.ensures.few (omega (arith, size, c.requires.internal_high))

-- nor do the symbol nodes
rest_low : (c : After-from-2) → c.rows_of-nodes.result * (8 + 80 * c.from-2.result) ≤ 2 ^ 55
rest_low c =
    product_low c.rows_of-nodes.result (8 + 80 * c.from-2.result)
    (omega (arith, c.rows_of-nodes.ensures.few, links_few c.args.links.now (omega (arith, c.in-Some.ensures.0, c.in-Some.ensures.1))))
    (omega (arith, c.from-2.ensures, c.requires.leaf_high))

pub rows_of-nodes-requires-clause-count : goal.rows_of-nodes-requires-clause-count
rows_of-nodes-requires-clause-count c = links_few c.args.links.now (omega (arith, c.in-Some.ensures.0, c.in-Some.ensures.1))

pub nodes_over-requires-clause-few : goal.nodes_over-requires-clause-few
nodes_over-requires-clause-few c = omega (arith, c.rows_of-nodes.ensures.few, links_few c.args.links.now (omega (arith, c.in-Some.ensures.0, c.in-Some.ensures.1)))

pub overflow_mul-tree : goal.overflow_mul-tree
overflow_mul-tree c = omega (arith, tree_low (goal.at.overflow_mul-tree c).After-node_length)

pub overflow_add-length : goal.overflow_add-length
overflow_add-length c = omega (arith, tree_low (goal.at.overflow_add-length c).After-node_length)

pub overflow_add-length-2 : goal.overflow_add-length-2
overflow_add-length-2 c = omega (arith, tree_low (goal.at.overflow_add-length-2 c).After-node_length, c.in-Some.ensures.1)

pub overflow_mul-length-2 : goal.overflow_mul-length-2
overflow_mul-length-2 c = omega (arith, rest_low (goal.at.overflow_mul-length-2 c).After-from-2)

pub overflow_add-length-4 : goal.overflow_add-length-4
overflow_add-length-4 c =
    omega (arith, tree_low (goal.at.overflow_add-length-4 c).After-node_length, rest_low (goal.at.overflow_add-length-4 c).After-from-2, c.in-Some.ensures.1)

pub returns-then-length-gt-MAXIMUM_IMAGE : goal.returns-then-length-gt-MAXIMUM_IMAGE
returns-then-length-gt-MAXIMUM_IMAGE c =
    let all = counted _ _ _ _ _ _ _ _ _ _ c.group-kind.result c.args.links.now c.from.ensures c.rows_of-nodes.ensures.exact c.group-kind.ensures
    c.nodes_over.ensures.exact c.node_length.ensures.length refl c.in-Some.ensures.0 c.from-2.ensures refl in
    subst (λ n. most_bytes < n) all.whole_is c.if-length-gt-MAXIMUM_IMAGE.true

pub returns-then-root_level : goal.returns-then-root_level
returns-then-root_level c =
    let all = counted _ _ _ _ _ _ _ _ _ _ c.group-kind.result c.args.links.now c.from.ensures c.rows_of-nodes.ensures.exact c.group-kind.ensures
    c.nodes_over.ensures.exact c.node_length.ensures.length refl c.in-Some.ensures.0 c.from-2.ensures refl in
    let level = c.root_level.ensures ∙ ap (λ (kind : Kind). root_level kind.k c.rows_of-nodes.result) c.group-kind.ensures in (
      subst (λ n. n ≤ most_bytes) all.whole_is c.if-length-gt-MAXIMUM_IMAGE.false,
      subst (λ n. highest_level < root_level (c.args.k.now).internal n) all.nodes_are (subst (λ n. highest_level < n) level c.if-root_level.true),
    )

pub returns : goal.returns
returns c =
    let all = counted _ _ _ _ _ _ _ _ _ _ c.group-kind.result c.args.links.now c.from.ensures c.rows_of-nodes.ensures.exact c.group-kind.ensures
    c.nodes_over.ensures.exact c.node_length.ensures.length refl c.in-Some.ensures.0 c.from-2.ensures refl in
    let level = c.root_level.ensures ∙ ap (λ (kind : Kind). root_level kind.k c.rows_of-nodes.result) c.group-kind.ensures in
    record {
      tree = all.tree_is;
      segment = c.in-Some.ensures.0;
      length_is = all.whole_is;
      few = c.if-length-gt-MAXIMUM_IMAGE.false;
      low = subst (λ n. root_level (c.args.k.now).internal n ≤ highest_level) all.nodes_are (subst (λ n. n ≤ highest_level) level c.if-root_level.false);
    }

use Rattle.std.proofs.Common.{◌∙◌, append_assoc, refl}
use Rattle.h5_group.proofs.WriteLaws.NameTrees.{lasts_fit}
use Rattle.h5_group.proofs.WriteLaws.Pushing.{names_low, children_few, children_level, tree_low, links_are}
use Rattle.h5_group.proofs.write.group.push_links.Goals as goal

pub symbol_children-requires-clause-names : goal.symbol_children-requires-clause-names
symbol_children-requires-clause-names c = names_low (c.args.k.now).leaf (c.args.k.now).internal c.args.links.now c.requires.k c.args.places.now c.requires.places

pub push_tree-requires-clause-few : goal.push_tree-requires-clause-few
push_tree-requires-clause-few c = children_few (c.args.k.now).leaf (c.args.k.now).internal c.args.links.now c.requires.k c.args.places.now c.requires.places
    c.args.at c.deref.result.now (c.deref.ensures.value ∙ c.in_ok-children.ensures)

pub push_tree-requires-clause-level : goal.push_tree-requires-clause-level
push_tree-requires-clause-level c =
    rw c.group.ensures (children_level (c.args.k.now).leaf (c.args.k.now).internal c.args.links.now c.requires.k c.args.places.now c.requires.places
    c.args.at c.deref.result.now (c.deref.ensures.value ∙ c.in_ok-children.ensures))

pub push_tree-requires-clause-room : goal.push_tree-requires-clause-room
push_tree-requires-clause-room c =
    rw c.group.ensures (tree_low (c.args.k.now).leaf (c.args.k.now).internal c.args.links.now c.requires.k c.args.places.now c.requires.places
    c.args.at c.deref.result.now (c.deref.ensures.value ∙ c.in_ok-children.ensures) c.requires.low)

pub push_tree-requires-clause-first : goal.push_tree-requires-clause-first
push_tree-requires-clause-first c = rw c.group.ensures refl

pub push_tree-requires-clause-keys : goal.push_tree-requires-clause-keys
push_tree-requires-clause-keys c = rw c.group.ensures (lasts_fit (c.args.k.now).internal c.deref.result.now)

pub push_symbol_nodes-requires-clause-names : goal.push_symbol_nodes-requires-clause-names
push_symbol_nodes-requires-clause-names c = names_low (c.args.k.now).leaf (c.args.k.now).internal c.args.links.now c.requires.k c.args.places.now c.requires.places

pub returns : goal.returns
returns c =
    rw (
      links_are (c.args.k.now).leaf (c.args.k.now).internal c.args.links.now c.requires.k c.args.places.now c.requires.places
          c.args.at c.deref.result.now (c.deref.ensures.value ∙ c.in_ok-children.ensures),
      c.in_ok-push_symbol_nodes.ensures,
      c.in_ok-push_heap.ensures,
      c.in_ok-push_tree.ensures,
      c.group.ensures,
    ) (simp append_assoc)

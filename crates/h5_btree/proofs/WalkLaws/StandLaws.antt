-- Where the nodes and leaves of a tree stand (File Format Specification 3.0, sections III.A.1 and III.B).
use Rattle.std.specs.Prelude.{ℕ, ◌+◌, ◌≤◌, List, [], ◌∷◌, length, map}
use Rattle.std.specs.List.{AllByRecursion}
use Rattle.h5_bytes.specs.Blocks.{Inside}
use Rattle.h5_bytes.specs.declared.Block.{Block}
use Rattle.h5_bytes.proofs.BlockLaws.{all_left, all_right}
use Rattle.h5_model.specs.Format.Nodes.{IsNode, node_bytes, tree_blocks}
use Rattle.h5_btree.specs.Walk.Forms.{TreeForm, kind_of, leaf_block, IsFormed}
use Rattle.h5_btree.specs.Walk.Trees.{IsTree, nodes_blocks}
use Rattle.h5_btree.specs.Walk.Stands.{IsNodeAt}
use Rattle.h5_btree.specs.Walk.Below.{IsBottom}

module _ (image : List ℕ) (form : TreeForm) where
  pub each_node : (nodes : List ℕ) → AllByRecursion (λ at. IsNode (kind_of image form) (node_bytes image (kind_of image form) at)) nodes
      → Inside (length image) (tree_blocks (kind_of image form) nodes) → AllByRecursion (IsNodeAt image form) nodes
  each_node [] formed inside = tt
  each_node (at ∷ rest) formed inside = (record { formed = formed.0; inside = inside.0 }, each_node rest formed.1 inside.1)

  each_leaf : (leaves : List ℕ) → AllByRecursion (IsFormed image form) leaves → Inside (length image) (map (leaf_block image form) leaves)
      → AllByRecursion (IsBottom image form) leaves
  each_leaf [] formed inside = tt
  each_leaf (at ∷ rest) formed inside = (record { formed = formed.0; there = inside.0 }, each_leaf rest formed.1 inside.1)

  module _ (root : ℕ) (nodes leaves : List ℕ) (tree : IsTree image form root nodes leaves) (inside : Inside (length image) (nodes_blocks image form nodes leaves)) where
    abbrev IsInside : Block → Type 0
    IsInside b = b.at + b.len ≤ length image

    pub nodes_stand : AllByRecursion (IsNodeAt image form) nodes
    nodes_stand = each_node nodes (tree.tree).formed
        (all_left IsInside (tree_blocks (kind_of image form) nodes) (map (leaf_block image form) leaves) inside)

    pub leaves_stand : AllByRecursion (IsBottom image form) leaves
    leaves_stand = each_leaf leaves tree.formed
        (all_right IsInside (tree_blocks (kind_of image form) nodes) (map (leaf_block image form) leaves) inside)

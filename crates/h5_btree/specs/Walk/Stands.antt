-- Nodes of a tree, and whole trees, where they stand in an image (File Format Specification 3.0, section III.A.1).
use Rattle.std.specs.Prelude.{ℕ, ◌+◌, ◌≤◌, List, [], ◌∷◌, length}
use Rattle.h5_bytes.specs.Blocks.{Inside}
use Rattle.h5_model.specs.Format.Rows.{leaves, row_below}
use Rattle.h5_model.specs.Format.Nodes.{IsNode, HasTree, node_at, node_bytes, node_length, tree_blocks}
use Rattle.h5_model.specs.Format.Reached.{level_at}
use Rattle.h5_btree.specs.Walk.Forms.{TreeForm, kind_of}

-- a node of a tree of this form stands in the image at this address
pub record IsNodeAt (image : List ℕ) (form : TreeForm) (at : ℕ) : Type 0 where
  pub formed : IsNode (kind_of image form) (node_bytes image (kind_of image form) at)
  pub inside : at + node_length (kind_of image form) ≤ length image

-- a tree of this form stands at this root, with its nodes in the image
pub record IsTreeAt (image : List ℕ) (form : TreeForm) (root : ℕ) : Type 0 where
  pub level : ℕ
  pub nodes : List ℕ
  pub leaves : List ℕ
  pub has : HasTree image (kind_of image form) root level nodes leaves
  pub inside : Inside (length image) (tree_blocks (kind_of image form) nodes)

-- the leaves of the tree at this root, from left to right
abbrev pub leaves_at : List ℕ → TreeForm → ℕ → List ℕ
leaves_at image form root = leaves (node_at image (kind_of image form)) (level_at image (kind_of image form) root) (root ∷ [])

-- its nodes of level 0, from left to right
abbrev pub bottom_at : List ℕ → TreeForm → ℕ → List ℕ
bottom_at image form root = row_below (node_at image (kind_of image form)) (level_at image (kind_of image form) root) (root ∷ [])

-- A tree as it stands in an image: its nodes, and its leaves (File Format Specification 3.0, sections III.A.1 and III.B).
use Rattle.std.specs.Prelude.{ℕ, List, [], ◌∷◌, ◌++◌, map}
use Rattle.std.specs.List.{AllByRecursion}
use Rattle.h5_bytes.specs.declared.Block.{Block}
use Rattle.h5_model.specs.Format.Rows.{row_below}
use Rattle.h5_model.specs.Format.Nodes.{node_at, tree_blocks, HasTree}
use Rattle.h5_btree.specs.Walk.Forms.{TreeForm, kind_of, leaf_block, IsFormed, IsKeyed}

-- The tree of this form at this root has these nodes, row by row from the root down, and these leaves, from left to right.
pub record IsTree (image : List ℕ) (form : TreeForm) (root : ℕ) (nodes leaves : List ℕ) : Type 0 where
  pub level : ℕ
  pub tree : HasTree image (kind_of image form) root level nodes leaves
  pub formed : AllByRecursion (IsFormed image form) leaves
  pub keyed : AllByRecursion (λ at. IsKeyed form (node_at image (kind_of image form) at)) (row_below (node_at image (kind_of image form)) level (root ∷ []))

-- the blocks of nodes and leaves
abbrev pub nodes_blocks : List ℕ → TreeForm → List ℕ → List ℕ → List Block
nodes_blocks image form nodes leaves = tree_blocks (kind_of image form) nodes ++ map (leaf_block image form) leaves

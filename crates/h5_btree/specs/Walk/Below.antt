-- What stands below the nodes of one level of a tree: the rows down to the leaves (File Format Specification 3.0, sections III.A.1
-- and III.B).
use Rattle.std.specs.Prelude.{◌≡◌, ℕ, zero, suc, ◌+◌, ◌≤◌, List, [], length}
use Rattle.std.specs.List.{AllByRecursion}
use Rattle.h5_bytes.specs.Blocks.{cover, Separate}
use Rattle.h5_bytes.specs.declared.Block.{Block}
use Rattle.h5_model.specs.Format.Rows.{Reading, next_row, leaves, nodes}
use Rattle.h5_model.specs.Format.Nodes.{IsNode, node_at, node_bytes, node_length, entries_in}
use Rattle.h5_btree.specs.Walk.Forms.{TreeForm, kind_of, leaf_length, IsFormed}
use Rattle.h5_btree.specs.Walk.Trees.{nodes_blocks}

-- what is read at each address as a node of a tree of this form
abbrev pub reading_in : List ℕ → TreeForm → Reading
reading_in image form = node_at image (kind_of image form)

-- a node of this level stands there, in the image
pub record IsStanding (image : List ℕ) (form : TreeForm) (level at : ℕ) : Type 0 where
  pub formed : IsNode (kind_of image form) (node_bytes image (kind_of image form) at)
  pub high : (reading_in image form at).level ≡ level
  pub there : at + node_length (kind_of image form) ≤ length image

-- and has a child
pub record IsInner (image : List ℕ) (form : TreeForm) (level at : ℕ) : Type 0 where
  pub stands : IsStanding image form level at
  pub some : 1 ≤ entries_in (node_bytes image (kind_of image form) at)

-- a leaf stands there, in the image
pub record IsBottom (image : List ℕ) (form : TreeForm) (at : ℕ) : Type 0 where
  pub formed : IsFormed image form at
  pub there : at + leaf_length image form ≤ length image

-- these stand below nodes of this level: below level 0 leaves, else nodes of the next level, and below them the same
abbrev pub AreBelow : List ℕ → TreeForm → ℕ → List ℕ → Type 0
AreBelow image form zero row = AllByRecursion (IsBottom image form) row
AreBelow image form (suc level) row = AllByRecursion (IsInner image form level) row × AreBelow image form level (next_row (reading_in image form) row)

-- the nodes, and the leaves, from a row below nodes of this level down
abbrev pub nodes_below : List ℕ → TreeForm → ℕ → List ℕ → List ℕ
nodes_below image form zero row = []
nodes_below image form (suc level) row = nodes (reading_in image form) level row

abbrev pub leaves_below : List ℕ → TreeForm → ℕ → List ℕ → List ℕ
leaves_below image form zero row = row
leaves_below image form (suc level) row = leaves (reading_in image form) level row

-- all from a row below nodes of this level down is read and claimed
pub record IsTakenBelow (image : List ℕ) (form : TreeForm) (level : ℕ) (row : List ℕ) (old now : List Block) : Type 0 where
  pub below : AreBelow image form level row
  pub claimed : (p : ℕ) → cover p now ≡ cover p old + cover p (nodes_blocks image form (nodes_below image form level row) (leaves_below image form level row))
  pub separate : Separate now

-- Trees whose blocks can all be claimed (File Format Specification 3.0, sections III.A.1 and III.B).
use Rattle.std.specs.Prelude.{ℕ, ◌+◌, ◌≤◌, List, length}
use Rattle.h5_bytes.specs.Blocks.{cover, Inside}
use Rattle.h5_bytes.specs.declared.Block.{Block}
use Rattle.h5_model.specs.Format.Limits.{highest_level}
use Rattle.h5_model.specs.Format.Rows.{Node}
use Rattle.h5_btree.specs.Walk.Forms.{TreeForm}
use Rattle.h5_btree.specs.Walk.Trees.{IsTree, nodes_blocks}
use Rattle.h5_btree.specs.Walk.Below.{AreBelow, nodes_below, leaves_below}
use Rattle.h5_btree.specs.Walk.Keyed.{AreKeyedBelow}

-- a tree stands at this root, in blocks that lie in the image and share no byte with each other or with what was claimed
pub record IsTreeReadable (image : List ℕ) (form : TreeForm) (root : ℕ) (held : List Block) : Type 0 where
  pub nodes : List ℕ
  pub leaves : List ℕ
  pub has : IsTree image form root nodes leaves
  pub inside : Inside (length image) (nodes_blocks image form nodes leaves)
  pub separate : (p : ℕ) → cover p held + cover p (nodes_blocks image form nodes leaves) ≤ 1

-- the same of all below a node of this level; the root of its tree was claimed
pub record AreReadableBelow (image : List ℕ) (form : TreeForm) (level : ℕ) (node : Node) (held : List Block) : Type 0 where
  pub root : ℕ
  pub rooted : 1 ≤ cover root held
  pub low : level ≤ highest_level
  pub below : AreBelow image form level node.children
  pub keyed : AreKeyedBelow image form level node
  pub separate : (p : ℕ) → cover p held
      + cover p (nodes_blocks image form (nodes_below image form level node.children) (leaves_below image form level node.children)) ≤ 1

-- The trees of an image's groups: the kind of their nodes, and the blocks of one (File Format Specification 3.0, sections III.A.1 and
-- III.B).
use Rattle.std.specs.Prelude.{ℕ, List, ◌++◌, map}
use Rattle.h5_bytes.specs.declared.Block.{Block}
use Rattle.h5_model.specs.Format.Superblock.{leaf_k, internal_k}
use Rattle.h5_model.specs.Format.Nodes.{Kind, group_kind, tree_blocks}
use Rattle.h5_model.specs.Format.Symbols.{symbol_block}

-- the kind of the trees of this image's groups
abbrev pub kind_in : List ℕ → Kind
kind_in image = group_kind (internal_k image)

-- the blocks of nodes and symbol nodes
abbrev pub group_nodes_blocks : List ℕ → List ℕ → List ℕ → List Block
group_nodes_blocks image nodes symbol_nodes = tree_blocks (kind_in image) nodes ++ map (symbol_block (leaf_k image)) symbol_nodes

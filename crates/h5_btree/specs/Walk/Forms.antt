-- The two forms of trees, that of a group and that of a dataset's chunks, and in what they differ (File Format Specification 3.0,
-- sections III.A.1 and III.B).
use Rattle.std.specs.Prelude.{ℕ, zero, suc, ◌+◌, ◌*◌, ◌<◌, List, [], length, slice_index_or, ⊤}
use Rattle.std.specs.List.{AllByRecursion}
use Rattle.h5_bytes.specs.Blocks.{block}
use Rattle.h5_bytes.specs.declared.Block.{Block}
use Rattle.h5_model.specs.Format.Superblock.{leaf_k, internal_k}
use Rattle.h5_model.specs.Format.Rows.{Node}
use Rattle.h5_model.specs.Format.Nodes.{Kind, group_kind}
use Rattle.h5_model.specs.Format.Symbols.{IsEntry, IsSymbolNode, symbol_bytes, symbols_at}
use Rattle.h5_model.specs.Format.Chunks.{IsChunkKey}
use Rattle.h5_model.specs.Format.Reached.{Shape, Role, GroupNode, SymbolNode, ChunkNode, Chunk, shape_kind}
use Rattle.h5_model.specs.Faults.TreeFaults.{SymbolBreach}

-- of which form a tree is; chunks have a shape
pub data TreeForm : Type 0 where
  OfGroup : TreeForm
  OfChunks : Shape → TreeForm

-- the kind of its nodes in this image
abbrev pub kind_of : List ℕ → TreeForm → Kind
kind_of image OfGroup = group_kind (internal_k image)
kind_of image (OfChunks shape) = shape_kind image shape

-- what a node of a level is to those that name it; the heap is the group's, and any number for chunks
abbrev pub node_role : TreeForm → ℕ → ℕ → ℕ → Role
node_role OfGroup root heap level = GroupNode root heap level
node_role (OfChunks shape) root heap level = ChunkNode shape root level

-- a leaf, to which a child of a node of level 0 leads, is a symbol node or a chunk
abbrev pub leaf_role : TreeForm → ℕ → ℕ → Role
leaf_role OfGroup root heap = SymbolNode root heap
leaf_role (OfChunks shape) root heap = Chunk shape.bytes

abbrev pub leaf_length : List ℕ → TreeForm → ℕ
leaf_length image OfGroup = 8 + 80 * leaf_k image
leaf_length image (OfChunks shape) = shape.bytes

abbrev pub leaf_block : List ℕ → TreeForm → ℕ → Block
leaf_block image form at = block at (leaf_length image form)

-- a leaf is of its form: a symbol node with entries of known cache types; a chunk may have any bytes
abbrev pub IsFormed : List ℕ → TreeForm → ℕ → Type 0
IsFormed image OfGroup at = IsSymbolNode (leaf_k image) (symbol_bytes image (leaf_k image) at) × AllByRecursion IsEntry (symbols_at image (leaf_k image) at)
IsFormed image (OfChunks shape) at = ⊤

-- a leaf breaks a rule of its form
abbrev pub LeafBreach : List ℕ → TreeForm → ℕ → Type 0
LeafBreach image OfGroup at = SymbolBreach image at
LeafBreach image (OfChunks shape) at = ⊥

-- key i of a node of level 0 is one that a leaf of this form may have
abbrev pub IsKeyedAt : TreeForm → Node → ℕ → Type 0
IsKeyedAt OfGroup node i = ⊤
IsKeyedAt (OfChunks shape) node i = IsChunkKey shape.sizes shape.bytes (slice_index_or node.keys i [])

abbrev pub IsKeyed : TreeForm → Node → Type 0
IsKeyed form node = (i : ℕ) → i < length node.children → IsKeyedAt form node i

-- what the children of a node of this level are
abbrev pub child_role : TreeForm → ℕ → ℕ → ℕ → Role
child_role form root heap zero = leaf_role form root heap
child_role form root heap (suc level) = node_role form root heap level

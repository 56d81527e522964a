-- What the image tells of the chunks of a shape in the tree at a root: its nodes, its chunks and its blocks (File Format
-- Specification 3.0, section III.A.1).
use Rattle.std.specs.Prelude.{ℕ, List, [], ◌∷◌, ◌++◌, map, length}
use Rattle.std.specs.FinMap.{from_sorted}
use Rattle.h5_bytes.specs.Blocks.{block}
use Rattle.h5_bytes.specs.declared.Block.{Block}
use Rattle.h5_model.specs.Format.Rows.{leaves, nodes, row_below}
use Rattle.h5_model.specs.Format.Nodes.{node_at, tree_blocks}
use Rattle.h5_model.specs.Format.Chunks.{Chunks, chunks_at}
use Rattle.h5_model.specs.Format.Reached.{Shape, level_at, shape_kind}

-- the nodes of its tree, row by row from the root down, and the addresses of the chunks below them, from left to right
abbrev pub chunk_nodes_told : List ℕ → Shape → ℕ → List ℕ
chunk_nodes_told image shape root =
    nodes (node_at image (shape_kind image shape)) (level_at image (shape_kind image shape) root) (root ∷ [])

abbrev pub addresses_told : List ℕ → Shape → ℕ → List ℕ
addresses_told image shape root =
    leaves (node_at image (shape_kind image shape)) (level_at image (shape_kind image shape) root) (root ∷ [])

-- its chunks from left to right, and as a map from offsets to addresses, where they ascend
abbrev pub listed_told : List ℕ → Shape → ℕ → List (List ℕ × ℕ)
listed_told image shape root =
    chunks_at (node_at image (shape_kind image shape)) (length shape.sizes)
    (row_below (node_at image (shape_kind image shape)) (level_at image (shape_kind image shape) root) (root ∷ []))

abbrev pub chunks_told : List ℕ → Shape → ℕ → Chunks
chunks_told image shape root = from_sorted (listed_told image shape root)

-- the blocks of its nodes and of its chunks
abbrev pub chunk_blocks_told : List ℕ → Shape → ℕ → List Block
chunk_blocks_told image shape root =
    tree_blocks (shape_kind image shape) (chunk_nodes_told image shape root)
    ++ map (λ at. block at shape.bytes) (addresses_told image shape root)

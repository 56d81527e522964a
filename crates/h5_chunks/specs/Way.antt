-- The way down a tree to the chunk at some offsets (File Format Specification 3.0, section III.A.1).
use Rattle.std.specs.Prelude.{◌≡◌, ℕ, ◌<◌, Bool, List, [], ◌∷◌, ◌++◌, Some, length, slice_get, slice_index_or}
use Rattle.std.specs.Ordering.{nat_cmp, is_le}
use Rattle.std.specs.Cmp.Lexicographic.{slice_cmp}
use Rattle.h5_model.specs.Format.Rows.{Node}
use Rattle.h5_model.specs.Format.Nodes.{Kind, node_at}
use Rattle.h5_model.specs.Format.Chunks.{all_offsets_in}
use Rattle.h5_model.specs.Format.Reached.{Shape, level_at, shape_kind}
use Rattle.h5_btree.specs.Descent.{EndsAt, IsInRow}

-- a chunk that is sought: K of the nodes of the image's trees of chunks, and its offsets
pub record SoughtOffsets : Type 0 where
  pub k : ℕ
  pub offsets : List ℕ

-- whether the chunk at these offsets, whose offset for the element is 0, stands behind a key
abbrev pub chunk_behind : List ℕ → List ℕ → Bool
chunk_behind offsets key = is_le (slice_cmp nat_cmp (all_offsets_in (length offsets) key) (offsets ++ 0 ∷ []))

-- the way from the root to it ends at child i of this node
abbrev pub EndsForChunk : List ℕ → Shape → ℕ → List ℕ → Node → ℕ → Type 0
EndsForChunk image shape root offsets node i =
    EndsAt (node_at image (shape_kind image shape)) (chunk_behind offsets) (level_at image (shape_kind image shape) root) root node i

-- Child i of a node of level 0 is the chunk at these offsets, and stands at this address: its key has the offsets, and 0 for the element.
pub record IsChunkThere (offsets : List ℕ) (node : Node) (i at : ℕ) : Type 0 where
  pub low : i < length node.children
  pub key : all_offsets_in (length offsets) (slice_index_or node.keys i []) ≡ offsets ++ 0 ∷ []
  pub child : slice_get node.children i ≡ Some at

-- the node is one of this level in some tree in the image
abbrev pub IsInSomeRow : List ℕ → Kind → ℕ → ℕ → Type 0
IsInSomeRow image kind level at = (owned : List ℕ) × (row : List ℕ) × IsInRow image kind owned level row at

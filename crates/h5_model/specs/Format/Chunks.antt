-- Chunked storage: a B-tree from the offsets of chunks to their addresses (File Format Specification 3.0, section III.A.1, node type 1).
use Rattle.std.specs.Prelude.{◌≡◌, ℕ, zero, suc, ◌+◌, ◌*◌, ◌%◌, ◌^◌, ◌<◌, IsTrue, List, [], ◌∷◌, ◌++◌, map, length, slice_index_or, take, drop}
use Rattle.std.specs.Ordering.{nat_cmp, is_lt, is_le}
use Rattle.std.specs.Cmp.Lexicographic.{slice_cmp}
use Rattle.std.specs.FinMap.{FinMap, entries, values}
use Rattle.std.specs.List.{flat_map, zip, AllByRecursion, AllZip}
use Rattle.h5_bytes.specs.Bytes.{number_at}
use Rattle.h5_bytes.specs.Blocks.{block}
use Rattle.h5_bytes.specs.declared.Block.{Block}
use Rattle.h5_model.specs.Format.Rows.{Node, Reading, row_below}
use Rattle.h5_model.specs.Format.Nodes.{chunk_kind, reading_of, HasTree, tree_blocks}
use Rattle.h5_model.specs.Format.Extent.{numbers_at}

-- the chunks that are stored: offsets, ascending, to addresses
abbrev pub Chunks : Type 0
Chunks = FinMap (slice_cmp nat_cmp) ℕ

-- a key's offset for each dimension; and with the one for the element behind them
abbrev pub offsets_in : ℕ → List ℕ → List ℕ
offsets_in rank key = numbers_at key 8 rank

abbrev pub all_offsets_in : ℕ → List ℕ → List ℕ
all_offsets_in rank key = numbers_at key 8 (rank + 1)

-- the offset is a multiple of the chunk's size, and below 2^63
pub record IsOffset (size offset : ℕ) : Type 0 where
  pub multiple : offset % size ≡ 0
  pub small : offset < 2 ^ 63

-- the key is that of a whole chunk of these sizes and so many bytes
pub record IsChunkKey (sizes : List ℕ) (bytes : ℕ) (key : List ℕ) : Type 0 where
  pub stored : number_at key 0 4 ≡ bytes
  pub unfiltered : number_at key 4 4 ≡ 0
  pub aligned : AllZip IsOffset sizes (offsets_in (length sizes) key)
  pub element : number_at key (8 + 8 * length sizes) 8 ≡ 0

-- the chunks of a node at level 0: the offsets in key i, and the address of child i
abbrev pub chunks_in : ℕ → Node → List (List ℕ × ℕ)
chunks_in rank node = zip (map (offsets_in rank) node.keys) node.children

abbrev pub chunks_at : Reading → ℕ → List ℕ → List (List ℕ × ℕ)
chunks_at V rank row = flat_map (λ at. chunks_in rank (V at)) row

-- the chunks below child i of a node of a tree
abbrev pub chunks_below : Reading → ℕ → Node → ℕ → List (List ℕ × ℕ)
chunks_below V rank node i = below node.level where
  below : ℕ → List (List ℕ × ℕ)
  below zero = take 1 (drop i (chunks_in rank node))
  below (suc level) = chunks_at V rank (row_below V level (slice_index_or node.children i 0 ∷ []))

-- the chunk, whose offset for the element is 0, is at or above key i of the node and below key i+1
abbrev pub IsChunkBetween : ℕ → Node → ℕ → (List ℕ × ℕ) → Type 0
IsChunkBetween rank node i chunk =
    IsTrue (is_le (slice_cmp nat_cmp (all_offsets_in rank (slice_index_or node.keys i [])) (chunk.0 ++ 0 ∷ [])))
    × IsTrue (is_lt (slice_cmp nat_cmp (chunk.0 ++ 0 ∷ []) (all_offsets_in rank (slice_index_or node.keys (i + 1) []))))

-- the chunks below each child of a node lie between the keys around it
abbrev pub IsChunkOrdered : Reading → ℕ → Node → Type 0
IsChunkOrdered V rank node = (i : ℕ) → i < length node.children → AllByRecursion (IsChunkBetween rank node i) (chunks_below V rank node i)

-- each key of a node at level 0 but the last is that of a chunk
abbrev pub HasChunkKeys : List ℕ → ℕ → Node → Type 0
HasChunkKeys sizes bytes node = AllByRecursion (IsChunkKey sizes bytes) (take (length node.children) node.keys)

-- These chunks stand in a tree that is read as V: chunk sizes, bytes of a chunk. Offsets ascend over the whole tree.
pub record AreChunks (V : Reading) (sizes : List ℕ) (bytes root level : ℕ) (owned : List ℕ) (chunks : Chunks) : Type 0 where
  pub listed : entries chunks ≡ chunks_at V (length sizes) (row_below V level (root ∷ []))
  pub keyed : AllByRecursion (λ at. HasChunkKeys sizes bytes (V at)) (row_below V level (root ∷ []))
  pub ordered : AllByRecursion (λ at. IsChunkOrdered V (length sizes) (V at)) owned

-- These chunks stand in the tree at this root, in these blocks.
pub record HasChunks (image : List ℕ) (k : ℕ) (sizes : List ℕ) (bytes root : ℕ) (chunks : Chunks) (blocks : List Block) : Type 0 where
  pub level : ℕ
  pub owned : List ℕ
  pub tree : HasTree image (chunk_kind k (length sizes)) root level owned (values chunks)
  pub listed : AreChunks (reading_of image (chunk_kind k (length sizes)) owned) sizes bytes root level owned chunks
  pub laid : blocks ≡ tree_blocks (chunk_kind k (length sizes)) owned ++ map (λ at. block at bytes) (values chunks)

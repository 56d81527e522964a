-- Rules that nodes of B-trees, symbol nodes, heaps and chunks break (File Format Specification 3.0, section III).
use Rattle.std.specs.Prelude.{◌≡◌, ◌≢◌, ℕ, ◌*◌, ◌<◌, ◌≤◌, ◌==◌, ◌&&◌, ◌⊎◌, IsTrue, not, List, [], ◌∷◌, ◌++◌, map, take, length, slice_index_or}
use Rattle.std.specs.Ordering.{nat_cmp, is_lt}
use Rattle.std.specs.Cmp.Lexicographic.{slice_cmp}
use Rattle.std.specs.List.{flat_map, Contains}
use Rattle.h5_bytes.specs.Bytes.{byte_at, part, undefined_address}
use Rattle.h5_bytes.specs.Texts.{text_at}
use Rattle.h5_bytes.specs.declared.Block.{Block}
use Rattle.h5_model.specs.Format.Limits.{highest_level}
use Rattle.h5_model.specs.Format.Superblock.{leaf_k, internal_k}
use Rattle.h5_model.specs.Format.Heap.{heap_header, segment_of, IsHeap, HasNames}
use Rattle.h5_model.specs.Format.Rows.{first_or_undefined, row_below, nodes}
use Rattle.h5_model.specs.Format.Nodes.{Kind, group_kind, node_signature, node_bytes, node_at, entries_in, key_in, HasTree}
use Rattle.h5_model.specs.Format.Symbols.{Entry, symbol_signature, symbol_bytes, symbols_in, symbols_at, texts_of}
use Rattle.h5_model.specs.Format.Links.{Before, IsOrdered, key_offsets}
use Rattle.h5_model.specs.Tree.Paths.{is_name}
use Rattle.h5_model.specs.Format.Chunks.{IsChunkKey, IsChunkOrdered, chunks_in, chunks_at}
use Rattle.h5_model.specs.Format.Reached.{Shape, shape_kind, level_at, entry_in}

-- a node of this kind, in the tree of this root, is not of this level and form
abbrev pub NodeBreach : List ℕ → Kind → ℕ → ℕ → ℕ → Type 0
NodeBreach image kind root level at =
    (part 0 4 (node_bytes image kind at) ≢ node_signature) ⊎ ((byte_at (node_bytes image kind at) 4 ≢ kind.type_byte)
    ⊎ ((level_at image kind at ≢ level) ⊎ ((highest_level < level) ⊎ ((2 * kind.k < entries_in (node_bytes image kind at))
    ⊎ ((entries_in (node_bytes image kind at) ≡ 0) × IsTrue (not (at == root && level == 0)))))))

-- a symbol node is not of its form, or has an entry of another cache type than the three
abbrev pub SymbolBreach : List ℕ → ℕ → Type 0
SymbolBreach image at =
    (part 0 4 (symbol_bytes image (leaf_k image) at) ≢ symbol_signature) ⊎ ((byte_at (symbol_bytes image (leaf_k image) at) 4 ≢ 1)
    ⊎ ((2 * leaf_k image < symbols_in (symbol_bytes image (leaf_k image) at))
    ⊎ ((i : ℕ) × (i < symbols_in (symbol_bytes image (leaf_k image) at)) × (2 < (entry_in image at i).cache))))

-- the nearest of these, or the undefined address
abbrev pub last_or_undefined : List ℕ → ℕ
last_or_undefined [] = undefined_address
last_or_undefined (n ∷ []) = n
last_or_undefined (n ∷ m ∷ more) = last_or_undefined (m ∷ more)

-- a node of a row does not name its neighbours
abbrev pub SiblingBreach : List ℕ → Kind → ℕ → ℕ → Type 0
SiblingBreach image kind root at = (depth : ℕ) × (before : List ℕ) × (after : List ℕ)
    × (depth ≤ level_at image kind root) × (row_below (node_at image kind) depth (root ∷ []) ≡ before ++ at ∷ after)
    × (((node_at image kind at).left ≢ last_or_undefined before) ⊎ ((node_at image kind at).right ≢ first_or_undefined after))

-- one of these that stands before item i is not below it
abbrev pub Falls : {X : Type 0} → (X → X → Type 0) → List X → List X → Type 0
Falls {X} Below earlier here = (i : ℕ) × (x : X) × (y : X) × (i < length here) × (slice_index_or here i y ≡ y)
    × Contains (earlier ++ take i here) x × (Below x y → ⊥)

-- the symbol nodes of a group's tree
abbrev pub HasSymbolNodes : List ℕ → ℕ → List ℕ → Type 0
HasSymbolNodes image root symbol_nodes = (level : ℕ) × (owned : List ℕ) × HasTree image (group_kind (internal_k image)) root level owned symbol_nodes

abbrev pub all_entries : List ℕ → List ℕ → List Entry
all_entries image symbol_nodes = flat_map (symbols_at image (leaf_k image)) symbol_nodes

abbrev pub NameBreach : List ℕ → ℕ → ℕ → ℕ → Type 0
NameBreach image root heap at = (before : List ℕ) × (after : List ℕ) × HasSymbolNodes image root (before ++ at ∷ after)
    × Falls (λ (e : Entry) (f : Entry). Before (text_at (segment_of image heap) e.name) (text_at (segment_of image heap) f.name))
    (all_entries image before) (symbols_at image (leaf_k image) at)

-- the offsets in all keys of a group's tree
abbrev pub all_key_offsets : List ℕ → ℕ → List ℕ
all_key_offsets image root =
    key_offsets (node_at image (group_kind (internal_k image))) (nodes (node_at image (group_kind (internal_k image))) (level_at image (group_kind (internal_k image)) root) (root ∷ []))

-- however the keys that name no link's span are listed, the spans are not separate, or not in the segment; the free list is sound
abbrev pub HeapNameBreach : List ℕ → ℕ → ℕ → Type 0
HeapNameBreach image root heap = (symbol_nodes : List ℕ) × HasSymbolNodes image root symbol_nodes
    × (free : List Block) × IsHeap (heap_header image heap) (segment_of image heap) free
    × ((loose : List ℕ) → HasNames (segment_of image heap) free (map (λ (e : Entry). e.name) (all_entries image symbol_nodes))
    (texts_of (all_entries image symbol_nodes)) (all_key_offsets image root) loose → ⊥)

abbrev pub BadNameBreach : List ℕ → ℕ → ℕ → Type 0
BadNameBreach image root heap = (symbol_nodes : List ℕ) × (e : Entry) × HasSymbolNodes image root symbol_nodes
    × Contains (all_entries image symbol_nodes) e × IsTrue (not (is_name (text_at (segment_of image heap) e.name)))

-- the names below a node's children are not between its keys, or its keys fall
abbrev pub KeyBreach : List ℕ → ℕ → ℕ → Type 0
KeyBreach image heap at =
    IsOrdered (node_at image (group_kind (internal_k image))) (symbols_at image (leaf_k image)) (segment_of image heap)
    (node_at image (group_kind (internal_k image)) at) → ⊥

-- the chunks of the nodes at level 0 do not ascend
abbrev pub ChunksDescend : List ℕ → Shape → ℕ → ℕ → Type 0
ChunksDescend image shape root at = (before : List ℕ) × (after : List ℕ)
    × (row_below (node_at image (shape_kind image shape)) (level_at image (shape_kind image shape) root) (root ∷ []) ≡ before ++ at ∷ after)
    × Falls (λ (c : List ℕ × ℕ) (d : List ℕ × ℕ). IsTrue (is_lt (slice_cmp nat_cmp c.0 d.0)))
    (chunks_at (node_at image (shape_kind image shape)) (length shape.sizes) before) (chunks_in (length shape.sizes) (node_at image (shape_kind image shape) at))

-- the chunks below a node's children are not between its keys, or chunks do not ascend
abbrev pub ChunkOrderBreach : List ℕ → Shape → ℕ → ℕ → ℕ → Type 0
ChunkOrderBreach image shape root level at =
    (IsChunkOrdered (node_at image (shape_kind image shape)) (length shape.sizes) (node_at image (shape_kind image shape) at) → ⊥)
    ⊎ ((level ≡ 0) × ChunksDescend image shape root at)

-- key i of a node at level 0 is not that of a chunk
abbrev pub ChunkKeyBreach : List ℕ → Shape → ℕ → ℕ → Type 0
ChunkKeyBreach image shape level at = (level ≡ 0) × ((i : ℕ) × (i < entries_in (node_bytes image (shape_kind image shape) at))
    × (IsChunkKey shape.sizes shape.bytes (key_in (shape_kind image shape) (node_bytes image (shape_kind image shape) at) i) → ⊥))

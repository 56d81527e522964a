-- Blocks that are reached: those that the superblock names, and those that a field of a reached block names (File Format
-- Specification 3.0, sections II.A, III and IV.A). What is read here may be any bytes.
use Rattle.std.specs.Prelude.{◌≡◌, ◌≢◌, ℕ, ◌+◌, ◌-◌, ◌*◌, ◌%◌, ◌<◌, ◌≤◌, ◌==◌, ◌⊎◌, if◌then◌else◌, Option, Some, List, [], ◌∷◌, length, option_and_then}
use Rattle.std.specs.List.{flat_map, find}
use Rattle.h5_bytes.specs.Bytes.{number_at, part}
use Rattle.h5_bytes.specs.Blocks.{block, Inside}
use Rattle.h5_bytes.specs.declared.Block.{Block}
use Rattle.h5_model.specs.Format.Limits.{highest_level}
use Rattle.h5_model.specs.Format.Superblock.{superblock_length, leaf_k, internal_k, chunk_k, root_header, root_header_place}
use Rattle.h5_model.specs.Format.MessageTypes.{dataspace_kind, datatype_kind, data_layout_kind, continuation_kind, symbol_table_kind}
use Rattle.h5_model.specs.Format.Messages.{Message, FillBlocks, continuations, prefix_at, first_size, first_block, first_body}
use Rattle.h5_model.specs.Format.Nodes.{Kind, group_kind, chunk_kind, node_bytes, node_length, entries_in, key_place, child_in, node_at}
use Rattle.h5_model.specs.Format.Symbols.{Entry, symbol_bytes, symbols_in, entry_of}
use Rattle.h5_model.specs.Format.Heap.{heap_header, segment_place, segment_size}
use Rattle.h5_model.specs.Format.Fixed.{Fixed}
use Rattle.h5_model.specs.Tree.Places.{cells}
use Rattle.h5_model.specs.Format.Extent.{Extent, extent_of}
use Rattle.h5_model.specs.Format.Datatype.{fixed_of}
use Rattle.h5_model.specs.Format.Layout.{Layout, InBlock, InChunks, layout_of}

-- ---- messages that are met

-- the type and the body's size in the head of a message at a place of the image
abbrev pub kind_at : List ℕ → ℕ → ℕ
kind_at image at = number_at image at 2

abbrev pub size_at : List ℕ → ℕ → ℕ
size_at image at = number_at image (at + 2) 2

-- The place is where a message of this header begins, or the end of its block: a block's start, or behind a message that fits.
pub data Met (image : List ℕ) (header : ℕ) : ℕ → ℕ → Type 0 where
  at_start : {at : ℕ} → {end : ℕ} → at ≡ header + 16 → end ≡ at + first_size (prefix_at image header) → Met image header at end
  behind : {before : ℕ} → {end : ℕ} → {at : ℕ} → Met image header before end → before + 8 ≤ end → size_at image before % 8 ≡ 0
      → at ≡ before + 8 + size_at image before → at ≤ end → Met image header at end
  in_continuation : {from : ℕ} → {until : ℕ} → {at : ℕ} → {end : ℕ} → Met image header from until → from + 8 + size_at image from ≤ until
      → kind_at image from ≡ continuation_kind → 16 ≤ size_at image from
      → at ≡ number_at image (from + 8) 8 → end ≡ at + number_at image (from + 16) 8 → Met image header at end

-- a message begins at a place, with its head inside the block
pub record MessageAt (image : List ℕ) (header at : ℕ) : Type 0 where
  pub end : ℕ
  pub met : Met image header at end
  pub inside : at + 8 ≤ end

-- a message begins there that fits its block
abbrev pub FittingAt : List ℕ → ℕ → ℕ → Type 0
FittingAt image header at = (m : MessageAt image header at) × (at + 8 + size_at image at ≤ m.end)

-- all messages of the header, whatever their total says; its blocks are there
abbrev pub AllMessages : List ℕ → ℕ → List Message → Type 0
AllMessages image header messages = (parts : List (List Message))
    × FillBlocks image (first_block image header ∷ []) parts × (messages ≡ flat_map (λ ms. ms) parts)
    × Inside (length image) (first_block image header ∷ continuations messages)

-- what the messages say of sizes, of the type, and of the layout
abbrev pub extent_among : List Message → Option Extent
extent_among messages = option_and_then extent_of (first_body dataspace_kind messages)

abbrev pub type_among : List Message → Option Fixed
type_among messages = option_and_then fixed_of (first_body datatype_kind messages)

abbrev pub layout_by : List Message → Extent → Fixed → Option Layout
layout_by messages extent t = option_and_then (layout_of extent.sizes t.size) (first_body data_layout_kind messages)

abbrev pub layout_among : List Message → Option Layout
layout_among messages = option_and_then (λ extent. option_and_then (layout_by messages extent) (type_among messages)) (extent_among messages)

-- ---- what a field names

-- what the chunks of a dataset have in common: their sizes, and their bytes
pub record Shape : Type 0 where
  pub sizes : List ℕ
  pub bytes : ℕ

-- What kind of block a field names. A continuation has its header; nodes have the root of their tree, and their level; blocks of
-- a group have its heap or the root of its tree.
pub data Role : Type 0 where
  ObjectHeader : Role
  Continuation : ℕ → Role
  GroupNode : ℕ → ℕ → ℕ → Role
  SymbolNode : ℕ → ℕ → Role
  HeapHeader : ℕ → Role
  Segment : Role
  Data : Role
  ChunkNode : Shape → ℕ → ℕ → Role
  Chunk : ℕ → Role

-- a field at a place names a block, so many links below the root
pub record Named : Type 0 where
  pub field : ℕ
  pub role : Role
  pub at : ℕ
  pub depth : ℕ

abbrev pub naming_of : ℕ → Role → ℕ → ℕ → Named
naming_of field role at depth = record { field = field; role = role; at = at; depth = depth }

-- the level that the node at an address says
abbrev pub level_at : List ℕ → Kind → ℕ → ℕ
level_at image kind at = (node_at image kind at).level

abbrev pub group_root : List ℕ → ℕ → ℕ → Role
group_root image root heap = GroupNode root heap (level_at image (group_kind (internal_k image)) root)

-- the kind of the tree of chunks of this shape
abbrev pub shape_kind : List ℕ → Shape → Kind
shape_kind image shape = chunk_kind (chunk_k image) (length shape.sizes)

abbrev pub chunk_root : List ℕ → Shape → ℕ → Role
chunk_root image shape root = ChunkNode shape root (level_at image (shape_kind image shape) root)

-- a Continuation at this place names a block of messages; a Symbol Table names a tree and a heap
abbrev pub FromMessage : List ℕ → ℕ → ℕ → ℕ → Named → Type 0
FromMessage image header depth at y =
    ((kind_at image at ≡ continuation_kind) × (y ≡ naming_of (at + 8) (Continuation header) (number_at image (at + 8) 8) depth))
    ⊎ (((kind_at image at ≡ symbol_table_kind) × (y ≡ naming_of (at + 8) (group_root image (number_at image (at + 8) 8) (number_at image (at + 16) 8)) (number_at image (at + 8) 8) depth))
    ⊎ ((kind_at image at ≡ symbol_table_kind) × (y ≡ naming_of (at + 16) (HeapHeader (number_at image (at + 8) 8)) (number_at image (at + 16) 8) depth)))

-- a Data Layout message names a block of data, or a tree of chunks; the undefined address names none
abbrev pub FromLayout : List ℕ → List Message → ℕ → Named → Type 0
FromLayout image messages depth y = (m : Message) × (t : Fixed) × (layout : Layout)
    × (find (λ x. x.kind == data_layout_kind) messages ≡ Some m) × (type_among messages ≡ Some t)
    × (layout_among messages ≡ Some layout) × Gives m t layout where
      Gives : Message → Fixed → Layout → Type 0
      Gives m t (InBlock (Some b)) = y ≡ naming_of (m.at + 2) Data b.at depth
      Gives m t (InChunks sizes (Some root)) = y ≡ naming_of (m.at + 3) (chunk_root image (record { sizes = sizes; bytes = cells sizes * t.size }) root) root depth
      Gives m t _ = ⊥

abbrev pub FromHeader : List ℕ → ℕ → ℕ → Named → Type 0
FromHeader image header depth y =
    ((at : ℕ) × FittingAt image header at × (16 ≤ size_at image at) × FromMessage image header depth at y)
    ⊎ ((messages : List Message) × AllMessages image header messages × FromLayout image messages depth y)

-- child i of a node, of the role below the node's, where the node has room for it
abbrev pub FromNode : List ℕ → Kind → Role → ℕ → ℕ → Named → Type 0
FromNode image kind below node depth y = (i : ℕ) × (i < entries_in (node_bytes image kind node)) × (i < 2 * kind.k)
    × (y ≡ naming_of (node + key_place kind i + kind.key_length) below (child_in kind (node_bytes image kind node) i) depth)

-- entry i of a symbol node
abbrev pub entry_in : List ℕ → ℕ → ℕ → Entry
entry_in image node i = entry_of (part (8 + 40 * i) 40 (symbol_bytes image (leaf_k image) node))

-- the header that entry i of a symbol node names, where it is no soft link and the node has room for it
abbrev pub FromSymbols : List ℕ → ℕ → ℕ → Named → Type 0
FromSymbols image node depth y = (i : ℕ) × (i < symbols_in (symbol_bytes image (leaf_k image) node)) × (i < 2 * leaf_k image)
    × ((entry_in image node i).cache ≢ 2) × (y ≡ naming_of (node + 16 + 40 * i) ObjectHeader (entry_in image node i).header (depth + 1))

-- a field of the block of this role at this address is y; a node of a level that no tree has names nothing
abbrev pub Names : List ℕ → Role → ℕ → ℕ → Named → Type 0
Names image ObjectHeader header depth y = FromHeader image header depth y
Names image (Continuation header) at depth y = ⊥
Names image (GroupNode root heap level) node depth y = (level ≤ highest_level)
    × FromNode image (group_kind (internal_k image)) (if level == 0 then SymbolNode root heap else GroupNode root heap (level - 1)) node depth y
Names image (SymbolNode root heap) node depth y = FromSymbols image node depth y
Names image (HeapHeader root) heap depth y = y ≡ naming_of (heap + 24) Segment (segment_place (heap_header image heap)) depth
Names image Segment at depth y = ⊥
Names image Data at depth y = ⊥
Names image (ChunkNode shape root level) node depth y = (level ≤ highest_level)
    × FromNode image (shape_kind image shape) (if level == 0 then Chunk shape.bytes else ChunkNode shape root (level - 1)) node depth y
Names image (Chunk bytes) at depth y = ⊥

-- ---- what is reached

-- The superblock names it, or a field of a block that is reached does. Each such field is an address of 8 bytes, and is there.
pub data Reached (image : List ℕ) : Named → Type 0 where
  by_superblock : {x : Named} → superblock_length image ≤ length image → x ≡ naming_of (root_header_place image) ObjectHeader (root_header image) 0 → Reached image x
  by_block : {x : Named} → {y : Named} → Reached image x → Names image x.role x.at x.depth y → y.field + 8 ≤ length image → Reached image y

-- the length of the block that a field names
abbrev pub length_by : List ℕ → Named → Role → ℕ
length_by image x ObjectHeader = 16 + first_size (prefix_at image x.at)
length_by image x (Continuation header) = number_at image (x.field + 8) 8
length_by image x (GroupNode root heap level) = node_length (group_kind (internal_k image))
length_by image x (SymbolNode root heap) = 8 + 80 * leaf_k image
length_by image x (HeapHeader root) = 32
length_by image x Segment = segment_size (heap_header image (x.field - 24))
length_by image x Data = number_at image (x.field + 8) 8
length_by image x (ChunkNode shape root level) = node_length (shape_kind image shape)
length_by image x (Chunk bytes) = bytes

abbrev pub length_of : List ℕ → Named → ℕ
length_of image x = length_by image x x.role

abbrev pub block_of : List ℕ → Named → Block
block_of image x = block x.at (length_of image x)

-- the bytes that a block's rules speak of are there: a header's prefix, else the whole block
abbrev pub IsThere : List ℕ → Named → Role → Type 0
IsThere image x ObjectHeader = x.at + 16 ≤ length image
IsThere image x _ = x.at + length_of image x ≤ length image

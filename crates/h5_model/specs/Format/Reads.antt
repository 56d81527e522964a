-- What an image says: the tree of objects whose headers stand in it (File Format Specification 3.0, section IV.A; kept messages are
-- those of IV.A.2.n, IV.A.2.o and IV.A.2.s).
use Rattle.std.specs.Prelude.{◌≡◌, ℕ, ◌+◌, ◌*◌, ◌≤◌, ◌==◌, ◌||◌, Bool, IsTrue, IsSome, if◌then◌else◌, Some, None, List, [], ◌∷◌, ◌++◌, map, length, option_and_then}
use Rattle.std.specs.Ordering.{nat_cmp, eq_by_cmp}
use Rattle.std.specs.Cmp.Lexicographic.{slice_cmp}
use Rattle.std.specs.FinMap.{FinMap, get, entries, from_entries, empty}
use Rattle.std.specs.List.{flat_map, filter, AllByRecursion, AllZip, IsDistinct}
use Rattle.h5_bytes.specs.Blocks.{block, Separate, Inside}
use Rattle.h5_bytes.specs.declared.Block.{Block}
use Rattle.h5_model.specs.Format.Limits.{most_names, most_cells, most_hard_links}
use Rattle.h5_model.specs.Format.Superblock.{IsSuperblock, superblock_length, leaf_k, internal_k, chunk_k, end_of_file, root_header}
use Rattle.h5_model.specs.Format.MessageTypes.{nil_kind, dataspace_kind, datatype_kind, old_fill_value_kind, fill_value_kind, data_layout_kind, attribute_kind, comment_kind, old_modification_time_kind, continuation_kind, symbol_table_kind, modification_time_kind}
use Rattle.h5_model.specs.Format.Messages.{Message, HasMessages, count_of, first_body, prefix_at, reference_count}
use Rattle.h5_model.specs.Format.Addresses.{SymbolTable, symbol_table_of}
use Rattle.h5_model.specs.Format.Symbols.{Target, Header, Text}
use Rattle.h5_model.specs.Format.Links.{HasLinks}
use Rattle.h5_model.specs.Format.Fixed.{Fixed}
use Rattle.h5_model.specs.Tree.Places.{cells, extent_cells}
use Rattle.h5_model.specs.Format.Layout.{Layout, InMessage, InBlock, InChunks}
use Rattle.h5_model.specs.Format.AttributeBody.{attribute_of}
use Rattle.h5_model.specs.Format.Chunks.{Chunks, HasChunks}
use Rattle.h5_model.specs.Format.Cells.{cells_of}
use Rattle.h5_model.specs.Format.Described.{array_of, HasArray, storage_of}
use Rattle.h5_model.specs.Tree.Objects.{Tree, Object, Content, Group, Array, Dataset, Link, ToObject, Soft, Attribute, Attributes, Kept, follow, hard_links, links_of}

-- ---- what every header may have

-- Comment and the two Modification Times are kept as they stand
abbrev pub is_kept : Message → Bool
is_kept m = (m.kind == comment_kind || m.kind == old_modification_time_kind) || m.kind == modification_time_kind

abbrev pub kept_of : Message → Kept
kept_of m = record { kind = m.kind; body = m.body }

abbrev pub is_attribute_message : Message → Bool
is_attribute_message m = m.kind == attribute_kind

-- NIL, Continuation, Attribute and kept messages
abbrev pub is_common : Message → Bool
is_common m = (m.kind == nil_kind || m.kind == continuation_kind) || (is_attribute_message m || is_kept m)

-- The attribute messages are these, of different names.
pub record HasAttributes (messages : List Message) (attributes : Attributes) : Type 0 where
  pub listed : List (List ℕ × Attribute)
  pub each : AllZip (λ (m : Message) a. attribute_of m.body ≡ Some a) (filter is_attribute_message messages) listed
  pub distinct : IsDistinct (eq_by_cmp (slice_cmp nat_cmp)) (map (λ a. a.0) listed)
  pub small : AllByRecursion (λ (a : List ℕ × Attribute). extent_cells (a.1).sizes ≤ most_cells) listed
  pub all : attributes ≡ from_entries listed

-- ---- groups

-- what a group's header may hold
abbrev pub InGroup : Message → Type 0
InGroup m = IsTrue (m.kind == symbol_table_kind || is_common m)

-- The messages of a header are those of a group with these links.
pub record HasGroup (image : List ℕ) (messages : List Message) (links : List (List ℕ × Target)) (blocks : List Block) : Type 0 where
  pub known : AllByRecursion InGroup messages
  pub once : count_of symbol_table_kind messages ≡ 1
  pub symbol_table : SymbolTable
  pub chosen : option_and_then symbol_table_of (first_body symbol_table_kind messages) ≡ Some symbol_table
  pub linked : HasLinks image (leaf_k image) (internal_k image) symbol_table.tree symbol_table.heap links blocks

-- a link of the tree is the one that the file has, where the table says which object stands at which header
abbrev pub IsSame : FinMap nat_cmp ℕ → (List ℕ × Link) → (List ℕ × Target) → Type 0
IsSame table (name, ToObject number) (name', Header header) = (name ≡ name') × (get table number ≡ Some header)
IsSame table (name, ToObject number) (name', Text text) = ⊥
IsSame table (name, Soft text) (name', Header header) = ⊥
IsSame table (name, Soft text) (name', Text text') = (name ≡ name') × (text ≡ text')

-- ---- datasets

-- what a dataset's header may hold
abbrev pub InDataset : Message → Type 0
InDataset m = IsTrue (((m.kind == dataspace_kind || m.kind == datatype_kind) || (m.kind == old_fill_value_kind || m.kind == fill_value_kind))
    || (m.kind == data_layout_kind || is_common m))

-- The stored chunks of a layout, and the blocks of its data.
abbrev pub HasData : List ℕ → Fixed → Layout → Chunks → List Block → Type 0
HasData image t (InMessage data_bytes) chunks blocks = (chunks ≡ empty) × (blocks ≡ [])
HasData image t (InBlock None) chunks blocks = (chunks ≡ empty) × (blocks ≡ [])
HasData image t (InBlock (Some b)) chunks blocks = (chunks ≡ empty) × (blocks ≡ b ∷ [])
HasData image t (InChunks chunk_sizes None) chunks blocks = (chunks ≡ empty) × (blocks ≡ [])
HasData image t (InChunks chunk_sizes (Some root)) chunks blocks = HasChunks image (chunk_k image) chunk_sizes (cells chunk_sizes * t.size) root chunks blocks

-- The messages of a header are those of this dataset.
pub record HasDataset (image : List ℕ) (messages : List Message) (d : Dataset) (blocks : List Block) : Type 0 where
  pub known : AllByRecursion InDataset messages
  pub layout : Layout
  pub array : HasArray messages (array_of d.fixed d.sizes d.maxima d.fill layout)
  pub storage : d.storage ≡ storage_of d.sizes layout
  pub chunks : Chunks
  pub stored : HasData image d.fixed layout chunks blocks
  pub cells : d.cells ≡ cells_of image d.fixed d.fill d.sizes layout chunks

-- ---- objects

abbrev pub HasContent : List ℕ → FinMap nat_cmp ℕ → List Message → Content → List Block → Type 0
HasContent image table messages (Group links) blocks =
    (found : List (List ℕ × Target)) × HasGroup image messages found blocks × AllZip (IsSame table) (entries links) found
HasContent image table messages (Array d) blocks = HasDataset image messages d blocks

-- The header at this place is that of this object, with these blocks.
pub record HasObject (image : List ℕ) (table : FinMap nat_cmp ℕ) (header : ℕ) (object : Object) (blocks : List Block) : Type 0 where
  pub messages : List Message
  pub header_blocks : List Block
  pub listed : HasMessages image header messages header_blocks
  pub content_blocks : List Block
  pub content : HasContent image table messages object.content content_blocks
  pub attributes : HasAttributes messages object.attributes
  pub kept : object.kept ≡ map kept_of (filter is_kept messages)
  pub laid : blocks ≡ header_blocks ++ content_blocks

-- an object, where its header stands, and the blocks that are its own
pub record Placed : Type 0 where
  pub number : ℕ
  pub header : ℕ
  pub object : Object
  pub blocks : List Block

abbrev pub IsPlaced : List ℕ → FinMap nat_cmp ℕ → Placed → Type 0
IsPlaced image table x = HasObject image table x.header x.object x.blocks

abbrev pub IsGroup : Content → Type 0
IsGroup (Group links) = Unit {0}
IsGroup (Array d) = ⊥

-- The count is the number of hard links, and 1 for the root, which no link names; a group has one.
pub record IsCounted (image : List ℕ) (tree : Tree) (x : Placed) : Type 0 where
  pub counted : reference_count (prefix_at image x.header) ≡ hard_links tree x.number + (if x.number == 0 then 1 else 0)
  pub once : IsGroup x.object.content → reference_count (prefix_at image x.header) ≡ 1
  pub limit : hard_links tree x.number ≤ most_hard_links

-- ---- the whole image

-- all blocks of an image: the superblock's, and those of its objects
abbrev pub all_blocks : List ℕ → List Placed → List Block
all_blocks image placed = block 0 (superblock_length image) ∷ flat_map (λ x. x.blocks) placed

-- The image holds this tree, with the objects' headers where the table says, each object with its blocks, reference counts aside.
pub record Holds (image : List ℕ) (table : FinMap nat_cmp ℕ) (tree : Tree) (placed : List Placed) : Type 0 where
  pub superblock : IsSuperblock image
  pub whole : end_of_file image ≡ length image
  pub numbered : entries table ≡ map (λ x. (x.number, x.header)) placed
  pub objects : entries tree ≡ map (λ x. (x.number, x.object)) placed
  pub each : AllByRecursion (IsPlaced image table) placed
  pub own : (a b header : ℕ) → get table a ≡ Some header → get table b ≡ Some header → a ≡ b
  pub root : get table 0 ≡ Some (root_header image)
  pub root_group : IsSome (links_of tree 0)
  pub reached : (number : ℕ) → IsSome (get tree number) → (path : List (List ℕ)) × (follow tree (ToObject 0) path ≡ Some (ToObject number))
  pub shallow : (path : List (List ℕ)) → IsSome (follow tree (ToObject 0) path) → length path ≤ most_names
  pub apart : Separate (all_blocks image placed)
  pub within : Inside (length image) (all_blocks image placed)

-- The image is this tree: it holds the tree, and each object's reference count is the number of its links.
pub record ReadsAs (image : List ℕ) (table : FinMap nat_cmp ℕ) (tree : Tree) (placed : List Placed) : Type 0 where
  pub holds : Holds image table tree placed
  pub counted : AllByRecursion (IsCounted image tree) placed

abbrev pub Reads : List ℕ → FinMap nat_cmp ℕ → Tree → Type 0
Reads image table tree = (placed : List Placed) × ReadsAs image table tree placed

-- Where a block that is reached stands in a reading of the image.
use Rattle.std.proofs.Common.{◌≡◌, ◌≢◌, ◌⊎◌, ◌<◌, ℕ, suc, ◌+◌, ◌*◌, List, [], ◌∷◌, length, Some}
use Rattle.std.specs.Prelude.{◌==◌}
use Rattle.std.specs.Ordering.{nat_cmp}
use Rattle.std.specs.FinMap.{FinMap, entries}
use Rattle.std.specs.List.{AllZip, AllByRecursion, find}
use Rattle.h5_bytes.specs.Bytes.{number_at}
use Rattle.h5_bytes.specs.Blocks.{block}
use Rattle.h5_bytes.specs.declared.Block.{Block}
use Rattle.h5_model.specs.Format.MessageTypes.{symbol_table_kind, data_layout_kind, continuation_kind}
use Rattle.h5_model.specs.Format.Addresses.{continuation_of, symbol_table_of}
use Rattle.h5_model.specs.Tree.Places.{cells}
use Rattle.h5_model.specs.Format.Messages.{Message, count_of}
use Rattle.h5_model.specs.Format.Heap.{heap_header, segment_place}
use Rattle.h5_model.specs.Format.Nodes.{group_kind}
use Rattle.h5_model.specs.Format.Symbols.{Target, symbols_in, symbol_bytes}
use Rattle.h5_model.specs.Format.Links.{HasLinks}
use Rattle.h5_model.specs.Format.Superblock.{leaf_k, internal_k, chunk_k, root_header, root_header_place}
use Rattle.h5_model.specs.Format.Layout.{InBlock, InChunks}
use Rattle.h5_model.specs.Format.Chunks.{HasChunks}
use Rattle.h5_model.specs.Tree.Objects.{Tree, Group, Array, Dataset, Links, ToObject, follow}
use Rattle.h5_model.specs.Format.Reads.{Placed, HasObject, IsSame, InGroup, HasDataset}
use Rattle.h5_model.specs.Format.Reached.{Named, Role, ObjectHeader, Continuation, GroupNode, SymbolNode, HeapHeader, Segment, Data, ChunkNode, Chunk, Shape, shape_kind, entry_in}
use Rattle.h5_laws.proofs.Lists.{In}
use Rattle.h5_laws.proofs.Rows.{named_row}

-- an object that stands in the image, to which a path of so many names leads
pub record Known (image : List ℕ) (table : FinMap nat_cmp ℕ) (tree : Tree) (placed : List Placed) (depth : ℕ) : Type 0 where
  pub o : Placed
  pub member : In o placed
  pub path : List (List ℕ)
  pub long : length path ≡ depth
  pub leads : follow tree (ToObject 0) path ≡ Some (ToObject o.number)
  pub has : HasObject image table o.header o.object o.blocks

-- such an object that is a group, with its tree and heap at these addresses
pub record KnownGroup (image : List ℕ) (table : FinMap nat_cmp ℕ) (tree : Tree) (placed : List Placed) (depth root heap : ℕ) : Type 0 where
  pub k : Known image table tree placed depth
  pub links : Links
  pub is : k.o.object.content ≡ Group links
  pub found : List (List ℕ × Target)
  pub linked : HasLinks image (leaf_k image) (internal_k image) root heap found k.has.content_blocks
  pub same : AllZip (IsSame table) (entries links) found
  pub in_group : AllByRecursion InGroup k.has.messages
  pub once : count_of symbol_table_kind k.has.messages ≡ 1
  pub m : Message
  pub first : find (λ x. x.kind == symbol_table_kind) k.has.messages ≡ Some m
  pub says : symbol_table_of m.body ≡ Some (record { tree = root; heap = heap })

-- such an object that is a dataset
pub record KnownDataset (image : List ℕ) (table : FinMap nat_cmp ℕ) (tree : Tree) (placed : List Placed) (depth : ℕ) : Type 0 where
  pub k : Known image table tree placed depth
  pub d : Dataset
  pub is : k.o.object.content ≡ Array d
  pub stored : HasDataset image k.has.messages d k.has.content_blocks

-- the object at a header
abbrev pub KnownAt : List ℕ → FinMap nat_cmp ℕ → Tree → List Placed → ℕ → ℕ → Type 0
KnownAt image table tree placed depth header = (k : Known image table tree placed depth) × (k.o.header ≡ header)

-- an entry of a symbol node that names a header
pub record KnownEntry (image : List ℕ) (table : FinMap nat_cmp ℕ) (tree : Tree) (placed : List Placed) (field at : ℕ) : Type 0 where
  pub depth : ℕ
  pub root : ℕ
  pub heap : ℕ
  pub g : KnownGroup image table tree placed depth root heap
  pub node : ℕ
  pub member : In node g.linked.symbol_nodes
  pub i : ℕ
  pub low : i < symbols_in (symbol_bytes image (leaf_k image) node)
  pub hard : (entry_in image node i).cache ≢ 2
  pub place : field ≡ node + 16 + 40 * i
  pub names : at ≡ (entry_in image node i).header

-- what names a header: the superblock's field, or an entry
abbrev pub LinkField : List ℕ → FinMap nat_cmp ℕ → Tree → List Placed → ℕ → ℕ → Type 0
LinkField image table tree placed field at = ((field ≡ root_header_place image) × (at ≡ root_header image)) ⊎ KnownEntry image table tree placed field at

-- a Continuation of its header
pub record KnownBlock (image : List ℕ) (table : FinMap nat_cmp ℕ) (tree : Tree) (placed : List Placed) (depth header field at : ℕ) : Type 0 where
  pub k : Known image table tree placed depth
  pub here : k.o.header ≡ header
  pub m : Message
  pub member : In m k.has.messages
  pub kind : m.kind ≡ continuation_kind
  pub place : field ≡ m.at
  pub names : continuation_of m.body ≡ Some (block at (number_at image (field + 8) 8))

-- a node of its tree
pub record KnownNode (image : List ℕ) (table : FinMap nat_cmp ℕ) (tree : Tree) (placed : List Placed) (depth root heap level field at : ℕ) : Type 0 where
  pub g : KnownGroup image table tree placed depth root heap
  pub down : ℕ
  pub levels : down + level ≡ g.linked.level
  pub there : In (field, at) (named_row image (group_kind (internal_k image)) down ((g.m.at, root) ∷ []))

-- a symbol node of its tree
pub record KnownSymbols (image : List ℕ) (table : FinMap nat_cmp ℕ) (tree : Tree) (placed : List Placed) (depth root heap field at : ℕ) : Type 0 where
  pub g : KnownGroup image table tree placed depth root heap
  pub there : In (field, at) (named_row image (group_kind (internal_k image)) (suc g.linked.level) ((g.m.at, root) ∷ []))

-- its heap
pub record KnownHeap (image : List ℕ) (table : FinMap nat_cmp ℕ) (tree : Tree) (placed : List Placed) (depth root field at : ℕ) : Type 0 where
  pub g : KnownGroup image table tree placed depth root at
  pub place : field ≡ g.m.at + 8

pub record KnownSegment (image : List ℕ) (table : FinMap nat_cmp ℕ) (tree : Tree) (placed : List Placed) (depth field at : ℕ) : Type 0 where
  pub root : ℕ
  pub heap : ℕ
  pub g : KnownGroup image table tree placed depth root heap
  pub here : at ≡ segment_place (heap_header image heap)
  pub place : field ≡ heap + 24

-- the bytes of a dataset whose layout names them
pub record KnownBytes (image : List ℕ) (table : FinMap nat_cmp ℕ) (tree : Tree) (placed : List Placed) (depth field at : ℕ) : Type 0 where
  pub d : KnownDataset image table tree placed depth
  pub m : Message
  pub first : find (λ x. x.kind == data_layout_kind) d.k.has.messages ≡ Some m
  pub b : Block
  pub laid : d.stored.layout ≡ InBlock (Some b)
  pub here : at ≡ b.at
  pub place : field ≡ m.at + 2

-- a dataset with a tree of chunks of this shape
pub record KnownChunks (image : List ℕ) (table : FinMap nat_cmp ℕ) (tree : Tree) (placed : List Placed) (depth : ℕ) (shape : Shape) (root : ℕ) : Type 0 where
  pub d : KnownDataset image table tree placed depth
  pub m : Message
  pub first : find (λ x. x.kind == data_layout_kind) d.k.has.messages ≡ Some m
  pub laid : d.stored.layout ≡ InChunks shape.sizes (Some root)
  pub size : shape.bytes ≡ cells shape.sizes * d.d.fixed.size
  pub chunks : HasChunks image (chunk_k image) shape.sizes shape.bytes root d.stored.chunks d.k.has.content_blocks

-- a node of its tree
pub record KnownChunkNode (image : List ℕ) (table : FinMap nat_cmp ℕ) (tree : Tree) (placed : List Placed) (depth : ℕ) (shape : Shape) (root level field at : ℕ) : Type 0 where
  pub c : KnownChunks image table tree placed depth shape root
  pub down : ℕ
  pub levels : down + level ≡ c.chunks.level
  pub there : In (field, at) (named_row image (shape_kind image shape) down ((c.m.at + 3, root) ∷ []))

-- a chunk of its tree
pub record KnownChunk (image : List ℕ) (table : FinMap nat_cmp ℕ) (tree : Tree) (placed : List Placed) (depth bytes field at : ℕ) : Type 0 where
  pub shape : Shape
  pub root : ℕ
  pub c : KnownChunks image table tree placed depth shape root
  pub size : bytes ≡ shape.bytes
  pub there : In (field, at) (named_row image (shape_kind image shape) (suc c.chunks.level) ((c.m.at + 3, root) ∷ []))

-- what a role says of a block that a field names
abbrev pub Located : List ℕ → FinMap nat_cmp ℕ → Tree → List Placed → Named → Role → Type 0
Located image table tree placed x ObjectHeader = KnownAt image table tree placed x.depth x.at × LinkField image table tree placed x.field x.at
Located image table tree placed x (Continuation header) = KnownBlock image table tree placed x.depth header x.field x.at
Located image table tree placed x (GroupNode root heap level) = KnownNode image table tree placed x.depth root heap level x.field x.at
Located image table tree placed x (SymbolNode root heap) = KnownSymbols image table tree placed x.depth root heap x.field x.at
Located image table tree placed x (HeapHeader root) = KnownHeap image table tree placed x.depth root x.field x.at
Located image table tree placed x Segment = KnownSegment image table tree placed x.depth x.field x.at
Located image table tree placed x Data = KnownBytes image table tree placed x.depth x.field x.at
Located image table tree placed x (ChunkNode shape root level) = KnownChunkNode image table tree placed x.depth shape root level x.field x.at
Located image table tree placed x (Chunk bytes) = KnownChunk image table tree placed x.depth bytes x.field x.at

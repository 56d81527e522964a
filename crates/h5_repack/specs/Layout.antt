-- How many bytes objects have, where they stand one behind another, and their bytes, as the writer counts and appends them.
use Rattle.std.specs.Prelude.{◌≡◌, ℕ, ◌+◌, ◌≤◌, ◌<◌, Option, Some, None, List, [], ◌∷◌, ◌++◌, map, length, slice_get, slice_index, slice_set, replicate, unwrap_or}
use Rattle.std.specs.FinMap.{entries}
use Rattle.std.specs.List.{AllZip}
use Rattle.std.specs.Option.{option_flatten, option_map_or}
use Rattle.h5_model.specs.Format.Limits.{most_bytes}
use Rattle.h5_model.specs.Format.Bodies.{pair_bytes}
use Rattle.h5_model.specs.Format.MessageTypes.{symbol_table_kind}
use Rattle.h5_model.specs.Format.Plain.{header_bytes, plain_superblock_length, superblock_bytes}
use Rattle.h5_model.specs.Format.PlainLength.{data_bytes}
use Rattle.h5_model.specs.Format.Superblock.{chunk_k_of}
use Rattle.h5_model.specs.Format.Sizes.{header_size}
use Rattle.h5_model.specs.Tree.Objects.{Object, Content, Group, Array, Dataset, Link, Links, ToObject, Soft}
use Rattle.h5_repack.specs.Bodies.Bodies.{others_of, array_messages}
use Rattle.h5_repack.specs.Bodies.Headers.{IsLowStorage, data_of}
use Rattle.h5_group.specs.Heap.Links.{Leads, ToGroup, ToArray, ToText}
use Rattle.h5_group.specs.Writing.Written.{links_bytes}
use Rattle.h5_group.specs.Writing.Laws as laws
use Rattle.h5_group.specs.Writing.Places.{ArePlaces}
use Rattle.h5_repack.specs.Image.Plain.{IsPlain, IsLowContent}
use Rattle.h5_repack.specs.Image.Written.{object_length, content_place, group_heap_place, data_address}
use Rattle.h5_repack.specs.Blocks.Others.{OthersBytes}
use Rattle.h5_repack.specs.Blocks.Written.{AreOthers, chunks_of}
use Rattle.h5_model.specs.Format.Described.{Described}
use Rattle.h5_repack.specs.declared.blocks.cells.Cells.{Cells}
use Rattle.h5_model.specs.Tree.Links.{tree_link}
use Rattle.h5_repack.specs.Objects.Objects.{IsNewArray, IsNewObject, content_chunks}
use Rattle.h5_repack.specs.declared.objects.object.NewObject.{NewObject}
use Rattle.h5_model.specs.declared.object_no.ObjectNo.{ObjectNo}
use Rattle.h5_model.specs.declared.link.Link.{Link as LinkOf}
use Rattle.h5_repack.specs.declared.size.Extent.{Extent}
use Rattle.h5_repack.specs.declared.size.Extent.TheVariants as extent
use Rattle.h5_repack.specs.declared.size.Size.{Size}
use Rattle.h5_repack.specs.declared.group.Layout.{Layout}
use Rattle.h5_repack.specs.declared.place.Placed.{Placed}
use Rattle.h5_repack.specs.declared.write.WriteFault.{WriteFault}
use Rattle.h5_repack.specs.declared.write.WriteFault.TheVariants.{TooLong, TooDeep, NoMemory}
use Rattle.h5_model.specs.declared.k_values.KValues.{KValues}

-- ---- objects

-- an object, and the offsets of its stored chunks
pub record StoredObject : Type 0 where
  pub object : Object
  pub chunks : List (List ℕ)

-- an object that the plain layout can hold
pub record IsHeldObject (x : NewObject) (o : StoredObject) : Type 0 where
  pub new : IsNewObject x o.object
  pub chunks_are : content_chunks x.content ≡ o.chunks
  pub plain : IsPlain o.object

pub record IsGroupObject (links : List (LinkOf ObjectNo)) (others : OthersBytes) (o : StoredObject) : Type 0 where
  pub group : Links
  pub content : (o.object).content ≡ Group group
  pub linked : map tree_link links ≡ entries group
  pub others_are : AreOthers (others_of o.object) others
  pub plain : IsPlain o.object

pub record IsArrayObject (array : Described) (cells : Cells) (others : OthersBytes) (o : StoredObject) : Type 0 where
  pub dataset : Dataset
  pub content : (o.object).content ≡ Array dataset
  pub array_is : IsNewArray array cells dataset
  pub chunks_are : chunks_of cells ≡ o.chunks
  pub others_are : AreOthers (others_of o.object) others
  pub plain : IsPlain o.object

-- ---- sizes

abbrev pub extent_length : Extent → ℕ
extent_length (extent.Links p) = p.length
extent_length (extent.Data n) = n

abbrev pub size_length : Size → ℕ
size_length s = s.header + extent_length s.extent

abbrev pub IsLowExtent : Extent → Type 0
IsLowExtent (extent.Links p) = (p.tree ≤ p.length) × (p.length ≤ most_bytes)
IsLowExtent (extent.Data n) = n ≤ most_bytes

-- so many bytes that sums of two sizes and a place are no larger than an address
pub record IsLowSize (s : Size) : Type 0 where
  pub header : s.header ≤ most_bytes
  pub extent_low : IsLowExtent s.extent

-- a group's links lie so wherever their objects stand; an array with so many stored chunks has these data, and a tree of at most 16 levels
abbrev pub IsExtent : KValues → ℕ → Content → Extent → Type 0
IsExtent k count (Group links) (extent.Links p) = (ls : List (List ℕ × Leads)) → AllZip laws.IsLinkWritten (entries links) ls → ArePlaces k.leaf k.internal ls p
IsExtent k count (Array d) (extent.Data n) = (n ≡ data_bytes (chunk_k_of k) count d) × IsLowStorage (chunk_k_of k) count d.storage
IsExtent k count _ _ = ⊥

-- how many bytes an object has with its stored chunks
abbrev pub stored_length : KValues → StoredObject → ℕ
stored_length k o = object_length k (length o.chunks) o.object

pub record IsSize (k : KValues) (o : StoredObject) (s : Size) : Type 0 where
  pub header : s.header ≡ header_size o.object
  pub extent_is : IsExtent k (length o.chunks) (o.object).content s.extent
  pub whole : size_length s ≡ stored_length k o
  pub low : IsLowSize s

-- an empty slot has no bytes
abbrev pub no_size : Size
no_size = record { header = 0; extent = extent.Data 0 }

abbrev pub IsSlotSize : KValues → Option StoredObject → Size → Type 0
IsSlotSize k (Some o) s = IsSize k o s
IsSlotSize k None s = s ≡ no_size

-- why an object's size is none that an image can have
abbrev pub IsUnmeasured : KValues → StoredObject → WriteFault → Type 0
IsUnmeasured k o TooLong = most_bytes < stored_length k o
IsUnmeasured k o TooDeep = IsLowContent k (length o.chunks) (o.object).content → ⊥
IsUnmeasured k o NoMemory = Unit {0}

abbrev pub AreUnmeasured : KValues → List (Option StoredObject) → WriteFault → Type 0
AreUnmeasured k listed TooLong = (number : ℕ) × (o : StoredObject) × (slice_get listed number ≡ Some (Some o)) × IsUnmeasured k o TooLong
AreUnmeasured k listed TooDeep = (number : ℕ) × (o : StoredObject) × (slice_get listed number ≡ Some (Some o)) × IsUnmeasured k o TooDeep
AreUnmeasured k listed NoMemory = Unit {0}

-- ---- places

-- how many bytes the object of a number has
abbrev pub length_by_number : List Size → ℕ → ℕ
length_by_number sizes number = option_map_or size_length (slice_get sizes number) 0

-- the end of the objects of these numbers, the first of which stands at this place
abbrev pub end_of : (ℕ → ℕ) → ℕ → List ℕ → ℕ
end_of lengths at [] = at
end_of lengths at (number ∷ order) = end_of lengths (at + lengths number) order

-- the headers by number, with those of these objects
abbrev pub headers_of : (ℕ → ℕ) → ℕ → List ℕ → List (Option ℕ) → List (Option ℕ)
headers_of lengths at [] headers = headers
headers_of lengths at (number ∷ order) headers = headers_of lengths (at + lengths number) order (slice_set headers number (Some at))

pub record AreHeaders (k : KValues) (sizes : List Size) (order : List ℕ) (p : Placed) : Type 0 where
  pub end_is : p.end ≡ end_of (length_by_number sizes) (plain_superblock_length k) order
  pub headers_are : p.headers.items ≡ headers_of (length_by_number sizes) (plain_superblock_length k) order (replicate (length sizes) None)
  pub few : p.end ≤ most_bytes

abbrev pub IsUnplaced : KValues → List Size → List ℕ → WriteFault → Type 0
IsUnplaced k sizes order TooLong = most_bytes < end_of (length_by_number sizes) (plain_superblock_length k) order
IsUnplaced k sizes order TooDeep = ⊥
IsUnplaced k sizes order NoMemory = Unit {0}

-- ---- a layout: the headers and sizes of objects by their numbers

-- where the header of an object stands; 0 where no object has the number
abbrev pub header_by : Layout → ℕ → ℕ
header_by l number = unwrap_or (option_flatten (slice_get l.headers.now number)) 0

-- each object ends within an image
pub record IsLowLayout (l : Layout) : Type 0 where
  pub same : length l.headers.now ≡ length l.sizes.now
  pub each : (number : ℕ) (s : Size) → slice_get l.sizes.now number ≡ Some s → header_by l number + size_length s ≤ most_bytes
  pub low : (number : ℕ) (s : Size) → slice_get l.sizes.now number ≡ Some s → IsLowSize s

-- where the heap of a group stands whose tree stands there; nowhere for an array
abbrev pub heap_behind : ℕ → Extent → ℕ
heap_behind tree (extent.Links p) = tree + p.tree
heap_behind tree (extent.Data n) = 0

abbrev pub leads_behind : ℕ → ℕ → Extent → Leads
leads_behind header tree (extent.Links p) = ToGroup header tree (tree + p.tree)
leads_behind header tree (extent.Data n) = ToArray header

-- where a link to an object of this size leads, whose header stands there
abbrev pub leads_at : ℕ → Size → Leads
leads_at header s = leads_behind header (header + s.header) s.extent

-- where a link to the object of this number leads
abbrev pub leads_by : Layout → ℕ → Leads
leads_by l number = option_map_or (leads_at (header_by l number)) (slice_get l.sizes.now number) (ToArray 0)

abbrev pub written_at : Layout → List ℕ × Link → List ℕ × Leads
written_at l (name, ToObject number) = (name, leads_by l number)
written_at l (name, Soft text) = (name, ToText text)

-- ---- bytes

-- an array's, whose chunks have this K and whose data have this place
abbrev pub array_at : ℕ → ℕ → ℕ → StoredObject → Dataset → List ℕ
array_at chunk_k place count o d =
    header_bytes count (array_messages d (data_address o.chunks d place) (length (others_of o.object)) ++ others_of o.object) ++ data_of chunk_k o.chunks d place

-- the bytes of an object whose header stands there and to which so many links lead
abbrev pub content_at : Layout → ℕ → ℕ → StoredObject → Content → List ℕ
content_at l header count o (Group links) =
    header_bytes 1 ((symbol_table_kind, pair_bytes (content_place o.object header) (group_heap_place l.k o.object links header)) ∷ others_of o.object)
    ++ links_bytes (l.k).leaf (l.k).internal (content_place o.object header) (map (written_at l) (entries links))
content_at l header count o (Array d) = array_at (chunk_k_of l.k) (content_place o.object header) count o d

abbrev pub laid_object : Layout → ℕ → ℕ → StoredObject → List ℕ
laid_object l header count o = content_at l header count o (o.object).content

abbrev pub numbered_at : Layout → List ℕ → List (Option StoredObject) → ℕ → List ℕ
numbered_at l counts listed number =
    option_map_or (laid_object l (header_by l number) (slice_index counts number)) (option_flatten (slice_get listed number)) []

-- the superblock before objects whose root has this size
abbrev pub front_at : Layout → Size → ℕ → List ℕ
front_at l root end = superblock_bytes l.k end (plain_superblock_length l.k) (plain_superblock_length l.k + root.header)
    (heap_behind (plain_superblock_length l.k + root.header) root.extent)

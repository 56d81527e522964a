-- Faults of opening: a cause holds at an address, of the superblock or of a block that is reached (File Format Specification 3.0,
-- sections II.A, III and IV.A).
use Rattle.std.specs.Prelude.{◌≡◌, ◌≢◌, ℕ, ◌+◌, ◌<◌, ◌≤◌, ◌==◌, ◌&&◌, ◌⊎◌, Bool, true, false, IsTrue, not, if◌then◌else◌, List, [], ◌∷◌, take, length}
use Rattle.std.specs.Ordering.{nat_cmp, eq_by_cmp}
use Rattle.std.specs.List.{list_any, Contains, IsDistinct}
use Rattle.std.specs.FinMap.{FinMap}
use Rattle.h5_bytes.specs.Bytes.{number_at, byte_at, part, undefined_address}
use Rattle.h5_bytes.specs.Blocks.{cover}
use Rattle.h5_bytes.specs.declared.Block.{Block}
use Rattle.h5_model.specs.Format.Limits.{most_names, most_bytes, most_hard_links}
use Rattle.h5_model.specs.Format.Superblock.{signature, has_chunk_k, superblock_length, base_place, end_field, driver_place, end_of_file, leaf_k, internal_k, highest_k}
use Rattle.h5_model.specs.Format.MessageTypes.{symbol_table_kind}
use Rattle.h5_model.specs.Format.Messages.{Message, count_of, prefix_at, reference_count}
use Rattle.h5_model.specs.Format.Nodes.{group_kind}
use Rattle.h5_model.specs.Format.Heap.{heap_header, segment_of, IsHeap}
use Rattle.h5_model.specs.Format.Symbols.{symbol_bytes, symbols_in}
use Rattle.h5_model.specs.Tree.Objects.{Tree}
use Rattle.h5_model.specs.Format.Reads.{Reads}
use Rattle.h5_model.specs.Format.Reached.{Named, Role, ObjectHeader, GroupNode, SymbolNode, HeapHeader, ChunkNode, Reached, AllMessages, shape_kind, length_of, block_of, IsThere}
use Rattle.h5_model.specs.Faults.HeaderFaults.{HeaderBreach, SomeMessage}
use Rattle.h5_model.specs.Faults.TreeFaults.{NodeBreach, SymbolBreach, SiblingBreach, NameBreach, HeapNameBreach, BadNameBreach, KeyBreach, ChunkOrderBreach, ChunkKeyBreach}
use Rattle.h5_model.specs.declared.open_fault.Cause.{Cause}
use Rattle.h5_model.specs.declared.open_fault.Cause.TheVariants.{NotHdf5, Truncated, SuperblockVersion, FieldSizes, BaseAddress, Driver, KRange, MissingMessage, HeapForm, HeapName, NodeForm, NameOrder, KeyOrder, Sibling, ChunkKey, LinkCount, GroupLinkedTwice, Overlap, TooDeep, TooLarge, BadName}

-- ---- the superblock

-- the fields of K values
abbrev pub k_places : List ℕ → List ℕ
k_places bytes = 16 ∷ 18 ∷ (if has_chunk_k bytes then 24 ∷ [] else [])

-- a field breaks its rule
abbrev pub FieldBreach : List ℕ → Cause → ℕ → Type 0
FieldBreach bytes Truncated at = (at ≡ (end_field bytes).at) × ((end_of_file bytes < superblock_length bytes) ⊎ (length bytes < end_of_file bytes))
FieldBreach bytes SuperblockVersion at = IsTrue (list_any (λ p. p == at) (8 ∷ 9 ∷ 10 ∷ 12 ∷ [])) × ((if at == 8 then 1 else 0) < byte_at bytes at)
FieldBreach bytes FieldSizes at = IsTrue (list_any (λ p. p == at) (13 ∷ 14 ∷ [])) × (byte_at bytes at ≢ 8)
FieldBreach bytes BaseAddress at = (at ≡ base_place bytes) × (number_at bytes at 8 ≢ 0)
FieldBreach bytes Driver at = (at ≡ driver_place bytes) × (number_at bytes at 8 ≢ undefined_address)
FieldBreach bytes KRange at = IsTrue (list_any (λ p. p == at) (k_places bytes)) × ((number_at bytes at 2 ≡ 0) ⊎ (highest_k < number_at bytes at 2))
FieldBreach bytes TooLarge at = (at ≡ (end_field bytes).at) × (most_bytes < end_of_file bytes)
FieldBreach bytes _ at = ⊥

-- the signature, or the whole superblock, is not there
abbrev pub StartBreach : List ℕ → Cause → Type 0
StartBreach bytes NotHdf5 = part 0 8 bytes ≢ signature
StartBreach bytes Truncated = length bytes < superblock_length bytes
StartBreach bytes _ = ⊥

-- fields break rules only where the superblock is there
abbrev pub SuperblockBreach : List ℕ → Cause → ℕ → Type 0
SuperblockBreach bytes cause at = ((at ≡ 0) × StartBreach bytes cause) ⊎ ((superblock_length bytes ≤ length bytes) × FieldBreach bytes cause at)

-- ---- blocks that are reached

-- the block that x names, of this role, breaks its rule
abbrev pub BlockBreach : List ℕ → Named → Role → Cause → Type 0
BlockBreach image x ObjectHeader cause = HeaderBreach image x.at cause
BlockBreach image x (GroupNode root heap level) NodeForm = NodeBreach image (group_kind (internal_k image)) root level x.at
BlockBreach image x (GroupNode root heap level) Sibling = SiblingBreach image (group_kind (internal_k image)) root x.at
BlockBreach image x (GroupNode root heap level) KeyOrder = KeyBreach image heap x.at
BlockBreach image x (SymbolNode root heap) NodeForm = SymbolBreach image x.at
BlockBreach image x (SymbolNode root heap) NameOrder = NameBreach image root heap x.at
BlockBreach image x (SymbolNode root heap) TooDeep = (most_names ≤ x.depth) × (1 ≤ symbols_in (symbol_bytes image (leaf_k image) x.at))
BlockBreach image x (HeapHeader root) HeapForm = (free : List Block) → IsHeap (heap_header image x.at) (segment_of image x.at) free → ⊥
BlockBreach image x (HeapHeader root) HeapName = HeapNameBreach image root x.at
BlockBreach image x (HeapHeader root) BadName = BadNameBreach image root x.at
BlockBreach image x (ChunkNode shape root level) NodeForm = NodeBreach image (shape_kind image shape) root level x.at
BlockBreach image x (ChunkNode shape root level) Sibling = SiblingBreach image (shape_kind image shape) root x.at
BlockBreach image x (ChunkNode shape root level) ChunkKey = ChunkKeyBreach image shape level x.at
BlockBreach image x (ChunkNode shape root level) KeyOrder = ChunkOrderBreach image shape root level x.at
BlockBreach image x _ _ = ⊥

-- header addresses, of which several may name one block
abbrev pub is_header : Role → Bool
is_header ObjectHeader = true
is_header _ = false

-- two fields name blocks that share a byte, or one block that is no header
abbrev pub Meets : List ℕ → Named → Named → Type 0
Meets image x y = ((y.at ≢ x.at) × (p : ℕ) × (cover p (block_of image x ∷ block_of image y ∷ []) ≡ 2))
    ⊎ ((y.at ≡ x.at) × IsTrue (not (is_header x.role && is_header y.role)))

-- a reached block with bytes begins in the superblock, or meets one with bytes that another field names
abbrev pub IsOverlap : List ℕ → Named → Type 0
IsOverlap image x = (1 ≤ length_of image x)
    × ((x.at < superblock_length image) ⊎ ((y : Named) × Reached image y × (y.field ≢ x.field) × (1 ≤ length_of image y) × Meets image x y))

-- two links name the header of a group
abbrev pub IsLinkedTwice : List ℕ → Named → Type 0
IsLinkedTwice image x = IsTrue (is_header x.role) × SomeMessage image x.at (λ kind. kind == symbol_table_kind)
    × ((y : Named) × Reached image y × (y.field ≢ x.field) × (y.at ≡ x.at) × IsTrue (is_header y.role))

-- the root's header has no Symbol Table message
abbrev pub IsNoRoot : List ℕ → Named → Type 0
IsNoRoot image x = (x.depth ≡ 0) × IsTrue (is_header x.role) × ((ms : List Message) × AllMessages image x.at ms × (count_of symbol_table_kind ms ≡ 0))

-- fields that name this header, each once
pub record AreLinkFields (image : List ℕ) (header : ℕ) (fields : List ℕ) : Type 0 where
  pub once : IsDistinct (eq_by_cmp nat_cmp) fields
  pub each : (field : ℕ) → Contains fields field → (y : Named) × Reached image y × (y.field ≡ field) × (y.at ≡ header) × IsTrue (is_header y.role)

-- all of them
pub record AreAllLinks (image : List ℕ) (header : ℕ) (fields : List ℕ) : Type 0 where
  pub links : AreLinkFields image header fields
  pub all : (y : Named) → Reached image y → y.at ≡ header → IsTrue (is_header y.role) → Contains fields y.field

-- the count is not the number of fields that name the header; or it has been named too often
abbrev pub IsMiscounted : List ℕ → Named → Type 0
IsMiscounted image x = IsTrue (is_header x.role) × ((fields : List ℕ) × AreAllLinks image x.at fields × (reference_count (prefix_at image x.at) ≢ length fields))

abbrev pub IsLinkedTooOften : List ℕ → Named → Type 0
IsLinkedTooOften image x = IsTrue (is_header x.role) × ((fields : List ℕ) × AreLinkFields image x.at fields × (most_hard_links < length fields))

-- a reached block, as far as it is there, breaks a rule of its form or of the links to it
abbrev pub FormBreach : List ℕ → Named → Cause → Type 0
FormBreach image x GroupLinkedTwice = IsLinkedTwice image x
FormBreach image x LinkCount = IsMiscounted image x
FormBreach image x TooLarge = IsLinkedTooOften image x ⊎ BlockBreach image x x.role TooLarge
FormBreach image x MissingMessage = IsNoRoot image x ⊎ BlockBreach image x x.role MissingMessage
FormBreach image x cause = BlockBreach image x x.role cause

-- a cause holds of a reached block
abbrev pub ReachedBreach : List ℕ → Named → Cause → Type 0
ReachedBreach image x Truncated = length image < x.at + length_of image x
ReachedBreach image x Overlap = IsOverlap image x
ReachedBreach image x cause = IsThere image x x.role × FormBreach image x cause

-- the bytes up to the end of file address
abbrev pub up_to_end : List ℕ → List ℕ
up_to_end bytes = take (end_of_file bytes) bytes

-- A cause holds at an address: of the superblock, or of a block that is reached in the bytes up to the end of file address. Want of
-- memory, and what is not read yet, are no breaches.
abbrev pub Breach : List ℕ → Cause → ℕ → Type 0
Breach bytes cause at = SuperblockBreach bytes cause at
    ⊎ ((x : Named) × Reached (up_to_end bytes) x × (x.at ≡ at) × ReachedBreach (up_to_end bytes) x cause)

-- where a cause holds at an address, the bytes read as no tree
abbrev pub BreachExcludesReads : Type 0
BreachExcludesReads = (bytes : List ℕ) (cause : Cause) (at : ℕ) → Breach bytes cause at
    → (table : FinMap nat_cmp ℕ) (tree : Tree) → Reads (up_to_end bytes) table tree → ⊥

-- The header and the data of an array to be written, as they are appended (File Format Specification 3.0, sections III.A.1, IV.A.1.a and
-- IV.A.2).
use Rattle.std.specs.Prelude.{◌≡◌, ℕ, ◌+◌, ◌*◌, ◌<◌, ◌≤◌, ◌==◌, Bool, true, false, nat_lt, if◌then◌else◌, Option, Some, None, List, [], ◌++◌, length, replicate}
use Rattle.std.specs.List.{list_any}
use Rattle.h5_model.specs.Format.Limits.{most_bytes}
use Rattle.h5_model.specs.Edits.Refusal.{are_maxima}
use Rattle.h5_model.specs.Format.Bodies.{pair_bytes}
use Rattle.h5_model.specs.Format.MessageTypes.{symbol_table_kind}
use Rattle.h5_model.specs.Format.Plain.{message_bytes, messages_bytes, cells_bytes}
use Rattle.h5_model.specs.Format.Layout.{Layout, InMessage, InBlock, InChunks, most_compact_bytes}
use Rattle.h5_model.specs.Tree.Objects.{Storage, Compact, Contiguous, Chunked}
use Rattle.h5_model.specs.Tree.Places.{cells}
use Rattle.h5_model.specs.Format.Described.{Described}
use Rattle.h5_repack.specs.Bodies.Bodies.{layout_body, messages_of}
use Rattle.h5_repack.specs.Bodies.Headers.{is_stored}
use Rattle.h5_repack.specs.declared.blocks.cells.Cells.{Cells}
use Rattle.h5_repack.specs.declared.blocks.cells.Cells.TheVariants.{Unset, Filled, Stored, Chunks}
use Rattle.h5_repack.specs.Blocks.Others.{OthersBytes}
use Rattle.h5_repack.specs.Blocks.Parts.{prefix_bytes}
use Rattle.h5_repack.specs.Blocks.StoredChunks.{chunks_written}
use Rattle.h5_repack.specs.Blocks.Written.{AreWholeChunks, HasRoom, chunks_of}

-- the header of a group whose tree and heap begin at these addresses, with these messages besides its Symbol Table
abbrev pub group_written : ℕ → ℕ → OthersBytes → List ℕ
group_written tree heap o = prefix_bytes 1 (1 + o.count) (24 + length o.bytes) ++ (message_bytes (symbol_table_kind, pair_bytes tree heap) ++ o.bytes)

-- ---- arrays

-- whether cells in one block are stored: those that are the fill where there are any
abbrev pub are_stored : Cells → ℕ → Bool
are_stored Unset count = false
are_stored Filled count = nat_lt 0 count
are_stored (Stored bytes) count = true
are_stored (Chunks held) count = false

abbrev pub in_chunks : Layout → Bool
in_chunks (InChunks chunk root) = true
in_chunks _ = false

-- how so many of these cells are stored by this layout
abbrev pub storage_by : Layout → Cells → ℕ → Storage
storage_by (InMessage bytes) c count = Compact
storage_by (InBlock b) c count = Contiguous (are_stored c count)
storage_by (InChunks chunk root) c count = Chunked chunk

abbrev pub storage_written : Described → Cells → Storage
storage_written a c = storage_by a.layout c (cells a.sizes)

-- the bytes of all cells of an array that is not in chunks
abbrev pub cells_written : Cells → Described → List ℕ
cells_written Unset a = cells_bytes a.fixed (replicate (cells a.sizes) a.fill)
cells_written Filled a = cells_bytes a.fixed (replicate (cells a.sizes) a.fill)
cells_written (Stored bytes) a = bytes.now
cells_written (Chunks held) a = cells_bytes a.fixed (replicate (cells a.sizes) a.fill)

-- all cells, or the chunks that are stored, in a tree of nodes of this K
abbrev pub stored_written : ℕ → Cells → Described → ℕ → List ℕ
stored_written chunk_k Unset a place = cells_written Unset a
stored_written chunk_k Filled a place = cells_written Filled a
stored_written chunk_k (Stored bytes) a place = cells_written (Stored bytes) a
stored_written chunk_k (Chunks held) a place = chunks_written chunk_k held place

-- whether cells, or a tree of chunks, stand behind the header
abbrev pub has_data : Described → Cells → Bool
has_data a c = is_stored (chunks_of c) (storage_written a c)

-- the data behind the header, at this place, where there are any
abbrev pub data_written : ℕ → Cells → Described → ℕ → List ℕ
data_written chunk_k c a place = if has_data a c then stored_written chunk_k c a place else []

-- so many bytes; none where an image cannot have as many
abbrev pub IsLength : Option ℕ → ℕ → Type 0
IsLength None long = most_bytes < long
IsLength (Some n) long = (n ≡ long) × (long ≤ most_bytes)

-- the address of the data, which stand at this place where there are any
abbrev pub address_written : Described → Cells → ℕ → Option ℕ
address_written a c place = if has_data a c then Some place else None

-- ---- their headers

abbrev pub layout_written : Described → Cells → Option ℕ → List ℕ
layout_written a c address = layout_body (storage_written a c) a.fixed (cells a.sizes) (cells_written c a) address

-- the messages of the array whose data stand at this address, before these others
abbrev pub array_list : Described → Cells → OthersBytes → Option ℕ → List (ℕ × List ℕ)
array_list a c o address =
    messages_of a.fixed a.sizes a.maxima a.fill (in_chunks a.layout) (layout_written a c address) o.count

-- how many messages its header has, and how many bytes these have
abbrev pub messages_count : Described → Cells → OthersBytes → Option ℕ → ℕ
messages_count a c o address = length (array_list a c o address) + o.count

abbrev pub messages_size : Described → Cells → OthersBytes → Option ℕ → ℕ
messages_size a c o address = length (messages_bytes (array_list a c o address)) + length o.bytes

-- the header of the array, to which so many links lead
abbrev pub header_written : ℕ → Described → Cells → OthersBytes → Option ℕ → List ℕ
header_written count a c o address =
    prefix_bytes count (messages_count a c o address) (messages_size a c o address)
    ++ (messages_bytes (array_list a c o address) ++ o.bytes)

-- ---- what can be written

-- compact cells fit in a message; chunks have a dimension, and no size is 0
abbrev pub FitsLayout : ℕ → Layout → Type 0
FitsLayout len (InMessage bytes) = len ≤ most_compact_bytes
FitsLayout len (InBlock b) = Unit {0}
FitsLayout len (InChunks chunk root) = (1 ≤ length chunk) × (list_any (λ n. n == 0) chunk ≡ false)

-- an array and its cells that can be written: bytes that are handed over are as many as the cells have, and chunks are whole
pub record IsArrayToWrite (a : Described) (c : Cells) : Type 0 where
  pub bounded : are_maxima a.sizes a.maxima ≡ true
  pub fits : FitsLayout (cells a.sizes * (a.fixed).size) a.layout
  pub room : HasRoom c (cells a.sizes * (a.fixed).size)
  pub chunks : AreWholeChunks c

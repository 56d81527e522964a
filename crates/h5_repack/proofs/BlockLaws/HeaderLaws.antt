-- What is written of a group and of an array: the header with its messages, the data, and the address of these.
use Rattle.std.proofs.Common.{◌≡◌, ℕ, ◌+◌, ◌*◌, ◌≤◌, Option, Some, None, List, [], ◌∷◌, ◌++◌, length, map, replicate, refl, ap, ◌∙◌, sym, subst, arith, length-append}
use Rattle.std.proofs.lemmas.List.FromFn.{length-map-range_with_len}
use Rattle.std.specs.Prelude.{if◌then◌else◌, ℤ}
use Rattle.std.specs.List.{AllByRecursion, flat_map}
use Rattle.h5_model.specs.Format.MessageTypes.{symbol_table_kind}
use Rattle.h5_model.specs.Edits.Refusal.{is_chunked}
use Rattle.h5_model.specs.Format.Fixed.{Fixed}
use Rattle.h5_model.specs.Format.Layout.{Layout, InMessage, InBlock, InChunks, most_compact_bytes}
use Rattle.h5_model.specs.Tree.Places.{cells, index_of}
use Rattle.h5_bytes.specs.declared.Block.{Block}
use Rattle.h5_model.specs.Format.Bodies.{pair_bytes, contiguous_bytes, chunked_bytes}
use Rattle.h5_model.specs.Format.Plain.{header_bytes, message_bytes, messages_bytes, cells_bytes}
use Rattle.h5_model.specs.Tree.Objects.{Dataset, Storage, Compact, Contiguous, Chunked}
use Rattle.h5_repack.specs.Bodies.Bodies.{array_layout, array_messages, layout_body, messages_of}
use Rattle.h5_repack.specs.Bodies.Chunks.{chunk_data, chunk_nodes, chunked_data}
use Rattle.h5_repack.specs.Bodies.Headers.{is_stored, data_of}
use Rattle.h5_repack.specs.Bodies.Sound.{IsPlainStorage, IsUnset}
use Rattle.h5_layout.specs.HeldChunks.{HeldCells, chunk_values}
use Rattle.h5_chunks.specs.Keys.{index_from}
use Rattle.h5_model.specs.Edits.Applied.{cell_or_fill}
use Rattle.h5_model.specs.Format.Described.{Described}
use Rattle.h5_repack.specs.declared.blocks.cells.Cells.{Cells}
use Rattle.h5_repack.specs.declared.blocks.cells.Cells.TheVariants.{Unset, Filled, Stored, Chunks}
use Rattle.h5_repack.specs.Blocks.ArrayHeader.{FitsLayout, group_written, array_list, cells_written, header_written, in_chunks, layout_written, messages_count, messages_size, data_written, address_written, storage_by, storage_written}
use Rattle.h5_repack.specs.Blocks.Others.{OthersBytes}
use Rattle.h5_repack.specs.Blocks.Parts.{prefix_bytes}
use Rattle.h5_repack.specs.Blocks.StoredChunks.{chunks_written, part_bytes, parts_bytes, parts_written}
use Rattle.h5_repack.specs.Blocks.Written.{AreOthers, AreCellsToWrite, AreHeldOf, AreWholeChunks, HasRoom, chunks_of, part_offsets}
use Rattle.h5_repack.specs.Objects.Objects.{IsNewArray}
use Rattle.h5_model.proofs.PlainValues.{length-cells_bytes}
use Rattle.h5_repack.proofs.BlockLaws.Messages.{messages_bytes-append}

-- ---- the header of a group

pub group_is : (tree heap : ℕ) (ms : List (ℕ × List ℕ)) (o : OthersBytes) → AreOthers ms o → group_written tree heap o ≡ header_bytes 1 ((symbol_table_kind, pair_bytes tree heap) ∷ ms)
group_is tree heap ms o are =
    let all : List (ℕ × List ℕ) = (symbol_table_kind, pair_bytes tree heap) ∷ ms in
    let count : 1 + o.count ≡ length all = omega (arith, are.count_is) in
    let size : 24 + length o.bytes ≡ length (messages_bytes all) = omega (arith, ap length are.bytes_are) in
    (λ i. prefix_bytes 1 (count i) (size i) ++ (message_bytes (symbol_table_kind, pair_bytes tree heap) ++ are.bytes_are i))

-- ---- the header of an array

-- whether its cells are in chunks
chunked_by : (l : Layout) (c : Cells) (count : ℕ) → in_chunks l ≡ is_chunked (storage_by l c count)
chunked_by (InMessage bytes) c count = refl
chunked_by (InBlock b) c count = refl
chunked_by (InChunks chunk root) c count = refl

-- the bytes of cells that each are the fill
filled_are : (d : Dataset) → IsUnset d → (a : Described) → a.fixed ≡ d.fixed → a.sizes ≡ d.sizes → a.fill ≡ d.fill
    → cells_bytes a.fixed (replicate (cells a.sizes) a.fill) ≡ cells_bytes d.fixed d.cells
filled_are d are a fixed sizes fill = (λ i. cells_bytes (fixed i) (replicate (cells (sizes i)) (fill i))) ∙ ap (cells_bytes d.fixed) (sym are)

-- a layout of chunks has no cell
layout_of_chunks : (s : Storage) (chunk : List ℕ) (t : Fixed) (count : ℕ) (bytes others : List ℕ) (address : Option ℕ) → s ≡ Chunked chunk
    → layout_body s t count bytes address ≡ layout_body s t count others address
layout_of_chunks s chunk t count bytes others address is =
    ap (λ (k : Storage). layout_body k t count bytes address) is ∙ sym (ap (λ (k : Storage). layout_body k t count others address) is)

-- what the layout has of the cells
body_is : (c : Cells) (d : Dataset) → AreCellsToWrite c d → (a : Described) → a.fixed ≡ d.fixed → a.sizes ≡ d.sizes → a.fill ≡ d.fill → storage_written a c ≡ d.storage
    → (address : Option ℕ) → layout_written a c address ≡ layout_body d.storage a.fixed (cells a.sizes) (cells_bytes d.fixed d.cells) address
body_is Unset d are a fixed sizes fill storage address = λ i. layout_body (storage i) a.fixed (cells a.sizes) (filled_are d are a fixed sizes fill i) address
body_is Filled d are a fixed sizes fill storage address = λ i. layout_body (storage i) a.fixed (cells a.sizes) (filled_are d are a fixed sizes fill i) address
body_is (Stored bytes) d are a fixed sizes fill storage address = λ i. layout_body (storage i) a.fixed (cells a.sizes) (are i) address
body_is (Chunks held) d are a fixed sizes fill storage address =
    (λ i. layout_body (storage i) a.fixed (cells a.sizes) (cells_written (Chunks held) a) address)
    ∙ layout_of_chunks d.storage held.chunk a.fixed (cells a.sizes) (cells_written (Chunks held) a) (cells_bytes d.fixed d.cells) address are.storage_is

-- ---- the data of an array

-- chunks that are handed over are those of the array
chunks_are : (h : HeldCells) (d : Dataset) → AreHeldOf h d → parts_bytes h ≡ flat_map (chunk_data d h.chunk) (part_offsets h)
chunks_are h d are =
    (λ i. flat_map (part_bytes (are.fixed_is i)) (are.parts_are i)) ∙ flat_mapped (part_offsets h) where
      flat_mapped : (all : List (List ℕ))
          → flat_map (part_bytes d.fixed) (map (λ offsets. (offsets, chunk_values d h.chunk offsets)) all) ≡ flat_map (chunk_data d h.chunk) all
      flat_mapped [] = refl
      flat_mapped (offsets ∷ others) = ap (λ bytes. chunk_data d h.chunk offsets ++ bytes) (flat_mapped others)

held_data : (k : ℕ) (h : HeldCells) (d : Dataset) → AreHeldOf h d → (all : List (List ℕ)) → part_offsets h ≡ all → (place : ℕ) → parts_written k h all place ≡ chunked_data k d h.chunk all place
held_data k h d are [] e place = refl
held_data k h d are (first ∷ others) e place =
    let parts : parts_bytes h ≡ flat_map (chunk_data d h.chunk) (first ∷ others) = chunks_are h d are ∙ ap (flat_map (chunk_data d h.chunk)) e in
    (λ i. chunk_nodes k (cells h.chunk * (are.fixed_is i).size) h.chunk first (first ∷ others) place ++ parts i)

-- cells in one block
block_data : (k : ℕ) (d : Dataset) (bytes : List ℕ) → bytes ≡ cells_bytes d.fixed d.cells → (s : Storage) → d.storage ≡ s → (place : ℕ)
    → (if is_stored [] s then bytes else []) ≡ data_of k [] d place
block_data k d bytes same Compact is place = rw is refl
block_data k d bytes same (Contiguous held) is place = rw is (λ i. if held then same i else [])
block_data k d bytes same (Chunked chunk) is place = rw is refl

-- stored chunks
chunked_parts : (k : ℕ) (h : HeldCells) (d : Dataset) → AreHeldOf h d → (place : ℕ)
    → (if is_stored (part_offsets h) (Chunked h.chunk) then chunks_written k h place else []) ≡ chunked_data k d h.chunk (part_offsets h) place
chunked_parts k h d are place = by_offsets (part_offsets h) refl where
  by_offsets : (all : List (List ℕ)) → part_offsets h ≡ all → (if is_stored all (Chunked h.chunk) then parts_written k h all place else []) ≡ chunked_data k d h.chunk all place
  by_offsets [] e = refl
  by_offsets (first ∷ others) e = held_data k h d are (first ∷ others) e place

data_in_chunks : (k : ℕ) (d : Dataset) (chunk : List ℕ) (stored : List (List ℕ)) (place : ℕ) → d.storage ≡ Chunked chunk → data_of k stored d place ≡ chunked_data k d chunk stored place
data_in_chunks k d chunk stored place is = rw is refl

data_by : (k : ℕ) (c : Cells) (d : Dataset) → AreCellsToWrite c d → (a : Described) → a.fixed ≡ d.fixed → a.sizes ≡ d.sizes → a.fill ≡ d.fill → storage_written a c ≡ d.storage
    → (place : ℕ) → data_written k c a place ≡ data_of k (chunks_of c) d place
data_by k Unset d are a fixed sizes fill storage place =
    block_data k d (cells_written Unset a) (filled_are d are a fixed sizes fill) (storage_written a Unset) (sym storage) place
data_by k Filled d are a fixed sizes fill storage place =
    block_data k d (cells_written Filled a) (filled_are d are a fixed sizes fill) (storage_written a Filled) (sym storage) place
data_by k (Stored bytes) d are a fixed sizes fill storage place =
    block_data k d bytes.now are (storage_written a (Stored bytes)) (sym storage) place
data_by k (Chunks held) d are a fixed sizes fill storage place =
    ap (λ (s : Storage). if is_stored (part_offsets held) s then chunks_written k held place else []) (storage ∙ are.storage_is)
    ∙ chunked_parts k held d are place ∙ sym (data_in_chunks k d held.chunk (part_offsets held) place are.storage_is)

-- ---- an array that is handed over

module _ (a : Described) (c : Cells) (d : Dataset) (is : IsNewArray a c d) where
  chunked_is : in_chunks a.layout ≡ is_chunked d.storage
  chunked_is = chunked_by a.layout c (cells a.sizes) ∙ ap is_chunked is.storage_is

  layout_is : (address : Option ℕ) → layout_written a c address ≡ array_layout d address
  layout_is address =
      body_is c d is.cells_are a is.fixed_is is.sizes_are is.fill_is is.storage_is address
      ∙ (λ i. layout_body d.storage (is.fixed_is i) (cells (is.sizes_are i)) (cells_bytes d.fixed d.cells) address)

  -- with any count, and any address
  pub header_is : (o : OthersBytes) (others : List (ℕ × List ℕ)) → AreOthers others o → (count : ℕ) (address : Option ℕ)
      → header_written count a c o address ≡ header_bytes count (array_messages d address (length others) ++ others)
  header_is o others are links address =
      let own = array_list a c o address in
      let bytes : messages_bytes own ++ o.bytes ≡ messages_bytes (own ++ others) = ap (λ xs. messages_bytes own ++ xs) are.bytes_are ∙ sym (messages_bytes-append own others) in
      let count : messages_count a c o address ≡ length (own ++ others) = ap (λ n. length own + n) are.count_is ∙ sym (length-append own others) in
      let size : messages_size a c o address ≡ length (messages_bytes (own ++ others)) = sym (length-append (messages_bytes own) o.bytes) ∙ ap length bytes in
      (λ i. prefix_bytes links (count i) (size i) ++ bytes i)
      ∙ (λ i. header_bytes links (messages_of (is.fixed_is i) (is.sizes_are i) (is.maxima_are i) (is.fill_is i) (chunked_is i) (layout_is address i) (are.count_is i) ++ others))

  -- whatever the K of the nodes of its chunks
  pub data_is : (k place : ℕ) → data_written k c a place ≡ data_of k (chunks_of c) d place
  data_is k place = data_by k c d is.cells_are a is.fixed_is is.sizes_are is.fill_is is.storage_is place

  -- the address of the data, which stand at this place where they are stored
  pub address_is : (place : ℕ) → address_written a c place ≡ (if is_stored (chunks_of c) d.storage then Some place else None)
  address_is place = ap (λ s. if is_stored (chunks_of c) s then Some place else None) is.storage_is

-- ---- what the layout says, by its form

module _ (a : Described) (c : Cells) (address : Option ℕ) where
  abbrev laid_by : Layout → List ℕ
  laid_by l = layout_body (storage_by l c (cells a.sizes)) a.fixed (cells a.sizes) (cells_written c a) address

  pub block_laid : (b : Option Block) (len : ℕ) → a.layout ≡ InBlock b → len ≡ cells a.sizes * (a.fixed).size → contiguous_bytes address len ≡ layout_written a c address
  block_laid b len is long = ap (contiguous_bytes address) long ∙ sym (ap laid_by is)

  pub chunks_laid : (chunk : List ℕ) (root : Option ℕ) (t : Fixed) → a.layout ≡ InChunks chunk root → t ≡ a.fixed → chunked_bytes chunk address t.size ≡ layout_written a c address
  chunks_laid chunk root t is same = ap (λ (k : Fixed). chunked_bytes chunk address k.size) same ∙ sym (ap laid_by is)

-- there are as many bytes as the cells have
room_by : (c : Cells) (d : Dataset) → AreCellsToWrite c d → length d.cells ≡ cells d.sizes → HasRoom c (cells d.sizes * (d.fixed).size)
room_by Unset d are counted = tt
room_by Filled d are counted = tt
room_by (Chunks held) d are counted = tt
room_by (Stored bytes) d are counted = ap length are ∙ length-cells_bytes d.fixed d.cells ∙ ap (λ n. n * (d.fixed).size) counted

-- and chunks have as many as their sizes say
whole_by : (c : Cells) (d : Dataset) → AreCellsToWrite c d → AreWholeChunks c
whole_by Unset d are = tt
whole_by Filled d are = tt
whole_by (Stored bytes) d are = tt
whole_by (Chunks held) d are =
    subst (λ (parts : List (List ℕ × List ℤ)). AllByRecursion (λ (part : List ℕ × List ℤ). length part.1 ≡ cells held.chunk) parts) (sym are.parts_are) (all_whole (part_offsets held)) where
      all_whole : (all : List (List ℕ)) → AllByRecursion (λ (part : List ℕ × List ℤ). length part.1 ≡ cells held.chunk) (map (λ offsets. (offsets, chunk_values d held.chunk offsets)) all)
      all_whole [] = tt
      all_whole (offsets ∷ others) =
          (length-map-range_with_len (λ place. cell_or_fill d (index_from offsets (index_of held.chunk place))) 0 (cells held.chunk), all_whole others)

-- and the layout can be written
fits_by : (l : Layout) (c : Cells) (t : Fixed) (d : Dataset) → d.fixed ≡ t → IsPlainStorage d (storage_by l c (cells d.sizes)) → FitsLayout (cells d.sizes * t.size) l
fits_by (InMessage bytes) c t d same plain = subst (λ (k : Fixed). cells d.sizes * k.size ≤ most_compact_bytes) same plain
fits_by (InBlock b) c t d same plain = tt
fits_by (InChunks chunk root) c t d same plain = (plain.ranked, plain.some)

module _ (a : Described) (c : Cells) (d : Dataset) (is : IsNewArray a c d) where
  pub room_is : length d.cells ≡ cells d.sizes → HasRoom c (cells a.sizes * (a.fixed).size)
  room_is counted = subst (λ n. HasRoom c n) (λ i. cells (sym is.sizes_are i) * (sym is.fixed_is i).size) (room_by c d is.cells_are counted)

  pub whole_is : AreWholeChunks c
  whole_is = whole_by c d is.cells_are

  pub fits_is : IsPlainStorage d d.storage → FitsLayout (cells a.sizes * (a.fixed).size) a.layout
  fits_is plain =
      let own : IsPlainStorage d (storage_by a.layout c (cells d.sizes))
      = subst (IsPlainStorage d) (sym is.storage_is ∙ ap (λ (ds : List ℕ). storage_by a.layout c (cells ds)) is.sizes_are) plain in
      subst (λ (ds : List ℕ). FitsLayout (cells ds * (a.fixed).size) a.layout) (sym is.sizes_are) (fits_by a.layout c a.fixed d (sym is.fixed_is) own)

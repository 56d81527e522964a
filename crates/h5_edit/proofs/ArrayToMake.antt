-- The bytes of a new array, as they are to stand behind a link that is put: they are its header, and behind it its cells where they are in
-- one block (File Format Specification 3.0, sections IV.A.1.a and IV.A.2).
use Rattle.std.proofs.Common.{◌≡◌, ℕ, zero, suc, ◌+◌, ◌*◌, ◌<◌, ◌≤◌, ◌^◌, true, false, IsTrue, List, [], ◌∷◌, ◌++◌, length, map, replicate, Option, Some, None, refl, sym, ap, ap₂, ◌∙◌, subst, arith, length-append}
use Rattle.std.specs.Prelude.{if◌then◌else◌}
use Rattle.std.specs.List.{AllByRecursion, AllZip, IsDistinct}
use Rattle.std.specs.FinMap.{empty, values}
use Rattle.std.proofs.lemmas.List.{length-take, length-drop}
use Rattle.std.proofs.lemmas.Slice.Zip.{AllZip-long}
use Rattle.h5_bytes.specs.Bytes.{part}
use Rattle.h5_bytes.specs.Blocks.{block, Inside, Run}
use Rattle.h5_bytes.specs.declared.Block.{Block}
use Rattle.h5_bytes.proofs.BlockLaws.{run_rises}
use Rattle.h5_header.specs.Heads.{is_read}
use Rattle.h5_header.specs.Kinds.{IsOfDataset}
use Rattle.h5_layout.specs.Data.{AreDataRead, data_blocks, dataset_told}
use Rattle.h5_layout.specs.Told.{array_told, layout_told, type_told}
use Rattle.h5_layout.proofs.ToldLaws.{told}
use Rattle.h5_model.specs.Edits.Applied.{new_dataset, new_object}
use Rattle.h5_model.specs.Edits.Refusal.{is_chunked}
use Rattle.h5_model.specs.Format.Bodies.{padded_body, fill_bytes}
use Rattle.h5_model.specs.Format.Chunks.{Chunks, HasChunks}
use Rattle.h5_model.specs.Format.Fixed.{Fixed, IsFixed}
use Rattle.h5_model.specs.Format.Layout.{Layout, InMessage, InBlock, InChunks}
use Rattle.h5_model.specs.Format.Limits.{most_bytes}
use Rattle.h5_model.specs.Format.MessageTypes.{dataspace_kind, data_layout_kind}
use Rattle.h5_model.specs.Format.Messages.{Message, HasMessages, prefix_at, reference_count, first_size, continuations, most_body_bytes}
use Rattle.h5_model.specs.Format.Nodes.{Kind, chunk_kind, node_block, node_length, reading_of, tree_blocks}
use Rattle.h5_model.specs.Format.Plain.{header_bytes, messages_bytes, message_bytes, cells_bytes}
use Rattle.h5_model.specs.Format.Reads.{HasAttributes, HasData, HasDataset, HasObject}
use Rattle.h5_model.specs.Format.Rows.{Reading, next_row, nodes}
use Rattle.h5_model.specs.Format.Sizes.{header_size, layout_size}
use Rattle.h5_model.specs.Format.Superblock.{chunk_k}
use Rattle.h5_model.specs.Format.Described.{Described, HasArray, described_dataset, storage_of}
use Rattle.h5_model.specs.Tree.Objects.{Dataset, Storage, Compact, Contiguous, Chunked, Array}
use Rattle.h5_model.specs.Tree.Places.{cells}
use Rattle.h5_model.specs.declared.dataset.Spec.{Spec}
use Rattle.h5_model.proofs.FixedLaws.{length-bytes_of}
use Rattle.h5_model.proofs.OneReading.{one_messages}
use Rattle.h5_model.proofs.PaddedLaws.{length-raised}
use Rattle.h5_model.proofs.PlainMessages.{IsPlain, messages_from, header_reads, header_counted}
use Rattle.h5_model.proofs.PlainValues.{size-high, length-cells_bytes}
use Rattle.h5_model.proofs.DescribedLaws.{in_header, dataset_in-in_header}
use Rattle.h5_query.specs.Attributes.{HasNamesOnce, attributes_of}
use Rattle.h5_query.specs.ContentBytesType.TheVariants as bytes
use Rattle.h5_query.specs.ObjectBytesType.{ObjectBytes}
use Rattle.h5_query.specs.ObjectAdded.{IsContentMade, IsOfType, IsToBeMade, content_of, object_bytes, object_place, stored_content}
use Rattle.h5_query.specs.Opened.Judged.{IsArrayList}
use Rattle.h5_query.specs.Opened.State.{FileState}
use Rattle.h5_query.specs.OpenedContentType.TheVariants as content
use Rattle.h5_query.proofs.DataLaws.{told_chunks, told_blocks}
use Rattle.h5_repack.specs.Blocks.ArrayHeader.{address_written, header_written}
use Rattle.h5_repack.specs.Blocks.Others.{OthersBytes}
use Rattle.h5_repack.specs.Blocks.Written.{AreOthers}
use Rattle.h5_repack.specs.Bodies.Bodies.{array_layout, array_messages, fill_message, others_of, space_body, type_message}
use Rattle.h5_repack.specs.Bodies.Headers.{AreStoredFor, data_of, is_stored}
use Rattle.h5_repack.specs.Bodies.Laws.{counted_header}
use Rattle.h5_repack.specs.Bodies.Sound.{IsBound, IsPlainArray, IsPlainStorage}
use Rattle.h5_repack.specs.Objects.Objects.{IsNewArray}
use Rattle.h5_repack.specs.declared.blocks.cells.Cells.TheVariants.{Filled}
use Rattle.h5_repack.proofs.BlockLaws.HeaderLaws.{header_is, data_is, address_is}
use Rattle.h5_repack.proofs.BodyLaws.HeaderArray.{IsLaid, block_laid, chunks_laid, compact_laid, laid_reads, nowhere_laid}
use Rattle.h5_repack.proofs.BodyLaws.HeaderLengths.{array_length, head_of, length-layout}
use Rattle.h5_repack.proofs.BodyLaws.HeaderSpace.{space_padded}
use Rattle.h5_repack.proofs.ChunkLaws.HeldChunks.{none_unset}
use Rattle.h5_repack.proofs.ImageLaws.Objects.{first_part, second_part}
use Rattle.h5_edit.specs.Changed.Cells.{new_count}
use Rattle.h5_edit.proofs.NewObjects.{new_data}
use Rattle.h5_edit.proofs.FitLaws.NewArrays.{IsSoundSpec, plain_new_array}
use Rattle.h5_edit.proofs.FitLaws.PlainObjects.{no_others, plain_new}

-- ---- bytes that stand in an image

part_inside : (at : ℕ) (bytes image : List ℕ) → 1 ≤ length bytes → part at (length bytes) image ≡ bytes → at + length bytes ≤ length image
unfolding part
part_inside at bytes image some there =
    let long = simp (length-take, length-drop) at (ap length there) in
    omega (arith, long)

-- blocks one behind another lie before the end of the last
run_inside : (from to end : ℕ) (bs : List Block) → to ≤ end → Run from bs to → Inside end bs
run_inside from to end [] low run = tt
run_inside from to end (b ∷ bs) low run =
    (omega (arith, run.0, run_rises (from + b.len) to bs run.1, low), run_inside (from + b.len) to end bs low run.1)

-- ---- the messages of a header without others

-- so many messages have so many bytes at most
few_bytes : (ms : List (ℕ × List ℕ)) → AllByRecursion IsPlain ms → length (messages_bytes ms) ≤ length ms * 65544
few_bytes [] all = omega arith
few_bytes (m ∷ ms) all =
    let own : length (message_bytes m) ≡ 8 + length m.1 = omega arith in
    omega (arith, own, all.0.low, few_bytes ms all.1, length-append (message_bytes m) (messages_bytes ms))

module _ (d : Dataset) (is : IsPlainArray d 0) (address : Option ℕ) where
  plain_space : IsPlain (dataspace_kind, space_body (is_chunked d.storage) d.sizes d.maxima)
  plain_space =
      let long = space_padded (is_chunked d.storage) d.sizes d.maxima is.ranked (AllZip-long IsBound d.sizes d.maxima is.bounded) in
      record { kind = omega arith; own = refl; padded = long.0; low = long.1 }

  plain_type : IsPlain (type_message d.fixed)
  plain_type = record { kind = omega arith; own = refl; padded = refl; low = omega arith }

  plain_fill : IsPlain (fill_message (is_chunked d.storage) d.fixed d.fill)
  plain_fill =
      let time : ℕ = if is_chunked d.storage then 3 else 1 in
      let value = length-bytes_of d.fixed d.fill in
      let long = length-raised (fill_bytes time d.fixed d.fill) in
      let high = size-high d.fixed is.fixed in
      record { kind = omega arith; own = refl; padded = omega (arith, long); low = omega (arith, long, value, high) }

  -- a layout is short
  short_layout : (s : Storage) → d.storage ≡ s → IsPlainStorage d s → layout_size d.sizes s (d.fixed).size ≤ most_body_bytes
  short_layout Compact e stored = omega (arith, stored)
  short_layout (Contiguous held) e stored = omega arith
  short_layout (Chunked chunk) e stored = let ranked = (is.sound).boxed chunk e in omega (arith, ranked, is.ranked)

  plain_layout : IsPlain (data_layout_kind, padded_body (array_layout d address))
  plain_layout =
      let long = length-raised (array_layout d address) in
      let counted : length (cells_bytes d.fixed d.cells) ≡ cells d.sizes * (d.fixed).size = length-cells_bytes d.fixed d.cells ∙ ap (λ n. n * (d.fixed).size) (is.sound).counted in
      let size = length-layout d.storage d.fixed d.sizes (cells_bytes d.fixed d.cells) address counted in
      let short = short_layout d.storage refl is.stored in
      record { kind = omega arith; own = refl; padded = omega (arith, long); low = omega (arith, long, size, short) }

  plain_bodies : AllByRecursion IsPlain (array_messages d address 0)
  plain_bodies = (plain_space, (plain_type, (plain_fill, (plain_layout, tt))))

  short_bodies : length (messages_bytes (array_messages d address 0)) ≤ 4 * 65544
  short_bodies = few_bytes (array_messages d address 0) plain_bodies

  module _ (at : ℕ) where
    abbrev ms : List Message
    ms = messages_from (at + 16) (array_messages d address 0)

    abbrev header : List ℕ
    header = header_bytes 1 (array_messages d address 0)

    -- the header has them wherever its bytes stand
    has_bodies : (image : List ℕ) → part at (length header) image ≡ header → HasMessages image at ms (block at (length header) ∷ [])
    has_bodies image there = header_reads image at 1 (array_messages d address 0) there plain_bodies (omega arith) (omega (arith, short_bodies))

    one_link : (image : List ℕ) → part at (length header) image ≡ header → reference_count (prefix_at image at) ≡ 1
    one_link image there = header_counted image at 1 (array_messages d address 0) there (omega arith)

    -- they are those of an array, without attributes
    known : AllByRecursion (λ (m : Message). IsTrue (is_read m.kind)) ms
    known = (refl, (refl, (refl, (refl, tt))))

    kinds : IsOfDataset ms
    kinds = record { no_table = refl; once = (refl, (refl, (refl, tt))); fills = (omega arith, (omega arith, tt)) }

    names : HasNamesOnce ms
    unfolding IsDistinct
    names = tt

    attributes : HasAttributes ms (attributes_of ms)
    unfolding IsDistinct
    attributes = record { listed = []; each = tt; distinct = tt; small = tt; all = refl }

-- ---- the content

-- a tree has a root
first_node : (V : Reading) (level root : ℕ) → (rest : List ℕ) × (nodes V level (root ∷ []) ≡ root ∷ rest)
first_node V zero root = ([], refl)
first_node V (suc level) root = (nodes V level (next_row V (root ∷ [])), refl)

-- so it takes bytes
no_tree : (image : List ℕ) (k : ℕ) (sizes : List ℕ) (bytes root : ℕ) (chunks : Chunks) (blocks : List Block) (place : ℕ)
    → HasChunks image k sizes bytes root chunks blocks → Run place blocks place → ⊥
no_tree image k sizes bytes root chunks blocks place has run =
    let kind : Kind = chunk_kind k (length sizes) in
    let first = first_node (reading_of image kind has.owned) has.level root in
    let all : blocks ≡ node_block kind root ∷ (tree_blocks kind first.0 ++ map (λ at. block at bytes) (values chunks))
    = has.laid ∙ ap (λ owned. tree_blocks kind owned ++ map (λ at. block at bytes) (values chunks)) ((has.tree).owns ∙ first.1) in
    let from_root : Run place (node_block kind root ∷ (tree_blocks kind first.0 ++ map (λ at. block at bytes) (values chunks))) place
    = subst (λ bs. Run place bs place) all run in
    let behind = run_rises (place + node_length kind) place _ from_root.1 in
    omega (arith, behind)

-- data that stand in an image, other than a tree of chunks, are those that it tells
data_read : (image : List ℕ) (t : Fixed) (layout : Layout) (chunks : Chunks) (blocks : List Block) → HasData image t layout chunks blocks → Inside (length image) blocks
    → ((sizes : List ℕ) (root : ℕ) → layout ≡ InChunks sizes (Some root) → ⊥) → AreDataRead image t layout
data_read image t (InMessage bytes) chunks blocks has inside other = tt
data_read image t (InBlock None) chunks blocks has inside other = tt
data_read image t (InBlock (Some b)) chunks blocks has inside other = let own = subst (Inside (length image)) has.1 inside in own.0
data_read image t (InChunks sizes None) chunks blocks has inside other = tt
data_read image t (InChunks sizes (Some root)) chunks blocks has inside other = absurd (other sizes root refl)

-- where the data stand of an array of which no chunk is stored, by how it is stored
laid_by : (k : ℕ) (image : List ℕ) (place others : ℕ) (d : Dataset) (s : Storage) → IsPlainArray (record d { storage = s }) others → AreStoredFor [] (record d { storage = s })
    → place + length (data_of k [] (record d { storage = s }) place) < 2 ^ 63
    → part place (length (data_of k [] (record d { storage = s }) place)) image ≡ data_of k [] (record d { storage = s }) place
    → IsLaid image place (place + length (data_of k [] (record d { storage = s }) place)) (if is_stored [] s then Some place else None) (record d { storage = s })
laid_by k image place others d Compact is are room there =
    compact_laid image place d.fixed d.sizes d.maxima d.fill d.cells is.fixed (is.sound).values (is.sound).counted is.few is.stored
laid_by k image place others d (Contiguous true) is are room there =
    block_laid image place d.fixed d.sizes d.maxima d.fill d.cells is.fixed (is.sound).values (is.sound).counted is.few (omega (arith, room)) is.stored there
laid_by k image place others d (Contiguous false) is are room there =
    nowhere_laid image place d.fixed d.sizes d.maxima d.fill d.cells is.fixed (is.sound).values (is.sound).counted is.few is.stored
laid_by k image place others d (Chunked chunk) is are room there =
    chunks_laid image place d.fixed d.sizes d.maxima d.fill d.cells is.fixed (is.sound).values (is.sound).counted is.few chunk ((is.sound).boxed chunk refl) is.ranked is.stored
    (none_unset (record d { storage = Chunked chunk }) chunk (is.sound).counted are)

module _ (k : ℕ) (d : Dataset) (is : IsPlainArray d 0) (unstored : AreStoredFor [] d) (at place : ℕ) where
  abbrev address : Option ℕ
  address = if is_stored [] d.storage then Some place else None

  abbrev messages : List Message
  messages = ms d is address at

  abbrev front : List ℕ
  front = header d is address at

  abbrev data_bytes : List ℕ
  data_bytes = data_of k [] d place

  others_none : length (others_of (new_object (Array d))) ≡ 0
  others_none = ap length (no_others (Array d))

  plain_d : IsPlainArray d (length (others_of (new_object (Array d))))
  plain_d = subst (IsPlainArray d) (sym others_none) is

  counted : counted_header 1 (new_object (Array d)) d address ≡ front
  counted = ap (λ os. header_bytes 1 (array_messages d address (length os) ++ os)) (no_others (Array d))

  size : header_size (new_object (Array d)) ≡ length front
  size = sym (array_length 1 address (new_object (Array d)) d (plain_new (Array d)) refl plain_d) ∙ ap length counted

  long : length front ≡ 16 + length (messages_bytes (array_messages d address 0))
  long = omega arith

  module _ (image : List ℕ) (there : part at (length front) image ≡ front) (data_there : part place (length data_bytes) image ≡ data_bytes)
      (low : place + length data_bytes ≤ most_bytes) (inside : place + length data_bytes ≤ length image) where
    reads : (blocks : List Block) × HasObject image empty at (new_object (Array d)) (block at (header_size (new_object (Array d))) ∷ blocks)
        × (reference_count (prefix_at image at) ≡ 1) × Run place blocks (place + length data_bytes)
    reads =
        let others : ℕ = length (others_of (new_object (Array d))) in
        let laid = laid_by k image place others d d.storage plain_d unstored (omega (arith, low)) data_there in
        laid_reads image empty at place (place + length data_bytes) 1 (header_size (new_object (Array d))) (new_object (Array d)) (plain_new (Array d)) d (head_of d others plain_d) address
        laid (omega (arith, others_none)) (omega arith) (omega (arith, size, long, short_bodies d is address)) refl
        (array_length 1 address (new_object (Array d)) d (plain_new (Array d)) refl plain_d) (ap (λ n. part at n image) size ∙ there ∙ sym counted)

    object : HasObject image empty at (new_object (Array d)) (block at (header_size (new_object (Array d))) ∷ reads.0)
    object = reads.1

    listed : HasMessages image at messages (block at (length front) ∷ [])
    listed = has_bodies d is address at image there

    messages_are : object.messages ≡ messages
    messages_are = one_messages image at object.messages messages object.header_blocks (block at (length front) ∷ []) object.listed listed

    abbrev blocks : List Block
    blocks = object.content_blocks

    dataset : HasDataset image messages d blocks
    dataset = subst (λ found. HasDataset image found d blocks) messages_are object.content

    header_blocks_are : object.header_blocks ≡ block at (length front) ∷ []
    header_blocks_are =
        (object.listed).laid ∙ ap (λ found. block at (16 + first_size (prefix_at image at)) ∷ continuations found) messages_are ∙ sym listed.laid

    blocks_are : reads.0 ≡ blocks
    blocks_are =
        let e : block at (header_size (new_object (Array d))) ∷ reads.0 ≡ block at (length front) ∷ blocks
        = object.laid ∙ ap (λ own. own ++ blocks) header_blocks_are in
        cc

    run : Run place blocks (place + length data_bytes)
    run = subst (λ bs. Run place bs (place + length data_bytes)) blocks_are reads.3

    abbrev described : Described
    described = in_header image messages d blocks dataset

    array_is : array_told messages ≡ described
    array_is = told messages described dataset.array

    list : IsArrayList messages
    list = record { kinds = kinds d is address at; attributes = attributes d is address at; array = subst (HasArray messages) (sym array_is) dataset.array }

    -- no tree of chunks stands there
    no_chunks : (sizes : List ℕ) (root : ℕ) → dataset.layout ≡ InChunks sizes (Some root) → ⊥
    no_chunks sizes root is =
        let chunked : d.storage ≡ Chunked sizes = dataset.storage ∙ ap (storage_of d.sizes) is in
        let nothing : length data_bytes ≡ 0 = ap (λ (s : Storage). length (data_of k [] (record d { storage = s }) place)) chunked in
        let ends : place + length data_bytes ≡ place = omega (arith, nothing) in
        no_tree image (chunk_k image) sizes (cells sizes * (d.fixed).size) root dataset.chunks blocks place
        (subst (λ (l : Layout). HasData image d.fixed l dataset.chunks blocks) is dataset.stored) (subst (λ to. Run place blocks to) ends run)

    read : AreDataRead image (type_told messages) (layout_told messages)
    read = subst (λ (a : Described). AreDataRead image a.fixed a.layout) (sym array_is)
        (data_read image d.fixed dataset.layout dataset.chunks blocks dataset.stored (run_inside place (place + length data_bytes) (length image) blocks inside run) no_chunks)

    dataset_is : dataset_told image (array_told messages) ≡ d
    dataset_is =
        ap (dataset_told image) array_is
        ∙ ap (described_dataset image described) (sym (told_chunks image d.fixed dataset.layout dataset.chunks blocks dataset.stored))
        ∙ dataset_in-in_header image messages d blocks dataset

    told_run : Run place (data_blocks image (type_told messages) (layout_told messages)) (place + length data_bytes)
    told_run =
        let are : blocks ≡ data_blocks image (type_told messages) (layout_told messages)
        = told_blocks image d.fixed dataset.layout dataset.chunks blocks dataset.stored ∙ ap (λ (a : Described). data_blocks image a.fixed a.layout) (sym array_is) in
        subst (λ bs. Run place bs (place + length data_bytes)) are run

    content_made : IsContentMade image messages content.Array place (place + length data_bytes) (Array d)
    content_made = record { kept = (list, read); none = refl; exact = tt; told = λ table. ap Array dataset_is; blocks = told_run }

-- ---- a new array

module _ (f : FileState) (b : ObjectBytes) (spec : Spec) (array : Described) (others : OthersBytes) (sound : IsSoundSpec spec) (fixed : IsFixed spec.fixed)
    (bounds : AllZip IsBound spec.dims spec.maxima) (new : IsNewArray array Filled (new_dataset spec)) (none : AreOthers [] others)
    (header_there : b.header.now ≡ header_written 1 array Filled others (address_written array Filled (object_place f b + length b.header.now)))
    (content_there : b.content ≡ bytes.Cells spec.fixed spec.fill (new_count array)) (low : object_place f b + length (object_bytes b) ≤ most_bytes) where
  abbrev k : ℕ
  k = chunk_k f.image

  abbrev d : Dataset
  d = new_dataset spec

  abbrev begin : ℕ
  begin = object_place f b

  abbrev place : ℕ
  place = object_place f b + length b.header.now

  is : IsPlainArray (new_dataset spec) 0
  is = plain_new_array spec sound 0 fixed bounds (omega arith)

  abbrev own_address : Option ℕ
  own_address = if is_stored [] (new_dataset spec).storage then Some place else None

  abbrev own_messages : List Message
  own_messages = ms d is own_address begin

  header_as : b.header.now ≡ header_bytes 1 (array_messages d own_address 0)
  header_as =
      header_there ∙ ap (header_written 1 array Filled others) (address_is array Filled d new place) ∙ header_is array Filled d new others [] none 1 own_address

  data_as : stored_content b.content ≡ data_of k [] d place
  data_as =
      ap stored_content content_there ∙ ap₂ (λ t v. cells_bytes t (replicate (new_count array) v)) (sym new.fixed_is) (sym new.fill_is)
      ∙ new_data array ∙ data_is array Filled d new k place

  whole : length (object_bytes b) ≡ length b.header.now + length (data_of k [] d place)
  whole = length-append b.header.now (stored_content b.content) ∙ ap (λ n. length b.header.now + n) (ap length data_as)

  some : 16 ≤ length b.header.now
  some = let long : 16 ≤ length (header_bytes 1 (array_messages d own_address 0)) = omega arith in omega (arith, long, ap length header_as)

  own_content : (image : List ℕ) → part begin (length (object_bytes b)) image ≡ object_bytes b
      → IsContentMade image own_messages (content_of b.content) place (begin + length (object_bytes b)) (Array d)
  own_content image there =
      let front_is : part begin (length (header_bytes 1 (array_messages d own_address 0))) image ≡ header_bytes 1 (array_messages d own_address 0)
      = subst (λ h. part begin (length h) image ≡ h) header_as (first_part begin b.header.now (stored_content b.content) image there) in
      let data_is : part place (length (data_of k [] d place)) image ≡ data_of k [] d place
      = subst (λ bs. part place (length bs) image ≡ bs) data_as (second_part begin b.header.now (stored_content b.content) image there) in
      let inside : begin + length (object_bytes b) ≤ length image = part_inside begin (object_bytes b) image (omega (arith, whole, some)) there in
      let end : place + length (data_of k [] d place) ≡ begin + length (object_bytes b) = omega (arith, whole) in
      subst (λ c. IsContentMade image own_messages (content_of c) place (begin + length (object_bytes b)) (Array d)) (sym content_there)
      (subst (λ to. IsContentMade image own_messages content.Array place to (Array d)) end
      (content_made k d is new.stored_are begin place image front_is data_is (omega (arith, end, low)) (omega (arith, end, inside))))

  made : IsToBeMade f b (new_object (Array (new_dataset spec)))
  made = record {
    low = low;
    of_type = subst IsOfType (sym content_there) sound.of_type;
    messages = own_messages;
    header = subst (λ h. (image : List ℕ) → part begin (length h) image ≡ h → HasMessages image begin own_messages (block begin (length h) ∷ [])) (sym header_as)
        (has_bodies d is own_address begin);
    counted = subst (λ h. (image : List ℕ) → part begin (length h) image ≡ h → reference_count (prefix_at image begin) ≡ 1) (sym header_as)
        (one_link d is own_address begin);
    known = known d is own_address begin;
    names = names d is own_address begin;
    attributes = attributes d is own_address begin;
    told = refl;
    content = λ image leaf internal there. own_content image there;
  }

-- so it is to be made at this place
pub array_to_make : (f : FileState) (b : ObjectBytes) (at : ℕ) (spec : Spec) (array : Described) (others : OthersBytes)
    → IsSoundSpec spec → IsFixed spec.fixed → AllZip IsBound spec.dims spec.maxima → IsNewArray array Filled (new_dataset spec) → AreOthers [] others
    → b.header.now ≡ header_written 1 array Filled others (address_written array Filled (at + length b.header.now))
    → b.content ≡ bytes.Cells spec.fixed spec.fill (new_count array) → at ≡ object_place f b → at + length (object_bytes b) ≤ most_bytes
    → IsToBeMade f b (new_object (Array (new_dataset spec)))
array_to_make f b at spec array others sound fixed bounds new none header content place low =
    made f b spec array others sound fixed bounds new none
    (subst (λ p. b.header.now ≡ header_written 1 array Filled others (address_written array Filled (p + length b.header.now))) place header) content
    (subst (λ p. p + length (object_bytes b) ≤ most_bytes) place low)

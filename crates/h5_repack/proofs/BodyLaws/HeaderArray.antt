-- The header of an array in the plain layout reads as that array where its layout says where its data are; so does that of cells in one
-- block, or of which none is stored (File Format Specification 3.0, sections IV.A.1.a, IV.A.2.b, IV.A.2.d, IV.A.2.f and IV.A.2.i).
use Rattle.std.proofs.Common.{◌≡◌, ℕ, ◌+◌, ◌*◌, ◌%◌, ◌^◌, ◌<◌, ◌≤◌, ◌==◌, ◌||◌, List, [], ◌∷◌, ◌++◌, length, map, replicate, get_or, refl, sym, ap, ◌∙◌, subst, arith, Bool, true, false, Option, Some, None, ℤ, pos}
use Rattle.std.proofs.lemmas.Bool.Decides.{nat_tests}
use Rattle.std.proofs.lemmas.Slice.Zip.{AllZip-long}
use Rattle.std.proofs.lemmas.List.{length-append, get_or-replicate}
use Rattle.std.proofs.lemmas.List.FromFn.{fill_by_all}
use Rattle.std.proofs.Math.Nat.{mul-le-mul}
use Rattle.std.specs.Prelude.{nat_lt, if◌then◌else◌, option_and_then}
use Rattle.std.specs.Ordering.{nat_cmp}
use Rattle.std.specs.List.{AllByRecursion, AllZip, range_with_len}
use Rattle.std.specs.FinMap.{FinMap, empty, get, get-empty}
use Rattle.std.specs.Cmp.Lexicographic.{slice_cmp}
use Rattle.h5_bytes.specs.Bytes.{part}
use Rattle.h5_bytes.proofs.PartLaws.{part-whole}
use Rattle.h5_bytes.specs.Blocks.{block, Run}
use Rattle.h5_bytes.specs.Texts.{pad8}
use Rattle.h5_bytes.specs.declared.Block.{Block}
use Rattle.h5_model.specs.Format.Limits.{most_bytes, most_cells, most_dimensions}
use Rattle.h5_model.specs.Format.MessageTypes.{data_layout_kind, dataspace_kind, datatype_kind, fill_value_kind, old_fill_value_kind, nil_kind, attribute_kind, continuation_kind}
use Rattle.h5_model.specs.Format.Cells.{cells_of, value_in_chunk}
use Rattle.h5_model.specs.Format.Chunks.{Chunks}
use Rattle.h5_model.specs.Tree.Grid.{corner_of, inner_of}
use Rattle.h5_model.specs.Format.Fill.{fill_value, old_fill_value, chosen_fill}
use Rattle.h5_model.specs.Format.Fixed.{Fixed, IsFixed, fits}
use Rattle.h5_model.specs.Edits.Refusal.{is_chunked}
use Rattle.h5_model.specs.Format.Layout.{Layout, InMessage, InBlock, InChunks, layout_of, most_compact_bytes}
use Rattle.h5_model.specs.Format.Messages.{Message, HasMessages, prefix_at, reference_count, count_of, first_body, most_messages, most_body_bytes}
use Rattle.h5_model.specs.Tree.Places.{cells, extent_cells, index_of, place_of}
use Rattle.h5_model.specs.Format.Bodies.{padded_body, datatype_bytes, fill_bytes, compact_bytes, contiguous_bytes, chunked_bytes}
use Rattle.h5_model.specs.Format.Plain.{header_bytes, cells_bytes}
use Rattle.h5_model.specs.Format.Reads.{HasObject, HasContent, HasDataset, HasData, InDataset}
use Rattle.h5_model.specs.Format.Described.{IsChunkSmall, IsFill, storage_of}
use Rattle.h5_model.specs.Tree.Sound.{AreOf}
use Rattle.h5_model.specs.Tree.Objects.{Object, Content, Array, Dataset, Storage, Compact, Contiguous, Chunked}
use Rattle.h5_model.proofs.PlainMessages.{messages_from, header_reads, header_counted}
use Rattle.h5_model.proofs.PlainValues.{size-low, size-high, length-cells_bytes, cells_of-cells_bytes}
use Rattle.h5_msg.proofs.DatatypeLaws.{fixed_back}
use Rattle.h5_msg.proofs.FillLaws.{fill_back, length-fill_bytes}
use Rattle.h5_msg.proofs.LayoutLaws.{IsAddress, compact_back, contiguous_back, chunked_back}
use Rattle.h5_model.proofs.PaddedLaws.{length-raised}
use Rattle.h5_shape.proofs.Products.{cells_le}
use Rattle.h5_repack.specs.Bodies.Bodies.{others_of, space_body, type_message, fill_message, array_layout}
use Rattle.h5_repack.specs.Bodies.Laws.{counted_header}
use Rattle.h5_repack.specs.Bodies.Sound.{IsBound, IsPlainObject, ArePlainChunks}
use Rattle.h5_repack.proofs.BodyLaws.HeaderAttributes.{sizes_small}
use Rattle.h5_repack.proofs.BodyLaws.HeaderLengths.{IsHead, length-layout}
use Rattle.h5_repack.proofs.BodyLaws.ChunkSizes.{chunk_sizes_low}
use Rattle.h5_repack.proofs.BodyLaws.HeaderOthers.{IsContentMessage, is_other_kind, is_kept_kind, each_message, others_pass, all_plain, has_attributes, has_kept, count_of-content, first_body-content}
use Rattle.h5_repack.proofs.BodyLaws.HeaderSpace.{space_back, space_padded}

-- what an array's header may hold, by its type
in_dataset : ℕ → Bool
in_dataset kind = ((kind == dataspace_kind || kind == datatype_kind) || (kind == old_fill_value_kind || kind == fill_value_kind)) || (kind == data_layout_kind || ((kind == nil_kind || kind == continuation_kind) || (kind == attribute_kind || is_kept_kind kind)))

other_in_dataset : (kind : ℕ) → is_other_kind kind ≡ true → in_dataset kind ≡ true
unfolding in_dataset
other_in_dataset kind is = grind (arith, nat_tests)

-- a body that a layout message may have
abbrev pub IsLayoutBody : List ℕ → Type 0
IsLayoutBody body = length body ≤ most_body_bytes

-- ---- any array, whatever its layout

module _ (t : Fixed) (sizes : List ℕ) (maxima : List (Option ℕ)) (fill : ℤ) (chunked : Bool) (body : List ℕ) (is : IsFixed t) (of : fits t fill ≡ true)
    (rank : length sizes ≤ most_dimensions) (bound : AllZip IsBound sizes maxima) (short_body : IsLayoutBody body) where
  abbrev time : ℕ
  time = if chunked then 3 else 1

  -- the messages, with a fill or without
  abbrev fills : Bool → List (ℕ × List ℕ)
  fills without = if without then [] else fill_message chunked t fill ∷ []

  abbrev bodies : Bool → List (ℕ × List ℕ)
  bodies without = (dataspace_kind, space_body chunked sizes maxima) ∷ type_message t ∷ (fills without ++ (data_layout_kind, padded_body body) ∷ [])

  -- ---- they are messages of a content

  space_content : IsContentMessage (dataspace_kind, space_body chunked sizes maxima)
  space_content =
      let long = space_padded chunked sizes maxima rank (AllZip-long IsBound sizes maxima bound) in
      record { plain = record { kind = omega arith; own = refl; padded = long.0; low = long.1 }; kind = refl }

  type_content : IsContentMessage (type_message t)
  type_content = record { plain = record { kind = omega arith; own = refl; padded = refl; low = omega arith }; kind = refl }

  fill_content : IsContentMessage (fill_message chunked t fill)
  fill_content =
      let long : length (padded_body (fill_bytes time t fill)) ≡ 16
      = length-raised (fill_bytes time t fill) ∙ ap pad8 (length-fill_bytes time t fill) ∙ omega (arith, size-low t is, size-high t is) in
      record { plain = record { kind = omega arith; own = refl; padded = ap (λ n. n % 8) long; low = omega arith }; kind = refl }

  layout_content : IsContentMessage (data_layout_kind, padded_body body)
  layout_content =
      let long = length-raised body in
      record { plain = record { kind = omega arith; own = refl; padded = omega (arith, long); low = omega (arith, long, short_body) }; kind = refl }

  content : (without : Bool) → AllByRecursion IsContentMessage (bodies without)
  content true = (space_content, (type_content, (layout_content, tt)))
  content false = (space_content, (type_content, (fill_content, (layout_content, tt))))

  -- ---- which there are

  few_bodies : (without : Bool) (others : ℕ) → nat_lt most_messages (4 + others) ≡ without → 3 + others ≤ most_messages → length (bodies without) + others < 65536
  few_bodies true others e few = omega (arith, few)
  few_bodies false others e few = grind (arith, nat_tests, e)

  module _ (others : List (ℕ × List ℕ)) (all : AllByRecursion (λ (m : ℕ × List ℕ). in_dataset m.0 ≡ true) others) where
    known : (without : Bool) → AllByRecursion (λ (m : ℕ × List ℕ). in_dataset m.0 ≡ true) (bodies without ++ others)
    unfolding in_dataset
    known true = (refl, (refl, (refl, all)))
    known false = (refl, (refl, (refl, (refl, all))))

  module _ (place : ℕ) where
    abbrev ms : Bool → List Message
    ms without = messages_from place (bodies without)

    one_space : (without : Bool) → count_of dataspace_kind (ms without) ≡ 1
    one_space true = refl
    one_space false = refl

    one_type : (without : Bool) → count_of datatype_kind (ms without) ≡ 1
    one_type true = refl
    one_type false = refl

    one_layout : (without : Bool) → count_of data_layout_kind (ms without) ≡ 1
    one_layout true = refl
    one_layout false = refl

    no_old_fill : (without : Bool) → count_of old_fill_value_kind (ms without) ≡ 0
    no_old_fill true = refl
    no_old_fill false = refl

    one_fill : (without : Bool) → count_of fill_value_kind (ms without) ≤ 1
    one_fill true = omega arith
    one_fill false = omega arith

    old_fill_read : (without : Bool) → IsFill (old_fill_value t) (first_body old_fill_value_kind (ms without)) None
    old_fill_read true = refl
    old_fill_read false = refl

    abbrev new_fill : Bool → Option ℤ
    new_fill without = if without then None else Some fill

    new_fill_read : (without : Bool) → IsFill (fill_value t) (first_body fill_value_kind (ms without)) (new_fill without)
    new_fill_read true = refl
    new_fill_read false = (fill_back time t fill _ (padded_body (fill_bytes time t fill)) is of refl, refl)

    chosen : (without : Bool) → (without ≡ true → fill ≡ pos 0) → fill ≡ chosen_fill (new_fill without) None
    chosen true unwritten = unwritten refl
    chosen false unwritten = refl

    layout_found : (without : Bool) → first_body data_layout_kind (ms without) ≡ Some (padded_body body)
    layout_found true = refl
    layout_found false = refl

  -- ---- the header

  module _ (at : ℕ) (p : Object) (plain : IsPlainObject p) (without : Bool) where
    abbrev own : List (ℕ × List ℕ)
    own = bodies without

    abbrev messages : List Message
    messages = messages_from (at + 16) (own ++ others_of p)

    own_content : AllByRecursion IsContentMessage own
    own_content = content without

    counted_own : (k : ℕ) → is_other_kind k ≡ false → count_of k messages ≡ count_of k (messages_from (at + 16) own)
    counted_own k kind = count_of-content p plain (at + 16) own own_content k kind

    found_own : (k : ℕ) → is_other_kind k ≡ false → first_body k messages ≡ first_body k (messages_from (at + 16) own)
    found_own k kind = first_body-content p plain (at + 16) own own_content k kind

    all_known : AllByRecursion InDataset messages
    unfolding in_dataset
    all_known = each_message in_dataset (at + 16) (own ++ others_of p)
        (known (others_of p) (others_pass p plain in_dataset other_in_dataset) without)

    -- what the layout says: the cells, how they are stored, and in which blocks
    module _ (image : List ℕ) (storage : Storage) (cs : List ℤ) (few : extent_cells sizes ≤ most_cells) (layout : Layout) (held : Chunks) (blocks : List Block) where
      abbrev array : Dataset
      array = record { fixed = t; sizes = sizes; maxima = maxima; storage = storage; fill = fill; cells = cs }

      dataset : layout_of sizes t.size (padded_body body) ≡ Some layout → storage ≡ storage_of sizes layout → IsChunkSmall t layout → HasData image t layout held blocks
          → cs ≡ cells_of image t fill sizes layout held → (without ≡ true → fill ≡ pos 0) → HasDataset image messages array blocks
      dataset laid stored small data_there cells_are unwritten =
          let old = counted_own old_fill_value_kind refl ∙ no_old_fill (at + 16) without in
          let new = counted_own fill_value_kind refl in
          record {
            known = all_known;
            layout = layout;
            array = record {
              one_space = counted_own dataspace_kind refl ∙ one_space (at + 16) without;
              one_type = counted_own datatype_kind refl ∙ one_type (at + 16) without;
              one_layout = counted_own data_layout_kind refl ∙ one_layout (at + 16) without;
              old_fills = omega (arith, old);
              fills = omega (arith, new, one_fill (at + 16) without);
              space = space_back chunked sizes maxima rank (sizes_small sizes few) bound;
              type = fixed_back t 16 (padded_body (datatype_bytes t)) is refl;
              filled = record {
                old_fill = None;
                new_fill = new_fill (at + 16) without;
                old_filled = subst (λ body. IsFill (old_fill_value t) body None) (sym (found_own old_fill_value_kind refl)) (old_fill_read (at + 16) without);
                new_filled = subst (λ body. IsFill (fill_value t) body (new_fill (at + 16) without)) (sym (found_own fill_value_kind refl)) (new_fill_read (at + 16) without);
                filled = chosen (at + 16) without unwritten;
              };
              laid_out = ap (option_and_then (layout_of sizes t.size)) (found_own data_layout_kind refl ∙ layout_found (at + 16) without) ∙ laid;
              small = few;
              chunk_small = small;
            };
            storage = stored;
            chunks = held;
            stored = data_there;
            cells = cells_are;
          }

      module _ (count : ℕ) where
        abbrev header : List ℕ
        header = header_bytes count (own ++ others_of p)

        module _ (whole : part at (length header) image ≡ header)
            (fits_in : nat_lt most_messages (4 + length (others_of p)) ≡ without) (most : 3 + length (others_of p) ≤ most_messages)
            (short : length header < most_bytes) where
          listed : HasMessages image at messages (block at (length header) ∷ [])
          listed =
              let many = length-append own (others_of p) in
              let enough = few_bodies without (length (others_of p)) fits_in most in
              header_reads image at count (own ++ others_of p) whole (all_plain p plain (at + 16) own own_content) (omega (arith, many, enough)) (omega (arith, short))

          counted_so : count < 2 ^ 32 → reference_count (prefix_at image at) ≡ count
          counted_so few_links = header_counted image at count (own ++ others_of p) whole few_links

          object : (table : FinMap nat_cmp ℕ) → p.content ≡ Array array → HasDataset image messages array blocks
              → HasObject image table at p (block at (length header) ∷ blocks)
          object table e has = record {
            messages = messages;
            header_blocks = block at (length header) ∷ [];
            listed = listed;
            content_blocks = blocks;
            content = subst (λ (c : Content). HasContent image table messages c blocks) (sym e) has;
            attributes = has_attributes p plain (at + 16) own own_content;
            kept = has_kept p plain (at + 16) own own_content;
            laid = refl;
          }

-- ---- what is read of its layout

-- The layout message of an array with this address says this of it, and its data are these blocks from the place to the end, without gaps.
pub record IsLaid (image : List ℕ) (place end : ℕ) (address : Option ℕ) (d : Dataset) : Type 0 where
  pub layout : Layout
  pub chunks : Chunks
  pub blocks : List Block
  pub run : Run place blocks end
  pub short : IsLayoutBody (array_layout d address)
  pub says : layout_of d.sizes (d.fixed).size (padded_body (array_layout d address)) ≡ Some layout
  pub storage : d.storage ≡ storage_of d.sizes layout
  pub small : IsChunkSmall d.fixed layout
  pub stored : HasData image d.fixed layout chunks blocks
  pub cells_are : d.cells ≡ cells_of image d.fixed d.fill d.sizes layout chunks

module _ (image : List ℕ) (place : ℕ) (t : Fixed) (sizes : List ℕ) (maxima : List (Option ℕ)) (fill : ℤ) (cs : List ℤ) (is : IsFixed t) (all : AreOf t cs)
    (counted : length cs ≡ cells sizes) (few : extent_cells sizes ≤ most_cells) where
  abbrev bytes : List ℕ
  bytes = cells_bytes t cs

  abbrev array_by : Storage → Dataset
  array_by storage = record { fixed = t; sizes = sizes; maxima = maxima; storage = storage; fill = fill; cells = cs }

  long : length bytes ≡ cells sizes * t.size
  long = length-cells_bytes t cs ∙ ap (λ n. n * t.size) counted

  room : cells sizes * t.size ≤ most_cells * 8
  room = let cells_few : cells sizes ≤ most_cells = omega (arith, few, cells_le sizes) in mul-le-mul cells_few (size-high t is)

  -- each cell reads the fill where none is stored
  filled : cs ≡ replicate (cells sizes) fill → (read : ℕ → ℤ) → ((k : ℕ) → fill ≡ read k) → cs ≡ map read (range_with_len 0 (cells sizes))
  filled unset read is =
      fill_by_all read cs (cells sizes) fill counted (λ k low. ap (λ (vs : List ℤ). get_or vs k fill) unset ∙ get_or-replicate (cells sizes) k fill fill low ∙ is k)

  pub compact_laid : cells sizes * t.size ≤ most_compact_bytes → IsLaid image place (place + 0) None (array_by Compact)
  compact_laid low =
      let whole : part 0 (length bytes) bytes ≡ bytes = part-whole bytes in
      record {
        layout = InMessage bytes;
        chunks = empty;
        blocks = [];
        run = omega arith;
        short = omega (arith, low, long);
        says = compact_back bytes _ (padded_body (compact_bytes bytes)) sizes t.size (omega (arith, low, long)) refl (sym long);
        storage = refl;
        small = tt;
        stored = (refl, refl);
        cells_are = cells_of-cells_bytes bytes t fill sizes (block 0 (length bytes)) empty cs (size-low t is) all counted whole
            ∙ ap (λ (ds : List ℕ). cells_of image t fill sizes (InMessage ds) empty) whole;
      }

  pub block_laid : place < 2 ^ 63 → 1 ≤ cells sizes → part place (length bytes) image ≡ bytes → IsLaid image place (place + length bytes) (Some place) (array_by (Contiguous true))
  block_laid low some stands =
      let len : ℕ = cells sizes * t.size in
      let there : IsAddress (Some place) = λ n e. let same : place ≡ n = cc in omega (arith, low, same) in
      let any : true ≡ nat_lt 0 (cells sizes) = grind (arith, nat_tests, some) in
      record {
        layout = InBlock (Some (block place len));
        chunks = empty;
        blocks = block place (length bytes) ∷ [];
        run = (refl, refl);
        short = omega arith;
        says = contiguous_back (Some place) len 24 (padded_body (contiguous_bytes (Some place) len)) sizes t.size there (omega (arith, room)) refl (omega arith);
        storage = ap (λ b. Contiguous b) any;
        small = tt;
        stored = (refl, ap (λ n. block place n ∷ []) long);
        cells_are = cells_of-cells_bytes image t fill sizes (block place len) empty cs (size-low t is) all counted (ap (λ n. part place n image) (sym long) ∙ stands);
      }

  pub nowhere_laid : cs ≡ replicate (cells sizes) fill → IsLaid image place (place + 0) None (array_by (Contiguous false))
  nowhere_laid unset =
      let len : ℕ = cells sizes * t.size in
      let there : IsAddress None = λ n e. absurd (cc) in
      record {
        layout = InBlock None;
        chunks = empty;
        blocks = [];
        run = omega arith;
        short = omega arith;
        says = contiguous_back None len 24 (padded_body (contiguous_bytes None len)) sizes t.size there (omega (arith, room)) refl (omega arith);
        storage = refl;
        small = tt;
        stored = (refl, refl);
        cells_are = filled unset (λ k. fill) (λ k. refl);
      }

  pub chunks_laid : (chunk : List ℕ) → length chunk ≡ length sizes → length sizes ≤ most_dimensions → ArePlainChunks t chunk → cs ≡ replicate (cells sizes) fill → IsLaid image place (place + 0) None (array_by (Chunked chunk))
  chunks_laid chunk same rank plain unset =
      let there : IsAddress None = λ n e. absurd (cc) in
      let body : List ℕ = chunked_bytes chunk None t.size in
      let body_long : length body ≡ 11 + 4 * (length chunk + 1) = length-layout (Chunked chunk) t sizes bytes None long in
      record {
        layout = InChunks chunk None;
        chunks = empty;
        blocks = [];
        run = omega arith;
        short = omega (arith, body_long, same, rank);
        says = chunked_back chunk None t.size _ (padded_body body) sizes (chunk_sizes_low t chunk (size-low t is) plain) plain.some there plain.ranked
            (omega (arith, size-high t is)) refl (sym same);
        storage = refl;
        small = plain.small;
        stored = (refl, refl);
        cells_are = filled unset
            (λ k. value_in_chunk image t fill (cells chunk * t.size) (place_of chunk (inner_of chunk (index_of sizes k))) (get empty (corner_of chunk (index_of sizes k))))
            (λ k. ap (value_in_chunk image t fill (cells chunk * t.size) (place_of chunk (inner_of chunk (index_of sizes k))))
            (sym (get-empty (slice_cmp nat_cmp) (corner_of chunk (index_of sizes k)))));
      }

-- ---- any array in this layout

module _ (image : List ℕ) (table : FinMap nat_cmp ℕ) (at place end count size : ℕ) (p : Object) (plain : IsPlainObject p) (d : Dataset) (is : IsHead d (length (others_of p)))
    (address : Option ℕ) (laid : IsLaid image place end address d) (most : 3 + length (others_of p) ≤ most_messages) (few_links : count < 2 ^ 32) (short : size < most_bytes) where
  abbrev without : Bool
  without = nat_lt most_messages (4 + length (others_of p))

  unwritten : without ≡ true → d.fill ≡ pos 0
  unwritten h = let many : most_messages < 4 + length (others_of p) = grind (arith, nat_tests, h) in is.unwritten many

  abbrev body : List ℕ
  body = array_layout d address

  has : HasDataset image (messages d.fixed d.sizes d.maxima d.fill (is_chunked d.storage) body is.fixed (is.sound).fill is.ranked is.bounded laid.short at p plain without) d laid.blocks
  has = dataset d.fixed d.sizes d.maxima d.fill (is_chunked d.storage) body is.fixed (is.sound).fill is.ranked is.bounded laid.short at p plain without
      image d.storage d.cells is.few laid.layout laid.chunks laid.blocks laid.says laid.storage laid.small laid.stored laid.cells_are unwritten

  -- its header, with any count, is that of the array, and has that count
  pub laid_reads : p.content ≡ Array d → length (counted_header count p d address) ≡ size → part at size image ≡ counted_header count p d address
      → (blocks : List Block) × HasObject image table at p (block at size ∷ blocks) × (reference_count (prefix_at image at) ≡ count) × Run place blocks end
  laid_reads e long stands_at =
      let whole : part at (length (counted_header count p d address)) image ≡ counted_header count p d address = ap (λ n. part at n image) long ∙ stands_at in (
        laid.blocks,
        subst (λ n. HasObject image table at p (block at n ∷ laid.blocks)) long
            (object d.fixed d.sizes d.maxima d.fill (is_chunked d.storage) body is.fixed (is.sound).fill is.ranked is.bounded laid.short at p plain without
            image d.storage d.cells is.few laid.layout laid.chunks laid.blocks count whole refl most (omega (arith, short, long)) table e has),
        counted_so d.fixed d.sizes d.maxima d.fill (is_chunked d.storage) body is.fixed (is.sound).fill is.ranked is.bounded laid.short at p plain without
            image d.storage d.cells is.few laid.layout laid.chunks laid.blocks count whole refl most (omega (arith, short, long)) few_links,
        laid.run,
      )

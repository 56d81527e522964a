-- How many bytes the header of an array has in the plain layout (File Format Specification 3.0, sections IV.A.1.a and IV.A.2).
use Rattle.std.proofs.Common.{◌≡◌, ℕ, ◌+◌, ◌*◌, List, [], ◌∷◌, ◌++◌, length, refl, ap, ◌≤◌, ◌∙◌, arith, Bool, true, false, ◌||◌, not, Option, ℤ, length-append}
use Rattle.std.proofs.lemmas.Slice.Zip.{AllZip-long}
use Rattle.std.specs.Prelude.{nat_lt, if◌then◌else◌, ◌<◌, pos}
use Rattle.std.specs.List.{AllZip}
use Rattle.h5_model.specs.Format.Limits.{most_cells, most_dimensions}
use Rattle.h5_model.specs.Format.MessageTypes.{dataspace_kind, data_layout_kind}
use Rattle.h5_model.specs.Format.Messages.{most_messages}
use Rattle.h5_bytes.specs.Texts.{pad8}
use Rattle.h5_bytes.specs.Bytes.{little_bytes}
use Rattle.h5_model.specs.Edits.Refusal.{is_chunked}
use Rattle.h5_model.specs.Format.Bodies.{padded_body, fill_bytes, short_words}
use Rattle.h5_model.specs.Format.Fixed.{Fixed, IsFixed}
use Rattle.h5_model.specs.Tree.Places.{cells, extent_cells}
use Rattle.h5_model.specs.Tree.Sound.{IsDataset}
use Rattle.h5_model.specs.Format.Plain.{header_bytes, messages_bytes, cells_bytes}
use Rattle.h5_model.specs.Format.Sizes.{array_messages_size as messages_size, dataspace_length, extent_size, header_size, layout_size, message_size, writes_maxima}
use Rattle.h5_model.specs.Tree.Objects.{Object, Array, Dataset, Storage, Compact, Contiguous, Chunked, are_sizes}
use Rattle.h5_model.proofs.PaddedLaws.{length-raised}
use Rattle.h5_model.proofs.PlainValues.{length-cells_bytes}
use Rattle.h5_msg.proofs.FillLaws.{length-fill_bytes}
use Rattle.h5_msg.proofs.LayoutLaws.{short_words_long}
use Rattle.h5_repack.specs.Bodies.Bodies.{others_of, space_body, type_message, fill_message, fill_messages, layout_body, messages_of, array_layout, array_messages}
use Rattle.h5_repack.specs.Bodies.Laws.{ArrayLength, counted_header}
use Rattle.h5_repack.specs.Bodies.Sound.{IsBound, IsPlainArray, IsPlainObject}
use Rattle.h5_repack.proofs.BodyLaws.HeaderOthers.{one_more, length-messages, length-others, count-others}
use Rattle.h5_repack.proofs.BodyLaws.HeaderSpace.{length-space_body, space_padded}

-- ---- layouts

-- wherever the data are
pub length-layout : (s : Storage) (t : Fixed) (sizes : List ℕ) (bytes : List ℕ) (address : Option ℕ) → length bytes ≡ cells sizes * t.size
    → length (layout_body s t (cells sizes) bytes address) ≡ layout_size sizes s t.size
length-layout Compact t sizes bytes address long = omega (arith, long)
length-layout (Contiguous stored) t sizes bytes address long = refl
length-layout (Chunked chunk) t sizes bytes address long =
    omega (arith, short_words_long chunk, length-append (short_words chunk) (little_bytes 4 t.size))

-- ---- the messages of an array

-- their bytes, of which a layout has so many
pub length-messages_of : (t : Fixed) (sizes : List ℕ) (maxima : List (Option ℕ)) (fill : ℤ) (chunked : Bool) (layout : List ℕ) (others : ℕ)
    → length (messages_bytes (messages_of t sizes maxima fill chunked layout others))
    ≡ 8 + length (space_body chunked sizes maxima) + (24 + (length (messages_bytes (fill_messages chunked t fill others)) + message_size (length layout)))
length-messages_of t sizes maxima fill chunked layout others =
    let laid : ℕ × List ℕ = (data_layout_kind, padded_body layout) in
    let fills : List (ℕ × List ℕ) = fill_messages chunked t fill others in
    let behind = length-messages fills (laid ∷ []) in
    let last : length (messages_bytes (laid ∷ [])) ≡ 8 + pad8 (length layout) + 0 = one_more laid [] (pad8 (length layout)) 0 (length-raised layout) refl in
    let rest : length (messages_bytes (fills ++ laid ∷ [])) ≡ length (messages_bytes fills) + message_size (length layout) = omega (arith, behind, last) in
    let typed = one_more (type_message t) (fills ++ laid ∷ []) 16 _ refl rest in
    one_more (dataspace_kind, space_body chunked sizes maxima) (type_message t ∷ (fills ++ laid ∷ [])) (length (space_body chunked sizes maxima)) _ refl typed

-- the header of an array with these messages besides, with such a count
abbrev header_of : ℕ → Dataset → List (ℕ × List ℕ) → Option ℕ → List ℕ
header_of count d others address = header_bytes count (array_messages d address (length others) ++ others)

-- a count has four bytes, and an address has eight
length-header_of : (count : ℕ) (d : Dataset) (others : List (ℕ × List ℕ)) (address : Option ℕ) → length (header_of count d others address)
    ≡ 16 + length (messages_bytes (array_messages d address (length others))) + length (messages_bytes others)
length-header_of count d others address =
    let both = length-messages (array_messages d address (length others)) others in
    omega (arith, both)

-- an array that a header can have, beside so many other messages, however it is stored
pub record IsHead (d : Dataset) (others : ℕ) : Type 0 where
  pub ranked : length d.sizes ≤ most_dimensions
  pub bounded : AllZip IsBound d.sizes d.maxima
  pub few : extent_cells d.sizes ≤ most_cells
  pub fixed : IsFixed d.fixed
  pub sound : IsDataset d
  pub unwritten : most_messages < 4 + others → d.fill ≡ pos 0

pub head_of : (d : Dataset) (others : ℕ) → IsPlainArray d others → IsHead d others
head_of d others is = record {
  ranked = is.ranked;
  bounded = is.bounded;
  few = is.few;
  fixed = is.fixed;
  sound = is.sound;
  unwritten = is.unwritten;
}

as_many : (d : Dataset) (others : ℕ) → IsHead d others → length d.maxima ≡ length d.sizes
as_many d others is = AllZip-long IsBound d.sizes d.maxima is.bounded

-- ---- the bytes that are counted for them

pub fill_counted : (chunked : Bool) (t : Fixed) (fill : ℤ) (w : Bool)
    → length (messages_bytes (if w then [] else fill_message chunked t fill ∷ [])) ≡ (if w then 0 else message_size (8 + t.size))
fill_counted chunked t fill true = refl
fill_counted chunked t fill false =
    let time : ℕ = if chunked then 3 else 1 in
    one_more (fill_message chunked t fill) [] (pad8 (8 + t.size)) 0 (length-raised (fill_bytes time t fill) ∙ ap pad8 (length-fill_bytes time t fill)) refl ∙ omega arith

-- maxima are counted where they are written
writes_counted : (sizes : List ℕ) (maxima : List (Option ℕ)) (s : Storage) → (is_chunked s || not (are_sizes sizes maxima)) ≡ writes_maxima sizes maxima s
writes_counted sizes maxima Compact = refl
writes_counted sizes maxima (Contiguous stored) = refl
writes_counted sizes maxima (Chunked chunk) = refl

messages_counted : (d : Dataset) (address : Option ℕ) (others : ℕ) → IsHead d others
    → length (messages_bytes (array_messages d address others)) ≡ messages_size others d.sizes d.maxima d.storage (d.fixed).size
messages_counted d address others is =
    let chunked : Bool = is_chunked d.storage in
    let same = as_many d others is in
    let space : message_size (length (space_body chunked d.sizes d.maxima)) ≡ message_size (extent_size d.sizes d.maxima d.storage)
    = ap message_size (length-space_body chunked d.sizes d.maxima same
    ∙ ap (λ b. dataspace_length (length d.sizes) + (if b then 8 * length d.sizes else 0)) (writes_counted d.sizes d.maxima d.storage)) in
    let extent = (space_padded chunked d.sizes d.maxima is.ranked same).2 in
    let fills = fill_counted chunked d.fixed d.fill (nat_lt most_messages (4 + others)) in
    let long : length (cells_bytes d.fixed d.cells) ≡ cells d.sizes * (d.fixed).size
    = length-cells_bytes d.fixed d.cells ∙ ap (λ n. n * (d.fixed).size) (is.sound).counted in
    let layout : message_size (length (array_layout d address)) ≡ message_size (layout_size d.sizes d.storage (d.fixed).size)
    = ap message_size (length-layout d.storage d.fixed d.sizes (cells_bytes d.fixed d.cells) address long) in
    let all = length-messages_of d.fixed d.sizes d.maxima d.fill chunked (array_layout d address) others in
    omega (arith, all, space, extent, fills, layout)

-- the header's length is the one that is counted
pub head_length : (count : ℕ) (address : Option ℕ) (p : Object) (d : Dataset) → IsPlainObject p → p.content ≡ Array d → IsHead d (length (others_of p))
    → length (counted_header count p d address) ≡ header_size p
head_length count address p d plain e is =
    let counted = messages_counted d address (length (others_of p)) is in
    let many = ap (λ k. messages_size k d.sizes d.maxima d.storage (d.fixed).size) (count-others p plain) in
    let own = length-header_of count d (others_of p) address in
    let sum = length-others p plain in
    rw e (omega (arith, own, sum, counted, many))

pub array_length : ArrayLength
array_length count address p d plain e is = head_length count address p d plain e (head_of d (length (others_of p)) is)

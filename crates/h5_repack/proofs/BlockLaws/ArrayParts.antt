-- The header and the data of an array to be written: how they are appended, and their lengths.
use Rattle.std.proofs.Common.{◌≡◌, ℕ, zero, suc, ◌+◌, ◌*◌, ◌<◌, ◌≤◌, ℤ, Option, Some, take, drop, set, List, [], ◌∷◌, ◌++◌, length, replicate, Bool, true, false, ◌||◌, not, ap, ◌∙◌, sym, arith, append_assoc, append-nil, length-append}
use Rattle.std.proofs.lemmas.List.{length-replicate}
use Rattle.std.proofs.lemmas.Option.{same_Some}
use Rattle.std.specs.Prelude.{nat_lt, if◌then◌else◌, slice_get, slice_index}
use Rattle.std.proofs.lemmas.Bool.{not-true}
use Rattle.h5_model.specs.Format.Limits.{most_dimensions}
use Rattle.h5_model.specs.Format.MessageTypes.{dataspace_kind, data_layout_kind}
use Rattle.h5_model.specs.Format.Messages.{most_messages}
use Rattle.h5_bytes.specs.Texts.{pad8}
use Rattle.h5_model.specs.Format.Bodies.{padded_body, dataspace_bytes, bounded_bytes, fill_bytes, chunked_bytes, short_words}
use Rattle.h5_model.specs.Format.Fixed.{Fixed}
use Rattle.h5_model.specs.Format.Plain.{message_bytes, messages_bytes, cells_bytes}
use Rattle.h5_model.specs.Format.Sizes.{dataspace_length, layout_size, message_size}
use Rattle.h5_model.specs.Tree.Objects.{are_sizes}
use Rattle.h5_model.proofs.PlainValues.{length-cells_bytes}
use Rattle.h5_bytes.specs.Bytes.{little_bytes}
use Rattle.h5_msg.proofs.FillLaws.{length-fill_bytes}
use Rattle.h5_msg.proofs.LayoutLaws.{short_words_long}
use Rattle.h5_model.specs.Tree.Places.{cells}
use Rattle.h5_model.proofs.PaddedLaws.{length-raised, padded_full}
use Rattle.h5_repack.specs.Bodies.Bodies.{space_body, type_message, fill_message, fill_messages}
use Rattle.h5_model.specs.Format.Described.{Described}
use Rattle.h5_repack.specs.Blocks.Others.{OthersBytes}
use Rattle.h5_repack.proofs.BodyLaws.HeaderSpace.{length-space_body, space_padded}
use Rattle.h5_repack.specs.Blocks.ArrayHeader.{array_list, cells_written, data_written, has_data, header_written, in_chunks, layout_written, messages_count, messages_size, storage_written, stored_written}
use Rattle.h5_repack.specs.Blocks.Parts.{prefix_bytes}
use Rattle.h5_repack.specs.Blocks.Written.{HasRoom}
use Rattle.h5_repack.specs.declared.blocks.cells.Cells.{Cells}
use Rattle.h5_repack.specs.declared.blocks.cells.Cells.TheVariants.{Unset, Filled, Stored, Chunks}
use Rattle.h5_repack.proofs.BodyLaws.HeaderLengths.{length-layout}
use Rattle.h5_repack.proofs.BlockLaws.Messages.{messages_bytes-append}

-- ---- the dataspace message

-- one maximum more is read
pub maxima_step : (xs ms : List (Option ℕ)) (k : ℕ) (m : Option ℕ) → k < length xs → slice_get ms k ≡ Some m
    → take (suc k) (set xs k m) ++ drop (suc k) ms ≡ take k xs ++ drop k ms
maxima_step [] ms k m low is = absurd (omega (arith, low))
maxima_step (x ∷ xs) [] zero m low is = absurd (cc)
maxima_step (x ∷ xs) [] (suc k) m low is = absurd (cc)
maxima_step (x ∷ xs) (y ∷ ms) zero m low is = ap (λ (o : Option ℕ). o ∷ ms) (sym (same_Some y m is))
maxima_step (x ∷ xs) (y ∷ ms) (suc k) m low is = ap (λ (os : List (Option ℕ)). x ∷ os) (maxima_step xs ms k m (omega (arith, low)) is)

-- one chunk size more is read
pub size_step : (xs ns : List ℕ) (k n : ℕ) → k < length xs → k < length ns → n ≡ slice_index ns k
    → take (suc k) (set xs k n) ++ drop (suc k) ns ≡ take k xs ++ drop k ns
size_step [] ns k n low there is = absurd (omega (arith, low))
size_step (x ∷ xs) [] k n low there is = absurd (omega (arith, there))
size_step (x ∷ xs) (y ∷ ns) zero n low there is = ap (λ (o : ℕ). o ∷ ns) is
size_step (x ∷ xs) (y ∷ ns) (suc k) n low there is = ap (λ (os : List ℕ). x ∷ os) (size_step xs ns k n (omega (arith, low)) (omega (arith, there)) is)

-- chunk sizes in a layout message
pub length-chunked : (chunk : List ℕ) (tree : Option ℕ) (size : ℕ) → length (chunked_bytes chunk tree size) ≡ 11 + 4 * (length chunk + 1)
length-chunked chunk tree size = omega (arith, short_words_long chunk, length-append (short_words chunk) (little_bytes 4 size))

module _ (chunked : Bool) (sizes : List ℕ) (maxima : List (Option ℕ)) where
  abbrev space_by : Bool → List ℕ
  space_by b = message_bytes (dataspace_kind, padded_body (if b then bounded_bytes sizes maxima else dataspace_bytes sizes))

  -- there is no zero behind it
  same_body : length sizes ≤ most_dimensions → length maxima ≡ length sizes → padded_body (space_body chunked sizes maxima) ≡ space_body chunked sizes maxima
  same_body rank same =
      let long = (space_padded chunked sizes maxima rank same).2 in
      padded_full (space_body chunked sizes maxima) (pad8 (length (space_body chunked sizes maxima))) (omega (arith, long))

  pub space_own : length sizes ≤ most_dimensions → length maxima ≡ length sizes → (chunked || not (are_sizes sizes maxima)) ≡ false
      → message_bytes (dataspace_kind, padded_body (dataspace_bytes sizes)) ≡ message_bytes (dataspace_kind, space_body chunked sizes maxima)
  space_own rank same own = sym (ap space_by own) ∙ ap (λ body. message_bytes (dataspace_kind, body)) (same_body rank same)

  pub space_bounded : length sizes ≤ most_dimensions → length maxima ≡ length sizes → (chunked || not (are_sizes sizes maxima)) ≡ true
      → message_bytes (dataspace_kind, padded_body (bounded_bytes sizes maxima)) ≡ message_bytes (dataspace_kind, space_body chunked sizes maxima)
  space_bounded rank same other = sym (ap space_by other) ∙ ap (λ body. message_bytes (dataspace_kind, body)) (same_body rank same)

  -- its length
  pub length-space : length sizes ≤ most_dimensions → length maxima ≡ length sizes
      → message_size (dataspace_length (length sizes) + (if chunked || not (are_sizes sizes maxima) then 8 * length sizes else 0))
      ≡ length (message_bytes (dataspace_kind, space_body chunked sizes maxima))
  length-space rank same =
      let long = (space_padded chunked sizes maxima rank same).2 in
      ap message_size (sym (length-space_body chunked sizes maxima same)) ∙ sym long ∙ omega arith

-- ---- the fill value message

module _ (chunked : Bool) (t : Fixed) (fill : ℤ) (others : ℕ) where
  abbrev fill_by : Bool → List (ℕ × List ℕ)
  fill_by b = if b then [] else fill_message chunked t fill ∷ []

  pub fill_there : not (nat_lt most_messages (4 + others)) ≡ true → messages_bytes (fill_messages chunked t fill others) ≡ message_bytes (fill_message chunked t fill)
  fill_there few = ap (λ b. messages_bytes (fill_by b)) (not-true (nat_lt most_messages (4 + others)) few) ∙ append-nil (message_bytes (fill_message chunked t fill))

  pub length-fill : not (nat_lt most_messages (4 + others)) ≡ true → message_size (8 + t.size) ≡ length (messages_bytes (fill_messages chunked t fill others))
  length-fill few =
      let time : ℕ = if chunked then 3 else 1 in
      let long : length (padded_body (fill_bytes time t fill)) ≡ pad8 (8 + t.size) = length-raised (fill_bytes time t fill) ∙ ap pad8 (length-fill_bytes time t fill) in
      sym (ap length (fill_there few) ∙ omega (arith, long))

-- ---- the header

six : (out o1 o2 o3 o4 o5 o6 p a b c d g : List ℕ) → o1 ≡ out ++ p → o2 ≡ o1 ++ a → o3 ≡ o2 ++ b → o4 ≡ o3 ++ c → o5 ≡ o4 ++ d → o6 ≡ o5 ++ g
    → o6 ≡ out ++ (p ++ ((a ++ (b ++ (c ++ (d ++ [])))) ++ g))
six out o1 o2 o3 o4 o5 o6 p a b c d g e1 e2 e3 e4 e5 e6 = rw (e6, e5, e4, e3, e2, e1) (simp (append_assoc, append-nil))

module _ (a : Described) (c : Cells) (o : OthersBytes) (address : Option ℕ) where
  abbrev space : ℕ × List ℕ
  space = (dataspace_kind, space_body (in_chunks a.layout) a.sizes a.maxima)

  abbrev fills : List (ℕ × List ℕ)
  fills = fill_messages (in_chunks a.layout) a.fixed a.fill o.count

  abbrev layout : ℕ × List ℕ
  layout = (data_layout_kind, padded_body (layout_written a c address))

  pub list_is : messages_bytes (array_list a c o address)
      ≡ message_bytes space ++ (message_bytes (type_message a.fixed) ++ (messages_bytes fills ++ (message_bytes layout ++ [])))
  list_is = ap (λ bytes. message_bytes space ++ (message_bytes (type_message a.fixed) ++ bytes)) (messages_bytes-append fills (layout ∷ []))

  pub length-list : messages_size a c o address
      ≡ length (message_bytes space) + (24 + (length (messages_bytes fills) + length (message_bytes layout))) + length o.bytes
  length-list =
      let all = ap length list_is in
      let fill = length-append (messages_bytes fills) (message_bytes layout ++ []) in
      let last = length-append (message_bytes layout) [] in
      let typed = length-append (message_bytes (type_message a.fixed)) (messages_bytes fills ++ (message_bytes layout ++ [])) in
      let first = length-append (message_bytes space) (message_bytes (type_message a.fixed) ++ (messages_bytes fills ++ (message_bytes layout ++ []))) in
      omega (arith, all, fill, last, typed, first)

  pub header_pushed : (count : ℕ) (out o1 o2 o3 o4 o5 o6 : List ℕ) → o1 ≡ out ++ prefix_bytes count (messages_count a c o address) (messages_size a c o address)
      → o2 ≡ o1 ++ message_bytes space → o3 ≡ o2 ++ message_bytes (type_message a.fixed) → o4 ≡ o3 ++ messages_bytes fills
      → o5 ≡ o4 ++ message_bytes layout → o6 ≡ o5 ++ o.bytes → o6 ≡ out ++ header_written count a c o address
  header_pushed count out o1 o2 o3 o4 o5 o6 e1 e2 e3 e4 e5 e6 =
      six out o1 o2 o3 o4 o5 o6 (prefix_bytes count (messages_count a c o address) (messages_size a c o address)) (message_bytes space) (message_bytes (type_message a.fixed))
      (messages_bytes fills) (message_bytes layout) o.bytes e1 e2 e3 e4 e5 e6
      ∙ ap (λ bytes. out ++ (prefix_bytes count (messages_count a c o address) (messages_size a c o address) ++ (bytes ++ o.bytes))) (sym list_is)

  pub length-header : (count : ℕ) → length (header_written count a c o address) ≡ 16 + messages_size a c o address
  length-header count = omega (arith, length-append (messages_bytes (array_list a c o address)) o.bytes)

-- the bytes of equal cells
pub length-filled : (t : Fixed) (fill : ℤ) (count : ℕ) → count * t.size ≡ length (cells_bytes t (replicate count fill))
length-filled t fill count = sym (length-cells_bytes t (replicate count fill) ∙ ap (λ n. n * t.size) (length-replicate count fill))

-- as many bytes as cells have
pub length-cells_written : (c : Cells) (a : Described) → HasRoom c (cells a.sizes * (a.fixed).size) → length (cells_written c a) ≡ cells a.sizes * (a.fixed).size
length-cells_written Unset a room = sym (length-filled a.fixed a.fill (cells a.sizes))
length-cells_written Filled a room = sym (length-filled a.fixed a.fill (cells a.sizes))
length-cells_written (Stored bytes) a room = room
length-cells_written (Chunks held) a room = sym (length-filled a.fixed a.fill (cells a.sizes))

-- a layout message, wherever the data are
pub length-laid : (a : Described) (c : Cells) (address : Option ℕ) → HasRoom c (cells a.sizes * (a.fixed).size)
    → length (message_bytes (data_layout_kind, padded_body (layout_written a c address))) ≡ message_size (layout_size a.sizes (storage_written a c) (a.fixed).size)
length-laid a c address room =
    let body : List ℕ = layout_written a c address in
    let long : length body ≡ layout_size a.sizes (storage_written a c) (a.fixed).size
    = length-layout (storage_written a c) a.fixed a.sizes (cells_written c a) address (length-cells_written c a room) in
    let own : length (message_bytes (data_layout_kind, padded_body body)) ≡ 8 + length (padded_body body) = omega arith in
    own ∙ ap (λ n. 8 + n) (length-raised body ∙ ap pad8 long)

-- ---- data behind the header

module _ (chunk_k : ℕ) (c : Cells) (a : Described) (place : ℕ) where
  pub all_data : has_data a c ≡ true → data_written chunk_k c a place ≡ stored_written chunk_k c a place
  all_data some = ap (λ b. if b then stored_written chunk_k c a place else []) some

  pub length-filled_data : c ≡ Filled → has_data a c ≡ true → length (data_written chunk_k c a place) ≡ cells a.sizes * (a.fixed).size
  length-filled_data is some =
      ap length (all_data some) ∙ ap (λ (x : Cells). length (stored_written chunk_k x a place)) is ∙ length-cells_written Filled a tt

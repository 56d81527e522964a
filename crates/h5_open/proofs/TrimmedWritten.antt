-- Cells of an array in chunks that are written where they stand: each cell of the grid of chunks outside the sizes of the array stays.
use Rattle.std.proofs.Common.{◌≡◌, ◌∙◌, ◌⊎◌, inl, inr, ℕ, ◌+◌, ◌-◌, ◌*◌, ◌/◌, ◌%◌, ◌<◌, ◌≤◌, List, [], ◌∷◌, length, Option, Some, None, ℤ, true, false, refl, sym, ap, subst, arith}
use Rattle.std.proofs.lemmas.Bool.{cases_lt}
use Rattle.std.proofs.lemmas.Nat.{div-add-mod', div_below}
use Rattle.h5_bytes.specs.Blocks.{cover}
use Rattle.h5_bytes.specs.Bytes.{byte_at, part, with_part}
use Rattle.h5_model.specs.Edits.Refusal.{is_chunked}
use Rattle.h5_model.specs.Format.Cells.{cell_of, value_in}
use Rattle.h5_model.specs.Format.Chunks.{Chunks}
use Rattle.h5_model.specs.Format.Fixed.{Fixed, IsFixed}
use Rattle.h5_model.specs.Format.Layout.{Layout, InMessage, InBlock, InChunks, layout_of}
use Rattle.h5_model.specs.Format.Messages.{Message}
use Rattle.h5_model.specs.Format.Plain.{cells_bytes}
use Rattle.h5_model.specs.Format.Described.{storage_of, Described, HasArray}
use Rattle.h5_model.specs.Tree.Places.{IsInside, cells, index_of, place_of}
use Rattle.h5_model.proofs.PlaceLaws.{index-place, inside-index, place_below, is_inside_from}
use Rattle.h5_model.proofs.PlainValues.{length-cells_bytes, size-low}
use Rattle.h5_model.proofs.ValueLaws.{value_at-same}
use Rattle.h5_model.proofs.BodyLaws.{byte_at-part}
use Rattle.h5_space.proofs.MovesLaws.{byte-with_part}
use Rattle.h5_header.proofs.FoundLaws.{among_some}
use Rattle.h5_layout.specs.Data.{AreDataRead, data_blocks, stored_chunks}
use Rattle.h5_layout.specs.Standing.{IsStandingAt, address_of}
use Rattle.h5_layout.specs.Stored.{has_room}
use Rattle.h5_layout.proofs.RoomLaws.{room_of}
use Rattle.h5_layout.proofs.StandingLaws.{HasBoxes, boxes_of, held_cell, nowhere, one_cell, stands}
use Rattle.h5_layout.specs.Trimmed.{grid_cell}
use Rattle.h5_open.specs.Opened.Kept.{AreChunksTrimmed}
use Rattle.h5_open.proofs.TrimmedKept.{trimmed_by}

-- ---- sizes inside which an index is, and all that is inside others

abbrev wider : List ℕ → List ℕ → List ℕ
wider [] index = []
wider (d ∷ ds) [] = d ∷ ds
wider (d ∷ ds) (i ∷ is) = (d + i + 1) ∷ wider ds is

wider_rank : (sizes index : List ℕ) → length (wider sizes index) ≡ length sizes
wider_rank [] index = refl
wider_rank (d ∷ ds) [] = refl
wider_rank (d ∷ ds) (i ∷ is) = let rest = wider_rank ds is in omega (arith, rest)

wider_own : (sizes index : List ℕ) → length index ≡ length sizes → IsInside (wider sizes index) index
wider_own [] [] long = tt
wider_own [] (i ∷ is) long = absurd (omega (arith, long))
wider_own (d ∷ ds) [] long = absurd (omega (arith, long))
wider_own (d ∷ ds) (i ∷ is) long = (omega arith, wider_own ds is (omega (arith, long)))

wider_inside : (sizes index other : List ℕ) → IsInside sizes other → IsInside (wider sizes index) other
wider_inside [] index other inside = inside
wider_inside (d ∷ ds) [] other inside = inside
wider_inside (d ∷ ds) (i ∷ is) [] inside = absurd inside
wider_inside (d ∷ ds) (i ∷ is) (o ∷ os) inside = (omega (arith, inside.0), wider_inside ds is os inside.1)

-- ---- cells that are written

module _ (old new : List ℕ) (t : Fixed) (sizes : List ℕ) (place n at : ℕ) (some : 1 ≤ t.size) (room : place + n ≤ cells sizes)
    (kept : (p : ℕ) → (p < at) ⊎ (at + n * t.size ≤ p) → byte_at new p ≡ byte_at old p) (index : List ℕ) (long : length index ≡ length sizes)
    (out : IsInside sizes index → ⊥) where
  abbrev wide : List ℕ
  wide = wider sizes index

  abbrev own : ℕ
  own = place_of wide index

  back : index_of wide own ≡ index
  back = index-place wide index (wider_own sizes index long)

  module _ (fill : ℤ) (chunk : List ℕ) (root : Option ℕ) (read : AreDataRead old t (InChunks chunk root)) (rank : has_room sizes t.size (InChunks chunk root) ≡ true)
      (boxes : HasBoxes (InChunks chunk root)) (once : (p : ℕ) → cover p (data_blocks old t (InChunks chunk root)) ≤ 1)
      (stand : (k : ℕ) → k < n → stands old t sizes (InChunks chunk root) (place + k) ≡ Some (at + k * t.size)) where
    abbrev layout : Layout
    layout = InChunks chunk root

    abbrev chunks : Chunks
    chunks = stored_chunks old t layout

    rank_wide : has_room wide t.size layout ≡ true
    rank_wide = let same = wider_rank sizes index in rw same rank

    -- no byte of the cell is one of a cell that is written
    beside : (y : ℕ) → stands old t wide layout own ≡ Some y → (p : ℕ) → y ≤ p → p < y + t.size → (p < at) ⊎ (at + n * t.size ≤ p)
    beside y there p from to = elim (cases_lt p at) [
      | inl below ↦ inl below
      | inr above ↦ inr (elim (cases_lt p (at + n * t.size)) [
        | inl within ↦ absurd (
            let k = (p - at) / t.size in
            let all = div-add-mod' (p - at) t.size in
            let less : (p - at) % t.size < t.size = omega (arith, some) in
            let low : k < n = div_below (p - at) t.size n some (omega (arith, above, within)) in
            let other : List ℕ = index_of sizes (place + k) in
            let inside : IsInside sizes other = inside-index sizes (place + k) (omega (arith, low, room)) in
            let its = wider_inside sizes index other inside in
            let same_other : index_of wide (place_of wide other) ≡ other = index-place wide other its in
            let stood : stands old t wide layout (place_of wide other) ≡ Some (at + k * t.size) = ap (address_of t wide layout chunks) same_other ∙ stand k low in
            let same = one_cell old t wide layout read rank_wide boxes once own (place_of wide other) y (at + k * t.size) p
            (place_below wide index (wider_own sizes index long)) (place_below wide other its) there stood from to (omega (arith, above, all))
            (omega (arith, above, all, less)) in
            out (subst (IsInside sizes) (sym (sym back ∙ ap (index_of wide) same ∙ same_other)) inside))
        | inr past ↦ past
      ])
    ]

    cell_stays : cell_of new t fill sizes layout chunks index ≡ cell_of old t fill sizes layout chunks index
    cell_stays = go (address_of t sizes layout chunks index) refl where
      go : (o : Option ℕ) → address_of t sizes layout chunks index ≡ o → cell_of new t fill sizes layout chunks index ≡ cell_of old t fill sizes layout chunks index
      go None none = nowhere old t sizes layout chunks index new fill none
      go (Some y) is =
          let there : stands old t wide layout own ≡ Some y = ap (address_of t wide layout chunks) back ∙ is in
          let h = held_cell old t wide layout read rank_wide boxes own y (place_below wide index (wider_own sizes index long)) there in
          let value : (im : List ℕ) → cell_of im t fill sizes layout chunks index ≡ value_in t (part h.b.at h.b.len im) h.inner
          = λ im. ap (cell_of im t fill wide layout chunks) (sym back) ∙ h.value im fill in
          value new
          ∙ value_at-same t (part h.b.at h.b.len old) (part h.b.at h.b.len new) (h.inner * t.size) (λ q low high.
          let room_there = h.room in
          let at_there = h.at in
          let few : q < h.b.len = omega (arith, high, room_there) in
          byte_at-part q h.b.at h.b.len new few
          ∙ kept (h.b.at + q) (beside y there (h.b.at + q) (omega (arith, at_there, low)) (omega (arith, at_there, high)))
          ∙ sym (byte_at-part q h.b.at h.b.len old few))
          ∙ sym (value old)

-- ---- the array

module _ (old : List ℕ) (a : Described) (ms : List Message) (has : HasArray ms a) (is : IsFixed a.fixed) (read : AreDataRead old a.fixed a.layout)
    (once : (p : ℕ) → cover p (data_blocks old a.fixed a.layout) ≤ 1) (place at : ℕ) (values : List ℤ) (stand : IsStandingAt old a place (length values) at)
    (room : place + length values ≤ cells a.sizes) (fit : at + length (cells_bytes a.fixed values) ≤ length old) (new : List ℕ)
    (wrote : new ≡ with_part at (cells_bytes a.fixed values) old) (chunks_stay : stored_chunks new a.fixed a.layout ≡ stored_chunks old a.fixed a.layout) where
  bytes_stay : (p : ℕ) → (p < at) ⊎ (at + length values * a.fixed.size ≤ p) → byte_at new p ≡ byte_at old p
  bytes_stay p far =
      let wide = length-cells_bytes a.fixed values in
      ap (λ (b : List ℕ). byte_at b p) wrote
      ∙ byte-with_part at (cells_bytes a.fixed values) old p fit (elim far [ inl below ↦ inl below | inr past ↦ inr (omega (arith, wide, past)) ])

  module _ (index : List ℕ) (long : length index ≡ length a.sizes) (out : IsInside a.sizes index → ⊥) where
    by_layout : (layout : Layout) → is_chunked (storage_of a.sizes layout) ≡ true → AreDataRead old a.fixed layout → has_room a.sizes a.fixed.size layout ≡ true
        → HasBoxes layout
        → ((p : ℕ) → cover p (data_blocks old a.fixed layout) ≤ 1)
        → ((k : ℕ) → k < length values → stands old a.fixed a.sizes layout (place + k) ≡ Some (at + k * a.fixed.size))
        → cell_of new a.fixed a.fill a.sizes layout (stored_chunks old a.fixed layout) index ≡ cell_of old a.fixed a.fill a.sizes layout
        (stored_chunks old a.fixed layout) index
    by_layout (InMessage bytes) chunked there rank boxes one stood = absurd (let never : false ≡ true = chunked in cc)
    by_layout (InBlock b) chunked there rank boxes one stood = absurd (let never : false ≡ true = chunked in cc)
    by_layout (InChunks chunk root) chunked there rank boxes one stood =
        cell_stays old new a.fixed a.sizes place (length values) at (size-low a.fixed is) room bytes_stay index long out a.fill chunk root there rank boxes one stood

    grid_stays : is_chunked (storage_of a.sizes a.layout) ≡ true → grid_cell new a index ≡ grid_cell old a index
    grid_stays chunked =
        let layout = among_some (layout_of a.sizes a.fixed.size) 8 ms a.layout has.laid_out in
        ap (λ (c : Chunks). cell_of new a.fixed a.fill a.sizes a.layout c index) chunks_stay
        ∙ by_layout a.layout chunked read (room_of a.sizes a.fixed.size (layout.0).body a.layout layout.3)
        (boxes_of a.sizes a.fixed.size (layout.0).body a.layout layout.3) once stand

  pub written_trimmed : AreChunksTrimmed old a → AreChunksTrimmed new a
  written_trimmed was chunked = trimmed_by old new a a.sizes chunks_stay
      (λ index long out. grid_stays index long (λ inside. absurd (let never : true ≡ false = sym (is_inside_from a.sizes index inside) ∙ out in cc)) chunked)
      (was chunked)

-- Values that are written into cells where they stand: the data stay where they are, and the array has the values in these cells.
use Rattle.std.proofs.Common.{◌≡◌, ℕ, zero, suc, ◌+◌, ◌-◌, ◌*◌, ◌/◌, ◌%◌, ◌<◌, ◌≤◌, ◌⊎◌, inl, inr, List, [], ◌∷◌, ◌++◌, append-nil, length, Option, Some, None, ℤ, true, refl, sym, ap, ◌∙◌, subst, arith, get_or, set, slice_index}
use Rattle.std.specs.List.{list_all, range_with_len}
use Rattle.std.proofs.lemmas.Bool.{and_parts, cases_lt}
use Rattle.std.proofs.lemmas.List.{places}
use Rattle.std.proofs.lemmas.List.Folds.{list_all-append}
use Rattle.std.proofs.lemmas.Nat.{div-add-mod', div_below}
use Rattle.h5_bytes.specs.Blocks.{block, cover, holds, Inside, IsKept, Keeps}
use Rattle.h5_bytes.specs.Bytes.{byte_at, part, with_part}
use Rattle.h5_bytes.specs.declared.Block.{Block}
use Rattle.h5_bytes.proofs.BlockLaws.{all_left, held, holds-le, holds_in}
use Rattle.h5_bytes.proofs.PartLaws.{with_part_is, length-with_part}
use Rattle.h5_model.specs.Edits.Applied.{with_cells}
use Rattle.h5_model.specs.Format.Cells.{cell_of, cells_of}
use Rattle.h5_model.specs.Format.Chunks.{Chunks}
use Rattle.h5_model.specs.Format.Fixed.{Fixed, IsFixed, fits, value_at, value_of, bytes_of}
use Rattle.h5_model.specs.Format.Layout.{Layout, InMessage, InBlock, InChunks, layout_of}
use Rattle.h5_model.specs.Format.Messages.{Message}
use Rattle.h5_model.specs.Format.Plain.{cells_bytes}
use Rattle.h5_model.specs.Format.Superblock.{k_values, superblock_length}
use Rattle.h5_model.specs.Format.Described.{Described, HasArray}
use Rattle.h5_model.proofs.KLaws.{k_values_stay, same_chunk, same_length}
use Rattle.h5_model.specs.Tree.Places.{cells, index_of}
use Rattle.h5_model.proofs.FixedLaws.{value_back, length-bytes_of}
use Rattle.h5_model.proofs.PlainValues.{length-cells_bytes, size-low}
use Rattle.h5_model.proofs.ValueLaws.{value_at-moved, value_at-same}
use Rattle.h5_space.proofs.MovesLaws.{part-same, byte-with_part}
use Rattle.h5_header.proofs.FoundLaws.{among_some}
use Rattle.h5_laws.proofs.Lists.{In, in_all, all_in}
use Rattle.h5_laws.proofs.InPlace.CellWrites.{table_set}
use Rattle.h5_chunks.specs.Cursor.{IsCursor}
use Rattle.h5_chunks.specs.Read.{AreChunksRead}
use Rattle.h5_chunks.specs.declared.cursor.ChunkCursor.{ChunkCursor}
use Rattle.h5_layout.specs.Data.{AreDataRead, chunk_shape, data_blocks, dataset_told, stored_chunks}
use Rattle.h5_layout.specs.Standing.{IsStandingAt, address_of, blocks_with_cells, cell_blocks}
use Rattle.h5_layout.specs.Stored.{has_room}
use Rattle.h5_layout.proofs.StandingLaws.{HasBoxes, IsHeld, box_blocks, boxed, boxes_of, cover_data, held_cell, node_blocks, nowhere, one_cell, stands}
use Rattle.h5_layout.proofs.NodesStay.{blocks_stay, chunks_stay, cursors_stay, read_stays}
use Rattle.h5_layout.proofs.RoomLaws.{room_of}
use Rattle.h5_layout.proofs.WriteLaws.{with_part-append, with_part-none}

-- values of a type, in two parts
pub parts_of_type : (t : Fixed) (vs ws : List ℤ) → list_all (fits t) (vs ++ ws) ≡ true → (list_all (fits t) vs ≡ true) × (list_all (fits t) ws ≡ true)
parts_of_type t vs ws all =
    let both = sym (list_all-append (fits t) vs ws) ∙ all in
    and_parts (list_all (fits t) vs) (list_all (fits t) ws) both

-- a block is among those around a byte
pub among_blocks : (p : ℕ) (bs : List Block) (b : Block) → In b bs → holds p b.at b.len ≤ cover p bs
among_blocks p [] b at = absurd at
among_blocks p (c ∷ bs) b (inl is) = let here = ap (λ (d : Block). holds p d.at d.len) is in omega (arith, here)
among_blocks p (c ∷ bs) b (inr at) = omega (arith, among_blocks p bs b at)

byte_in_part : (at len : ℕ) (bytes : List ℕ) (k : ℕ) → k < len → slice_index (part at len bytes) k ≡ slice_index bytes (at + k)
unfolding part
byte_in_part at len bytes k low = grind (arith, places, low)

-- the cell around a byte of so many
cell_around : (s : ℕ) → 1 ≤ s → (x n : ℕ) → x < n * s → (k : ℕ) × (k < n) × (k * s ≤ x) × (x < k * s + s)
cell_around s some x n low =
    let all = div-add-mod' x s in
    let less : x % s < s = omega (arith, some) in
    (x / s, div_below x s n some low, omega (arith, all), omega (arith, all, less))

-- ---- the data stay

-- the data can be written where they stand: they are read, and no two of their blocks and the superblock share a byte
pub record AreApart (image : List ℕ) (t : Fixed) (sizes : List ℕ) (layout : Layout) : Type 0 where
  pub read : AreDataRead image t layout
  pub room : has_room sizes t.size layout ≡ true
  pub boxes : HasBoxes layout
  pub once : (p : ℕ) → cover p (block 0 (superblock_length image) ∷ data_blocks image t layout) ≤ 1
  pub long : superblock_length image ≤ length image

-- where the tree of the chunks was left last
abbrev pub IsCursorIn : List ℕ → Fixed → Layout → ChunkCursor → Type 0
IsCursorIn image t (InMessage bytes) cursor = Unit {0}
IsCursorIn image t (InBlock b) cursor = Unit {0}
IsCursorIn image t (InChunks chunk None) cursor = Unit {0}
IsCursorIn image t (InChunks chunk (Some root)) cursor = IsCursor image (chunk_shape t chunk) root cursor

-- they stay in another image
pub record DoStay (image new : List ℕ) (t : Fixed) (sizes : List ℕ) (layout : Layout) : Type 0 where
  pub apart : AreApart new t sizes layout
  pub chunks : stored_chunks new t layout ≡ stored_chunks image t layout
  pub blocks : data_blocks new t layout ≡ data_blocks image t layout
  pub k : k_values new ≡ k_values image
  pub cursors : (cursor : ChunkCursor) → IsCursorIn image t layout cursor → IsCursorIn new t layout cursor

module _ (image new : List ℕ) (t : Fixed) (sizes : List ℕ) (long : length new ≡ length image) (x : ℕ)
    (kept : (p : ℕ) → (p < x) ⊎ (x + t.size ≤ p) → byte_at new p ≡ byte_at image p) where
  -- no node of a tree of chunks has a byte of a cell
  nodes_kept : (chunk : List ℕ) (root : ℕ) (read : AreChunksRead image (chunk_shape t chunk) root) (rank : length chunk ≡ length sizes) (some : 0 < cells chunk)
      → ((p : ℕ) → cover p (data_blocks image t (InChunks chunk (Some root))) ≤ 1) → (place : ℕ) → stands image t sizes (InChunks chunk (Some root)) place ≡ Some x
      → Keeps image new (node_blocks image t sizes chunk root read)
  nodes_kept chunk root read rank some once place is =
      let nodes = node_blocks image t sizes chunk root read in
      let a = boxed image t sizes chunk root read rank some place x is in
      let inside : Inside (length image) nodes = all_left (λ (b : Block). b.at + b.len ≤ length image) nodes (box_blocks image t sizes chunk root read)
      (subst (Inside (length image)) read.stored.laid read.inside) in
      all_in (IsKept image new) nodes (λ b at. part-same b.at b.len image new (in_all (λ (b : Block). b.at + b.len ≤ length image) b nodes inside at) (omega (arith, long)) (λ p low high.
      let mine : holds p b.at b.len ≡ 1 = holds_in p b.at b.len low high in
      let all = among_blocks p nodes b at in
      kept p (elim (cases_lt p x) [
        | inl below ↦ inl below
        | inr above ↦ inr (elim (cases_lt p (x + t.size)) [
          | inl within ↦ absurd (
              let box : holds p a.at (cells chunk * t.size) ≡ 1 = holds_in p a.at (cells chunk * t.size) (omega (arith, a.is, above)) (omega (arith, a.is, a.room, within)) in
              let there = a.covered p in
              omega (arith, mine, all, box, there, once p, cover_data image t sizes chunk root read p))
          | inr past ↦ past
        ])
      ])))

  -- nor has the superblock
  k_kept : (layout : Layout) → AreApart image t sizes layout → (place : ℕ) → place < cells sizes → stands image t sizes layout place ≡ Some x → k_values new ≡ k_values image
  k_kept layout was place low is =
      let n = superblock_length image in
      let h = held_cell image t sizes layout was.read was.room was.boxes place x low is in
      k_values_stay image new n (omega arith) (part-same 0 n image new (omega (arith, was.long)) (omega (arith, long)) (λ p since until. kept p (elim (cases_lt p x) [
        | inl below ↦ inl below
        | inr above ↦ inr (elim (cases_lt p (x + t.size)) [
          | inl within ↦ absurd (
              let first : holds p 0 n ≡ 1 = holds_in p 0 n since until in
              let mine : holds p h.b.at h.b.len ≡ 1 = holds_in p h.b.at h.b.len (omega (arith, h.at, above)) (omega (arith, h.at, h.room, within)) in
              omega (arith, first, mine, h.within p, was.once p))
          | inr past ↦ past
        ])
      ])))

  apart_still : (layout : Layout) → AreApart image t sizes layout → k_values new ≡ k_values image → AreDataRead new t layout → data_blocks new t layout ≡ data_blocks image t layout
      → AreApart new t sizes layout
  apart_still layout was k read blocks = record {
    read = read;
    room = was.room;
    boxes = was.boxes;
    once = subst (λ n. (p : ℕ) → cover p (block 0 n ∷ data_blocks new t layout) ≤ 1) (sym (same_length new image k))
        (subst (λ (bs : List Block). (p : ℕ) → cover p (block 0 (superblock_length image) ∷ bs) ≤ 1) (sym blocks) was.once);
    long = omega (arith, was.long, long, same_length new image k);
  }

  pub do_stay : (layout : Layout) → AreApart image t sizes layout → (place : ℕ) → place < cells sizes → stands image t sizes layout place ≡ Some x → DoStay image new t sizes layout
  do_stay (InMessage bytes) was place low is =
      let k = k_kept (InMessage bytes) was place low is in
      record { apart = apart_still (InMessage bytes) was k tt refl; chunks = refl; blocks = refl; k = k; cursors = λ cursor is. tt }
  do_stay (InBlock None) was place low is =
      let k = k_kept (InBlock None) was place low is in
      record { apart = apart_still (InBlock None) was k tt refl; chunks = refl; blocks = refl; k = k; cursors = λ cursor is. tt }
  do_stay (InBlock (Some b)) was place low is =
      let k = k_kept (InBlock (Some b)) was place low is in
      let read : b.at + b.len ≤ length new = omega (arith, long, was.read) in
      record { apart = apart_still (InBlock (Some b)) was k read refl; chunks = refl; blocks = refl; k = k; cursors = λ cursor is. tt }
  do_stay (InChunks chunk None) was place low is =
      let k = k_kept (InChunks chunk None) was place low is in
      record { apart = apart_still (InChunks chunk None) was k tt refl; chunks = refl; blocks = refl; k = k; cursors = λ cursor is. tt }
  do_stay (InChunks chunk (Some root)) was place low is =
      let k = k_kept (InChunks chunk (Some root)) was place low is in
      let same = same_chunk new image k in
      let kept = nodes_kept chunk root was.read (grind (arith, was.room)) was.boxes (λ p. omega (arith, was.once p)) place is in
      let blocks = blocks_stay image new (chunk_shape t chunk) root same was.read long kept in
      record {
        apart = apart_still (InChunks chunk (Some root)) was k (read_stays image new (chunk_shape t chunk) root same was.read long kept) blocks;
        chunks = chunks_stay image new (chunk_shape t chunk) root same was.read long kept;
        blocks = blocks;
        k = k;
        cursors = cursors_stay image new (chunk_shape t chunk) root same was.read long kept;
      }

  -- ---- one cell

  module _ (fill : ℤ) (layout : Layout) (was : AreApart image t sizes layout) (place : ℕ) (low : place < cells sizes) (is : stands image t sizes layout place ≡ Some x)
      (v : ℤ) (here : value_at t new x ≡ v) (some : 1 ≤ t.size) where
    abbrev chunks : Chunks
    chunks = stored_chunks image t layout

    value_now : (im : List ℕ) → length im ≡ length image → (j y : ℕ) (h : IsHeld image t sizes layout j y) → cell_of im t fill sizes layout chunks (index_of sizes j) ≡ value_at t im y
    value_now im same j y h =
        h.value im fill
        ∙ value_at-moved t im (part h.b.at h.b.len im) y (h.inner * t.size) (λ k few.
        let at = h.at in
        let fits = h.room in
        let moved : h.b.at + (h.inner * t.size + k) ≡ y + k = omega (arith, at) in
        byte_in_part h.b.at h.b.len im (h.inner * t.size + k) (omega (arith, fits, few)) ∙ ap (slice_index im) moved)

    other : (j : ℕ) → j < cells sizes → (j < place) ⊎ (place < j) → cell_of new t fill sizes layout chunks (index_of sizes j) ≡ cell_of image t fill sizes layout chunks (index_of sizes j)
    other j below far = go (stands image t sizes layout j) refl where
      go : (o : Option ℕ) → stands image t sizes layout j ≡ o → cell_of new t fill sizes layout chunks (index_of sizes j) ≡ cell_of image t fill sizes layout chunks (index_of sizes j)
      go None none = nowhere image t sizes layout chunks (index_of sizes j) new fill none
      go (Some y) there =
          let h = held_cell image t sizes layout was.read was.room was.boxes j y below there in
          value_now new long j y h
          ∙ value_at-same t image new y (λ p since until. kept p (elim (cases_lt p x) [
            | inl under ↦ inl under
            | inr above ↦ inr (elim (cases_lt p (x + t.size)) [
              | inl within ↦ absurd (
                  let one = one_cell image t sizes layout was.read was.room was.boxes (λ p. omega (arith, was.once p)) j place y x p below low there is since until above within in
                  elim far [ inl less ↦ omega (arith, one, less) | inr more ↦ omega (arith, one, more) ])
              | inr past ↦ past
            ])
          ]))
          ∙ sym (value_now image refl j y h)

    pub cell_set : cells_of new t fill sizes layout (stored_chunks new t layout) ≡ set (cells_of image t fill sizes layout (stored_chunks image t layout)) place v
    cell_set =
        ap (cells_of new t fill sizes layout) (do_stay layout was place low is).chunks
        ∙ table_set (λ j. cell_of image t fill sizes layout chunks (index_of sizes j)) (λ j. cell_of new t fill sizes layout chunks (index_of sizes j)) (cells sizes) place v low
        (value_now new long place x (held_cell image t sizes layout was.read was.room was.boxes place x low is) ∙ here) other

-- ---- cells one behind another

pub record IsRunWritten (image new : List ℕ) (t : Fixed) (fill : ℤ) (sizes : List ℕ) (layout : Layout) (place : ℕ) (values : List ℤ) : Type 0 where
  pub stay : DoStay image new t sizes layout
  pub long : length new ≡ length image
  pub cells : cells_of new t fill sizes layout (stored_chunks new t layout)
      ≡ with_cells (cells_of image t fill sizes layout (stored_chunks image t layout)) (range_with_len place (length values)) values

module _ (t : Fixed) (is : IsFixed t) (fill : ℤ) (sizes : List ℕ) (layout : Layout) where
  -- where so many cells from a place on stand
  abbrev pub DoStand : List ℕ → ℕ → ℕ → ℕ → Type 0
  DoStand image place n at = (k : ℕ) → k < n → stands image t sizes layout (place + k) ≡ Some (at + k * t.size)

  first_value : (image : List ℕ) (at : ℕ) (v : ℤ) → fits t v ≡ true → at + t.size ≤ length image → value_at t (with_part at (bytes_of t v) image) at ≡ v
  first_value image at v fit room =
      let wide = length-bytes_of t v in
      value_at-moved t (bytes_of t v) (with_part at (bytes_of t v) image) 0 at (λ k few.
      ap (λ (bs : List ℕ). get_or bs (at + k) 0) (with_part_is at (bytes_of t v) image (omega (arith, wide, room))) ∙ grind (arith, places, wide))
      ∙ ap (λ (bs : List ℕ). value_of t bs) (sym (append-nil (bytes_of t v))) ∙ value_back t v [] (size-low t is) fit

  pub run_written : (values : List ℤ) (place at : ℕ) (image : List ℕ) → AreApart image t sizes layout → list_all (fits t) values ≡ true → place + length values ≤ cells sizes
      → at + length values * t.size ≤ length image → DoStand image place (length values) at
      → IsRunWritten image (with_part at (cells_bytes t values) image) t fill sizes layout place values
  run_written [] place at image was all room low stand =
      subst (λ (new : List ℕ). IsRunWritten image new t fill sizes layout place []) (sym (with_part-none at image (omega (arith, low))))
      (record { stay = record { apart = was; chunks = refl; blocks = refl; k = refl; cursors = λ cursor is. is }; long = refl; cells = refl })
  run_written (v ∷ vs) place at image was all room low stand =
      let first : List ℕ = with_part at (bytes_of t v) image in
      let wide = length-bytes_of t v in
      let others = length-cells_bytes t vs in
      let split : suc (length vs) * t.size ≡ t.size + length vs * t.size = omega arith in
      let fit : at + length (bytes_of t v) ≤ length image = omega (arith, wide, split, low) in
      let long : length first ≡ length image = length-with_part at (bytes_of t v) image fit in
      let here : stands image t sizes layout place ≡ Some at
      = ap (stands image t sizes layout) (let same : place ≡ place + 0 = omega arith in same) ∙ stand 0 (omega arith) ∙ ap (λ (n : ℕ). Some n) (let same : at + 0 * t.size ≡ at = omega arith in same) in
      let kept : (p : ℕ) → (p < at) ⊎ (at + t.size ≤ p) → byte_at first p ≡ byte_at image p
      = λ p far. byte-with_part at (bytes_of t v) image p fit (elim far [ inl under ↦ inl under | inr past ↦ inr (omega (arith, past, wide)) ]) in
      let one = do_stay image first t sizes long at kept layout was place (omega (arith, room)) here in
      let set_one = cell_set image first t sizes long at kept fill layout was place (omega (arith, room)) here v
      (first_value image at v (and_parts (fits t v) (list_all (fits t) vs) all).0 (omega (arith, fit, wide))) (size-low t is) in
      let next : DoStand first (place + 1) (length vs) (at + t.size) = λ k few.
      let there : (place + 1) + k ≡ place + suc k = omega arith in
      let address : at + suc k * t.size ≡ (at + t.size) + k * t.size = omega arith in
      ap (λ (chunks : Chunks). address_of t sizes layout chunks (index_of sizes ((place + 1) + k))) one.chunks
      ∙ ap (stands image t sizes layout) there ∙ stand (suc k) (omega (arith, few)) ∙ ap (λ (n : ℕ). Some n) address in
      let rest = run_written vs (place + 1) (at + t.size) first one.apart (and_parts (fits t v) (list_all (fits t) vs) all).1 (omega (arith, room)) (omega (arith, long, split, low)) next in
      let whole : with_part (at + t.size) (cells_bytes t vs) first ≡ with_part at (cells_bytes t (v ∷ vs)) image
      = ap (λ (n : ℕ). with_part (at + n) (cells_bytes t vs) first) (sym wide)
      ∙ sym (with_part-append at (bytes_of t v) (cells_bytes t vs) image (omega (arith, wide, others, split, low))) in
      subst (λ (new : List ℕ). IsRunWritten image new t fill sizes layout place (v ∷ vs)) whole (record {
        stay = record {
          apart = rest.stay.apart;
          chunks = rest.stay.chunks ∙ one.chunks;
          blocks = rest.stay.blocks ∙ one.blocks;
          k = rest.stay.k ∙ one.k;
          cursors = λ cursor is. rest.stay.cursors cursor (one.cursors cursor is);
        };
        long = rest.long ∙ long;
        cells = rest.cells ∙ ap (λ (cs : List ℤ). with_cells cs (range_with_len (place + 1) (length vs)) vs) set_one;
      })

  -- ---- where they are

  module _ (image : List ℕ) (was : AreApart image t sizes layout) (place n at : ℕ) (room : place + n ≤ cells sizes) (stand : DoStand image place n at) where
    cell_held : (k : ℕ) → k < n → IsHeld image t sizes layout (place + k) (at + k * t.size)
    cell_held k low = held_cell image t sizes layout was.read was.room was.boxes (place + k) (at + k * t.size) (omega (arith, room, low)) (stand k low)

    -- they lie in the image
    pub run_inside : 0 < n → at + n * t.size ≤ length image
    run_inside some =
        let last = cell_held (n - 1) (omega (arith, some)) in
        let size : n * t.size ≡ (n - 1) * t.size + t.size = rows n some in
        omega (arith, last.at, last.room, last.inside, size) where
          rows : (m : ℕ) → 0 < m → m * t.size ≡ (m - 1) * t.size + t.size
          rows zero none = absurd (omega (arith, none))
          rows (suc m) more =
              let less : suc m - 1 ≡ m = omega arith in
              let whole : suc m * t.size ≡ m * t.size + t.size = omega arith in
              whole ∙ sym (ap (λ k. k * t.size + t.size) less)

    -- in blocks around each of them
    around : (bs : List Block) → ((k : ℕ) (low : k < n) (p : ℕ) → holds p (cell_held k low).b.at (cell_held k low).b.len ≤ cover p bs) → (p : ℕ) → holds p at (n * t.size) ≤ cover p bs
    around bs each p = elim (cases_lt 0 (holds p at (n * t.size))) [
      | inl some ↦
          let there = held p at (n * t.size) some in
          let around = cell_around t.size (size-low t is) (p - at) n (omega (arith, there.0, there.1)) in
          let h = cell_held around.0 around.1 in
          let mine : holds p h.b.at h.b.len ≡ 1 = holds_in p h.b.at h.b.len (omega (arith, h.at, there.0, around.2)) (omega (arith, h.at, h.room, there.0, around.3)) in
          let all = each around.0 around.1 p in
          omega (arith, mine, all, holds-le p at (n * t.size))
      | inr none ↦ omega (arith, none)
    ]

    -- so in those of the data
    pub run_covered : (p : ℕ) → holds p at (n * t.size) ≤ cover p (data_blocks image t layout)
    run_covered = around (data_blocks image t layout) (λ k low. (cell_held k low).within)

    -- in those that have cells
    pub run_among : (header : List Block) (p : ℕ) → holds p at (n * t.size) ≤ cover p (blocks_with_cells t layout (stored_chunks image t layout) header)
    run_among header = around (blocks_with_cells t layout (stored_chunks image t layout) header) (λ k low. (cell_held k low).among header)

-- ---- the array

module _ (old : List ℕ) (a : Described) (ms : List Message) (has : HasArray ms a) (is : IsFixed a.fixed) (read : AreDataRead old a.fixed a.layout)
    (once : (p : ℕ) → cover p (block 0 (superblock_length old) ∷ data_blocks old a.fixed a.layout) ≤ 1) (whole : superblock_length old ≤ length old) (place at : ℕ) (values : List ℤ) (some : 0 < length values)
    (stand : IsStandingAt old a place (length values) at) (room : place + length values ≤ cells a.sizes) where
  apart : AreApart old a.fixed a.sizes a.layout
  apart =
      let layout = among_some (layout_of a.sizes a.fixed.size) 8 ms a.layout has.laid_out in
      record {
        read = read;
        room = room_of a.sizes a.fixed.size (layout.0).body a.layout layout.3;
        boxes = boxes_of a.sizes a.fixed.size (layout.0).body a.layout layout.3;
        once = once;
        long = whole;
      }

  -- the cells lie in the image
  pub stored_inside : at + length values * a.fixed.size ≤ length old
  stored_inside = run_inside a.fixed is a.fill a.sizes a.layout old apart place (length values) at room stand some

  -- in the blocks of the data
  pub stored_covered : (p : ℕ) → holds p at (length (cells_bytes a.fixed values)) ≤ cover p (data_blocks old a.fixed a.layout)
  stored_covered p =
      subst (λ (n : ℕ). holds p at n ≤ cover p (data_blocks old a.fixed a.layout)) (sym (length-cells_bytes a.fixed values))
      (run_covered a.fixed is a.fill a.sizes a.layout old apart place (length values) at room stand p)

  pub stored_among : (header : List Block) (p : ℕ) → holds p at (length (cells_bytes a.fixed values)) ≤ cover p (cell_blocks old a header)
  stored_among header p =
      subst (λ (n : ℕ). holds p at n ≤ cover p (cell_blocks old a header)) (sym (length-cells_bytes a.fixed values))
      (run_among a.fixed is a.fill a.sizes a.layout old apart place (length values) at room stand header p)

  pub stored_fit : at + length (cells_bytes a.fixed values) ≤ length old
  stored_fit = let wide = length-cells_bytes a.fixed values in omega (arith, wide, stored_inside)

  module _ (all : list_all (fits a.fixed) values ≡ true) (new : List ℕ) (wrote : new ≡ with_part at (cells_bytes a.fixed values) old) where
    run : IsRunWritten old new a.fixed a.fill a.sizes a.layout place values
    run = subst (λ (n : List ℕ). IsRunWritten old n a.fixed a.fill a.sizes a.layout place values) (sym wrote)
        (run_written a.fixed is a.fill a.sizes a.layout values place at old apart all room stored_inside stand)

    pub stored_long : length new ≡ length old
    stored_long = run.long

    pub stored_read : AreDataRead new a.fixed a.layout
    stored_read = run.stay.apart.read

    pub stored_chunks_stay : stored_chunks new a.fixed a.layout ≡ stored_chunks old a.fixed a.layout
    stored_chunks_stay = run.stay.chunks

    pub stored_blocks_stay : data_blocks new a.fixed a.layout ≡ data_blocks old a.fixed a.layout
    stored_blocks_stay = run.stay.blocks

    pub stored_cursors : (cursor : ChunkCursor) → IsCursorIn old a.fixed a.layout cursor → IsCursorIn new a.fixed a.layout cursor
    stored_cursors = run.stay.cursors

    pub stored_told : dataset_told new a ≡ record (dataset_told old a) { cells = with_cells (dataset_told old a).cells (range_with_len place (length values)) values }
    stored_told = ap (λ (cs : List ℤ). record (dataset_told old a) { cells = cs }) run.cells

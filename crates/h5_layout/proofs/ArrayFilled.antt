-- The cells of an array stay where chunks of the fill are stored, or a block of it: where none was stored each read the fill.
use Rattle.std.proofs.Common.{◌≡◌, ℕ, ◌<◌, ◌⊎◌, inl, inr, ℤ, List, length, replicate, Bool, true, false, not, Option, Some, None, refl, sym, ap, ap₂, ◌∙◌, arith}
use Rattle.std.specs.Prelude.{is_some}
use Rattle.std.specs.FinMap.{get}
use Rattle.std.specs.List.{Contains, list_any}
use Rattle.std.proofs.lemmas.List.{get_or-replicate, length-replicate}
use Rattle.std.proofs.lemmas.List.FromFn.{fill_by_all}
use Rattle.h5_bytes.specs.Blocks.{block}
use Rattle.h5_bytes.specs.Bytes.{part}
use Rattle.h5_bytes.proofs.TableLaws.{table_same}
use Rattle.h5_model.specs.Format.Cells.{cell_of, cells_of, value_in, value_in_chunk}
use Rattle.h5_model.specs.Format.Chunks.{Chunks}
use Rattle.h5_model.specs.Format.Fixed.{Fixed, IsFixed, fits}
use Rattle.h5_model.specs.Format.Layout.{InBlock, InChunks, Layout}
use Rattle.h5_model.specs.Format.Reached.{Shape}
use Rattle.h5_model.specs.Format.Described.{Described}
use Rattle.h5_model.specs.Tree.Grid.{corner_of, inner_of}
use Rattle.h5_model.specs.Tree.Places.{cells, index_of, place_of}
use Rattle.h5_model.specs.Views.Selection.{Slab, selection_of}
use Rattle.h5_model.proofs.PlaceLaws.{place_below}
use Rattle.h5_model.proofs.PlainValues.{cells_of-cells_bytes, size-low, value_at-cells_bytes}
use Rattle.h5_model.proofs.EditLaws.{AreOf-replicate}
use Rattle.h5_space.specs.Space.{Space}
use Rattle.h5_laws.proofs.Lists.{In, contains_in, in_contains}
use Rattle.h5_laws.proofs.SoundLaws.Inserted.{same_name_or_other}
use Rattle.h5_laws.proofs.SoundLaws.Lost.{in_or_out}
use Rattle.h5_shape.proofs.GridBoxes.{length-index_of}
use Rattle.h5_chunks.specs.Told.{chunks_told}
use Rattle.h5_layout.specs.Data.{chunk_shape, stored_chunks}
use Rattle.h5_layout.specs.Filled.{HasFilledChunks, cells_of_fill}
use Rattle.h5_layout.specs.Lacking.{lacks_cells}
use Rattle.h5_layout.specs.NewChunks.{AreMissing}
use Rattle.h5_chunks.specs.Lists.{ChunkOffsets}
use Rattle.h5_layout.specs.Standing.{is_stored_in}
use Rattle.h5_layout.proofs.ChosenPlaces.{index_selected}
use Rattle.h5_layout.proofs.LackingLaws.{all_fail}
use Rattle.h5_layout.proofs.LocateLaws.{inner_inside}

-- ---- cells of the fill

fill_there : (t : Fixed) (fill : ℤ) (n k : ℕ) → IsFixed t → fits t fill ≡ true → k < n → value_in t (cells_of_fill t fill n) k ≡ fill
fill_there t fill n k sound fit low =
    value_at-cells_bytes t (replicate n fill) k fill (size-low t sound) (AreOf-replicate t n fill fit) (omega (arith, low, length-replicate n fill)) ∙ get_or-replicate n k fill fill low

-- an array without a block reads as one with a block of the fill
pub block_reads : (old new : List ℕ) (t : Fixed) (fill : ℤ) (sizes : List ℕ) (at len : ℕ) (chunks others : Chunks) → IsFixed t → fits t fill ≡ true
    → part at len new ≡ cells_of_fill t fill (cells sizes)
    → cells_of new t fill sizes (InBlock (Some (block at len))) others ≡ cells_of old t fill sizes (InBlock None) chunks
block_reads old new t fill sizes at len chunks others sound fit there =
    let n = cells sizes in
    sym (cells_of-cells_bytes new t fill sizes (block at len) others (replicate n fill) (size-low t sound) (AreOf-replicate t n fill fit) (length-replicate n fill) there)
    ∙ fill_by_all (λ place. fill) (replicate n fill) n fill (length-replicate n fill) (λ k low. get_or-replicate n k fill fill low)

module _ (s t : Space) (fixed : Fixed) (fill : ℤ) (chunk : List ℕ) (root : ℕ) (more : List (List ℕ)) (sound : IsFixed fixed) (fit : fits fixed fill ≡ true)
    (filled : HasFilledChunks s t (chunk_shape fixed chunk) root (cells_of_fill fixed fill (cells chunk)) more)
    (absent : (o : List ℕ) → In o more → get (chunks_told s.bytes (chunk_shape fixed chunk) root) o ≡ None) where
  abbrev shape : Shape
  shape = chunk_shape fixed chunk

  abbrev old : Chunks
  old = chunks_told s.bytes shape root

  abbrev new : Chunks
  new = chunks_told t.bytes shape root

  value_same : (o : List ℕ) (place : ℕ) → place < cells chunk
      → value_in_chunk t.bytes fixed fill shape.bytes place (get new o) ≡ value_in_chunk s.bytes fixed fill shape.bytes place (get old o)
  value_same o place low = elim (in_or_out same_name_or_other o more) [
    | inl there ↦
        let now = filled.stored.added o (contains_in o more there) in
        ap (value_in_chunk t.bytes fixed fill shape.bytes place) now.1
        ∙ ap (λ (bs : List ℕ). value_in fixed bs place) (filled.filled o now.0 (contains_in o more there) now.1) ∙ fill_there fixed fill (cells chunk) place sound fit low
        ∙ sym (ap (value_in_chunk s.bytes fixed fill shape.bytes place) (absent o there))
    | inr not_there ↦ by_chunk (get old o) refl not_there
  ] where
    by_chunk : (c : Option ℕ) → get old o ≡ c → (In o more → ⊥)
        → value_in_chunk t.bytes fixed fill shape.bytes place (get new o) ≡ value_in_chunk s.bytes fixed fill shape.bytes place (get old o)
    by_chunk None was not_there =
        ap (value_in_chunk t.bytes fixed fill shape.bytes place) (filled.stored.others o (λ at. not_there (in_contains o more at)) ∙ was)
        ∙ sym (ap (value_in_chunk s.bytes fixed fill shape.bytes place) was)
    by_chunk (Some at) was not_there =
        let k = filled.kept o at was in
        ap (value_in_chunk t.bytes fixed fill shape.bytes place) k.0 ∙ ap (λ (bs : List ℕ). value_in fixed bs place) k.1
        ∙ sym (ap (value_in_chunk s.bytes fixed fill shape.bytes place) was)

  -- the cell at an index of the grid of chunks, inside the sizes or not
  pub grid_reads : (sizes index : List ℕ) → length index ≡ length chunk → 0 < cells chunk
      → cell_of t.bytes fixed fill sizes (InChunks chunk (Some root)) new index ≡ cell_of s.bytes fixed fill sizes (InChunks chunk (Some root)) old index
  grid_reads sizes index rank some =
      value_same (corner_of chunk index) (place_of chunk (inner_of chunk index)) (place_below chunk (inner_of chunk index) (inner_inside chunk index rank some))

  pub filled_reads : (sizes : List ℕ) → length chunk ≡ length sizes → 0 < cells chunk
      → cells_of t.bytes fixed fill sizes (InChunks chunk (Some root)) new ≡ cells_of s.bytes fixed fill sizes (InChunks chunk (Some root)) old
  filled_reads sizes rank some =
      let here : List ℕ → Chunks → ℕ → ℤ = λ image chunks place. cell_of image fixed fill sizes (InChunks chunk (Some root)) chunks (index_of sizes place) in
      table_same (here s.bytes old) (here t.bytes new) (cells sizes) 0 (λ j low. grid_reads sizes (index_of sizes j) (length-index_of sizes j ∙ sym rank) some)

  -- Where a chunk is stored now, it is one of these, or was stored.
  pub stored_before : (o : List ℕ) (at : ℕ) → get new o ≡ Some at → (In o more) ⊎ ((was : ℕ) × (get old o ≡ Some was))
  stored_before o at now = elim (in_or_out same_name_or_other o more) [
    | inl there ↦ inl there
    | inr not_there ↦ inr (at, sym (filled.stored.others o (λ in_more. not_there (in_contains o more in_more))) ∙ now)
  ]

-- each selected cell is stored
pub filled_stored : (s t : Space) (a : Described) (chunk : List ℕ) (root : ℕ) (bytes : List ℕ) (slab : Slab) (new : ChunkOffsets) → a.layout ≡ InChunks chunk (Some root)
    → AreMissing s.bytes a chunk slab new → HasFilledChunks s t (chunk_shape a.fixed chunk) root bytes new.offsets → lacks_cells t.bytes a slab ≡ false
filled_stored s t a chunk root bytes slab new laid missing filled =
    let old : Chunks = chunks_told s.bytes (chunk_shape a.fixed chunk) root in
    let now : Chunks = chunks_told t.bytes (chunk_shape a.fixed chunk) root in
    let corner : ℕ → List ℕ = λ place. corner_of chunk (index_of a.sizes place) in
    let was_told : stored_chunks s.bytes a.fixed a.layout ≡ old = ap (stored_chunks s.bytes a.fixed) laid in
    ap₂ (λ (l : Layout) (c : Chunks). lacks_by l c) laid (ap (stored_chunks t.bytes a.fixed) laid)
    ∙ all_fail (λ place. not (is_some (get now (corner place)))) (selection_of a.sizes slab) (λ place at.
    by_chunk (corner place) (get old (corner place)) refl
    (λ none. (missing.each (corner place)).1 ((index_of a.sizes place, index_selected a.sizes slab place (contains_in place (selection_of a.sizes slab) at), refl), ap (λ (c : Chunks). get c (corner place)) was_told ∙ none)))
  where
    lacks_by : Layout → Chunks → Bool
    lacks_by l c = list_any (λ place. not (is_stored_in l c (index_of a.sizes place))) (selection_of a.sizes slab)

    by_chunk : (o : List ℕ) (c : Option ℕ) → get (chunks_told s.bytes (chunk_shape a.fixed chunk) root) o ≡ c
        → (get (chunks_told s.bytes (chunk_shape a.fixed chunk) root) o ≡ None → Contains new.offsets o)
        → not (is_some (get (chunks_told t.bytes (chunk_shape a.fixed chunk) root) o)) ≡ false
    by_chunk o None was there = let f = filled.stored.added o (there was) in ap (λ (x : Option ℕ). not (is_some x)) f.1
    by_chunk o (Some at) was there = ap (λ (x : Option ℕ). not (is_some x)) (filled.kept o at was).0

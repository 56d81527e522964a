-- Where the cells of a run stand, or the one block or chunk that is missing for them.
use Rattle.std.proofs.Common.{◌≡◌, inl, inr, ℕ, ◌+◌, ◌*◌, ◌<◌, ◌≤◌, List, [], ◌∷◌, Option, Some, None, length, refl, sym, ap, ap₂, ◌∙◌, subst, arith}
use Rattle.std.specs.Prelude.{◌&&◌, is_some, nat_lt, option_map, slice_index_or}
use Rattle.std.specs.FinMap.{get, get-empty}
use Rattle.std.specs.Cmp.Lexicographic.{slice_cmp}
use Rattle.std.specs.List.{range_with_len}
use Rattle.std.specs.Ordering.{nat_cmp}
use Rattle.std.proofs.Math.Nat.{mul-le-mul_left}
use Rattle.std.proofs.lemmas.Option.{same_Some}
use Rattle.h5_laws.proofs.Lists.{In, contains_in, from_range, in_contains, in_range}
use Rattle.h5_model.specs.Format.Chunks.{Chunks}
use Rattle.h5_model.specs.Format.Fixed.{Fixed}
use Rattle.h5_model.specs.Format.Layout.{InBlock, InChunks, InMessage, Layout}
use Rattle.h5_model.specs.Format.Limits.{most_cells, most_chunk_bytes}
use Rattle.h5_model.specs.Format.Reached.{Shape}
use Rattle.h5_model.specs.Format.Described.{storage_of, Described}
use Rattle.h5_model.specs.Tree.Grid.{corner_of, inner_of}
use Rattle.h5_model.specs.Tree.Objects.{Chunked, Compact, Contiguous}
use Rattle.h5_model.specs.Tree.Places.{cells, index_of, place_of}
use Rattle.h5_model.specs.Views.Selection.{Slab, Within, selection_of}
use Rattle.h5_model.proofs.PlaceLaws.{index-place, place_below}
use Rattle.h5_chunks.specs.Lists.{ChunkOffsets}
use Rattle.h5_chunks.specs.Shapes.{AreChunkSizes}
use Rattle.h5_shape.specs.declared.runs.CellRun.{CellRun}
use Rattle.h5_shape.proofs.GridBoxes.{length-index_of}
use Rattle.h5_layout.specs.ArrayChunks.{ArrayChunks, IsInChunksOf}
use Rattle.h5_layout.specs.ChunkCells.{AreBeside, left_in_row}
use Rattle.h5_layout.specs.Data.{AreDataRead, chunk_shape, stored_chunks}
use Rattle.h5_layout.specs.HeldChunks.{IsChunkMet}
use Rattle.h5_layout.specs.Kept.{chunks_below_root}
use Rattle.h5_layout.specs.Lacking.{stored_storage}
use Rattle.h5_layout.specs.NewChunks.{AreMissing}
use Rattle.h5_layout.specs.RunStorage.{IsMadeAt, IsRunMissing}
use Rattle.h5_layout.specs.Standing.{IsStandingAt, address_at, address_of}
use Rattle.h5_layout.specs.declared.lacking.Missing.{Missing}
use Rattle.h5_layout.specs.declared.lacking.Missing.TheVariants as missing
use Rattle.h5_layout.proofs.ChosenPlaces.{index_selected, selected_place}
use Rattle.h5_layout.proofs.GridLaws.{chunk_inside}
use Rattle.h5_layout.proofs.LackingLaws.{block_lacking, chunks_found}
use Rattle.h5_layout.proofs.LocateLaws.{inner_inside, some_cells}
use Rattle.h5_layout.proofs.KeptValues.{stored_below}
use Rattle.h5_layout.proofs.StandsAt.{block_stands}

-- ---- the chunks of an array

-- those below the root that its header names
pub told_below : (image : List ℕ) (a : Described) (k : ArrayChunks) → IsInChunksOf a k → (s : Shape) → s ≡ chunk_shape k.fixed k.chunk → (r : Option ℕ) → r ≡ k.root
    → chunks_below_root image s r ≡ stored_chunks image a.fixed a.layout
told_below image a k of s told r rooted =
    (λ i. chunks_below_root image ((told ∙ ap (λ (t : Fixed). chunk_shape t k.chunk) of.fixed) i) (rooted i))
    ∙ stored_below image a k.chunk k.root (sym of.layout)

-- an array that is stored as one in chunks is in such chunks
chunked_alike : (sizes : List ℕ) (l : Layout) (chunk : List ℕ) → storage_of sizes l ≡ Chunked chunk → (root : Option ℕ) × (l ≡ InChunks chunk root)
chunked_alike sizes (InMessage bytes) chunk is = absurd (let never : Compact ≡ Chunked chunk = is in cc)
chunked_alike sizes (InBlock b) chunk is = absurd (let never : Contiguous (is_some b && nat_lt 0 (cells sizes)) ≡ Chunked chunk = is in cc)
chunked_alike sizes (InChunks d root) chunk is = (root, (let same : Chunked d ≡ Chunked chunk = is in cc))

-- ---- a run

-- the place of a cell in its chunk
pub inner_low : (sizes chunk : List ℕ) (place inner : ℕ) → inner ≡ place_of chunk (inner_of chunk (index_of sizes place)) → length chunk ≡ length sizes → AreChunkSizes chunk → inner < cells chunk
inner_low sizes chunk place inner is rank own =
    let index : List ℕ = index_of sizes place in
    let low = place_below chunk (inner_of chunk index) (inner_inside chunk index (length-index_of sizes place ∙ sym rank) (some_cells chunk own.some)) in
    omega (arith, is, low)

-- more cells than are left in a row of a chunk
pub more_than_row : (sizes chunk : List ℕ) (place n m : ℕ) → (0 < length sizes → n ≡ left_in_row sizes chunk place) → n < m → left_in_row sizes chunk place < m
more_than_row [] chunk place n m row more = omega (arith, more)
more_than_row (d ∷ ds) chunk place n m row more = let same = row (omega arith) in omega (arith, same, more)

-- the first of cells that stand one behind another
pub standing_first : (image : List ℕ) (a : Described) (place n at x : ℕ) → 0 < n → IsStandingAt image a place n at → address_at image a place ≡ Some x → at ≡ x
standing_first image a place n at x some stand there =
    let none : at + 0 * a.fixed.size ≡ at = omega arith in
    let here : place + 0 ≡ place = omega arith in
    same_Some at x (ap (λ (y : ℕ). Some y) (sym none) ∙ sym (stand 0 some) ∙ ap (address_at image a) here ∙ there)

module _ (a : Described) (run : CellRun) (below : run.place + run.length ≤ cells a.sizes) (some : 0 < run.length) where
  -- whatever selects the run selects its first cell
  first_chosen : (slab : Slab) → selection_of a.sizes slab ≡ range_with_len run.place run.length → In run.place (selection_of a.sizes slab)
  first_chosen slab is = subst (In run.place) (sym is) (subst (λ (p : ℕ). In p (range_with_len run.place run.length)) (omega arith) (in_range run.place run.length 0 some))

  -- ---- in a block

  pub block_missing : (image : List ℕ) → a.layout ≡ InBlock None → cells a.sizes ≤ most_cells → a.fixed.size ≤ 8 → IsRunMissing image a run missing.Block run.place
  block_missing image laid few wide = record {
    small = (let eight = mul-le-mul_left run.place wide in omega (arith, below, few, eight));
    found = λ slab rank within is. block_lacking image a slab laid run.place (first_chosen slab is);
    made = λ now b at fixed sizes stored (block, there, here).
        let room : run.place + run.length ≤ cells b.sizes = subst (λ (ds : List ℕ). run.place + run.length ≤ cells ds) (sym sizes) below in
        let size : a.fixed.size ≡ b.fixed.size = ap (λ (t : Fixed). t.size) (sym fixed) in
        subst (λ (x : ℕ). IsStandingAt now b run.place run.length (x + run.place * a.fixed.size)) here
        (block_stands now b (Some block) (sym there) block refl run.place a.fixed.size run.length size room);
  }

  -- ---- in one row of one chunk

  module _ (chunk : List ℕ) (corner : List ℕ) (corner_is : corner ≡ corner_of chunk (index_of a.sizes run.place)) (inner : ℕ)
      (inner_is : inner ≡ place_of chunk (inner_of chunk (index_of a.sizes run.place))) (n : ℕ) (whole : run.length ≤ n) (beside : AreBeside a.sizes chunk run.place n) where
    -- cells of an array that is in such chunks, and has the same type and sizes, stand in the chunk that is stored there
    pub row_stands : (now : List ℕ) (b : Described) → b.fixed ≡ a.fixed → b.sizes ≡ a.sizes → (root : Option ℕ) → b.layout ≡ InChunks chunk root
        → (at : ℕ) → get (stored_chunks now b.fixed b.layout) corner ≡ Some at → IsStandingAt now b run.place run.length (at + inner * a.fixed.size)
    row_stands now b fixed sizes root laid at found k low =
        let place : ℕ = run.place + k in
        let index : List ℕ = index_of a.sizes place in
        let chunks : Chunks = stored_chunks now b.fixed b.layout in
        let there : get chunks (corner_of chunk index) ≡ Some at = ap (get chunks) (beside.corner k (omega arith) ∙ sym corner_is) ∙ found in
        let cell : place_of chunk (inner_of chunk index) ≡ inner + k = beside.inner k (omega arith) ∙ ap (λ (p : ℕ). p + k) (sym inner_is) in
        let on : at + (inner + k) * a.fixed.size ≡ (at + inner * a.fixed.size) + k * b.fixed.size
        = omega (arith, ap (λ (t : Fixed). k * t.size) fixed) in
        ap (λ (ds : List ℕ). address_of b.fixed ds b.layout chunks (index_of ds place)) sizes
        ∙ ap (λ (l : Layout). address_of b.fixed a.sizes l chunks index) laid
        ∙ ap₂ (λ (p : ℕ) (o : Option ℕ). option_map (λ at. at + p * b.fixed.size) o) cell there
        ∙ ap (λ (t : Fixed). Some (at + (inner + k) * t.size)) fixed ∙ ap (λ (x : ℕ). Some x) on

    -- the chunk is the only one that is met
    module _ (slab : Slab) (within : Within a.sizes slab) (is : selection_of a.sizes slab ≡ range_with_len run.place run.length) where
      met_corner : (offsets : List ℕ) → IsChunkMet slab chunk offsets → offsets ≡ corner
      met_corner offsets (index, selected, at) =
          let inside = within index selected in
          let there = from_range run.place run.length (place_of a.sizes index) (subst (In (place_of a.sizes index)) is (selected_place a.sizes slab index inside selected)) in
          let back : index ≡ index_of a.sizes (run.place + there.0) = sym (index-place a.sizes index inside) ∙ ap (index_of a.sizes) there.2 in
          sym at ∙ ap (corner_of chunk) back ∙ beside.corner there.0 (omega (arith, there.1)) ∙ sym corner_is

      corner_met : IsChunkMet slab chunk corner
      corner_met = (index_of a.sizes run.place, index_selected a.sizes slab run.place (contains_in run.place (selection_of a.sizes slab) (first_chosen slab is)), sym corner_is)

      pub row_missing : (image : List ℕ) → get (stored_chunks image a.fixed a.layout) corner ≡ None → (new : ChunkOffsets)
          → new ≡ record { rank = length chunk; bytes = cells chunk * a.fixed.size; offsets = corner ∷ [] } → AreMissing image a chunk slab new
      row_missing image none new are = subst (AreMissing image a chunk slab) (sym are) (record {
        within = within;
        rank = refl;
        bytes = refl;
        rising = tt;
        each = λ offsets. (
          (λ at. elim (in_contains offsets (corner ∷ []) at) [
            | inl same ↦ subst (λ (o : List ℕ). IsChunkMet slab chunk o × (get (stored_chunks image a.fixed a.layout) o ≡ None)) same (corner_met, none)
            | inr never ↦ absurd never
          ]),
          (λ (met, absent). contains_in offsets (corner ∷ []) (inl (sym (met_corner offsets met)))),
        );
      })

    -- it alone
    abbrev alone : ChunkOffsets
    alone = record { rank = length chunk; bytes = cells chunk * a.fixed.size; offsets = corner ∷ [] }

    -- so it is missing where it is not stored, and the cells of the run stand in it once it is made
    pub chunk_missing : (image : List ℕ) (root : Option ℕ) → a.layout ≡ InChunks chunk root → get (stored_chunks image a.fixed a.layout) corner ≡ None
        → (k : ArrayChunks) → IsInChunksOf a k → (m : Missing) → m ≡ missing.Chunks k alone → inner * a.fixed.size ≤ most_chunk_bytes → IsRunMissing image a run m inner
    chunk_missing image root laid none k of m are few = subst (λ (x : Missing). IsRunMissing image a run x inner) (sym are) (record {
      small = omega (arith, few);
      found = λ slab rank within is. chunks_found image a slab chunk root laid alone (row_missing slab within is image none alone refl) (omega arith) k of;
      made = λ now b at fixed sizes stored made.
          let chunked : stored_storage a.sizes (storage_of a.sizes a.layout) ≡ Chunked chunk = ap (λ (l : Layout). stored_storage a.sizes (storage_of a.sizes l)) laid in
          let such = chunked_alike b.sizes b.layout chunk (stored ∙ chunked) in
          row_stands now b fixed sizes such.0 such.1 at made;
    })

    -- its first cell has no address then
    pub row_absent : (image : List ℕ) (root : Option ℕ) → a.layout ≡ InChunks chunk root → get (stored_chunks image a.fixed a.layout) corner ≡ None
        → (at : ℕ) → address_at image a run.place ≡ Some at → ⊥
    row_absent image root laid none at there =
        let index : List ℕ = index_of a.sizes run.place in
        let chunks : Chunks = stored_chunks image a.fixed a.layout in
        let nowhere : address_at image a run.place ≡ None
        = ap (λ (l : Layout). address_of a.fixed a.sizes l chunks index) laid
        ∙ ap (option_map (λ at. at + place_of chunk (inner_of chunk index) * a.fixed.size)) (ap (get chunks) (sym corner_is) ∙ none) in
        let never : None ≡ Some at = sym nowhere ∙ there in
        cc

-- ---- where what was missing stands

-- it lies in the image
pub made_inside : (image : List ℕ) (a : Described) (m : Missing) (at : ℕ) → AreDataRead image a.fixed a.layout → IsMadeAt image a m at → at ≤ length image
made_inside image a missing.Block at read (block, laid, here) =
    let inside : block.at + block.len ≤ length image = subst (AreDataRead image a.fixed) laid read in
    omega (arith, inside, here)
made_inside image a (missing.Chunks array new) at read found = in_layout a.layout read found where
  in_layout : (l : Layout) → AreDataRead image a.fixed l → get (stored_chunks image a.fixed l) (slice_index_or new.offsets 0 []) ≡ Some at → at ≤ length image
  in_layout (InMessage bytes) stands there = absurd (let never : None ≡ Some at = sym (get-empty (slice_cmp nat_cmp) _) ∙ there in cc)
  in_layout (InBlock b) stands there = absurd (let never : None ≡ Some at = sym (get-empty (slice_cmp nat_cmp) _) ∙ there in cc)
  in_layout (InChunks sizes None) stands there = absurd (let never : None ≡ Some at = sym (get-empty (slice_cmp nat_cmp) _) ∙ there in cc)
  in_layout (InChunks sizes (Some root)) stands there =
      let inside = chunk_inside image (chunk_shape a.fixed sizes) root stands _ at there in
      omega (arith, inside)

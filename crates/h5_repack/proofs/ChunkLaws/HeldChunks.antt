-- Of the chunks that an image has, those that hold a cell of the extent are the stored chunks of the array in the plain layout (File
-- Format Specification 3.0, section III.A.1).
use Rattle.std.proofs.Common.{◌≡◌, ℕ, ◌*◌, ◌<◌, List, [], ◌∷◌, length, map, take, replicate, get_or, refl, sym, ap, ◌∙◌, subst, arith, Bool, true, false, cond, Option, Some, None}
use Rattle.std.proofs.lemmas.List.{get_or-replicate, length-replicate}
use Rattle.std.proofs.lemmas.List.FromFn.{fill_by_all, get_or-map-range_with_len}
use Rattle.std.specs.Prelude.{slice_index_or}
use Rattle.std.specs.Ordering.{nat_cmp}
use Rattle.std.specs.declared.cmp.Ordering.TheVariants.{Equal}
use Rattle.std.specs.Cmp.Lexicographic.{slice_cmp, nat_list_cmp_total}
use Rattle.std.specs.FinMap.{entries, entries_sorted, get, get-entries, get-retain_keys, retain_keys, nat_cmp-IsAntisymmetric, slice_cmp-IsAntisymmetric}
use Rattle.std.specs.List.{AllByRecursion, AllZip, Contains, zip}
use Rattle.h5_bytes.specs.declared.Block.{Block}
use Rattle.h5_model.specs.Edits.Applied.{cell_or_fill, with_sizes}
use Rattle.h5_model.specs.Format.Cells.{cells_of, value_in_chunk}
use Rattle.h5_model.specs.Format.Chunks.{Chunks, HasChunkKeys, HasChunks, IsChunkKey, IsOffset, chunks_in, offsets_in}
use Rattle.h5_model.specs.Format.Layout.{InChunks}
use Rattle.h5_model.specs.Format.Nodes.{chunk_kind, reading_of}
use Rattle.h5_model.specs.Format.Rows.{Reading, row_below}
use Rattle.h5_model.specs.Scripts.Reading.{cell_at}
use Rattle.h5_model.specs.Tree.Grid.{corner_of, inner_of}
use Rattle.h5_model.specs.Tree.Objects.{Dataset}
use Rattle.h5_model.specs.Tree.Places.{cells, index_of, place_of, is_inside, IsInside}
use Rattle.h5_model.proofs.PlaceLaws.{index-place, inside-index, place-index, place_below, inside_of, is_inside_from}
use Rattle.h5_laws.proofs.Lists.{In, all_in, contains_in, from_flat, in_all, in_contains, in_map}
use Rattle.h5_laws.proofs.Maps.{found_entry, get_of_entry}
use Rattle.h5_repack.specs.Bodies.Sound.{IsUnset}
use Rattle.h5_layout.specs.HeldChunks.{AreStoredChunks, IsHeldChunk, held_chunks}
use Rattle.h5_layout.proofs.CornerInside.{corner_inside}
use Rattle.h5_layout.proofs.RisingLaws.{sorted_rising}

-- ---- keys of whole chunks

zip_keys : (sizes : List ℕ) (bytes : ℕ) (keys : List (List ℕ)) (children : List ℕ) → AllByRecursion (IsChunkKey sizes bytes) (take (length children) keys)
    → AllByRecursion (λ (c : List ℕ × ℕ). AllZip IsOffset sizes c.0) (zip (map (offsets_in (length sizes)) keys) children)
zip_keys sizes bytes [] children all = tt
zip_keys sizes bytes (key ∷ keys) [] all = tt
zip_keys sizes bytes (key ∷ keys) (n ∷ children) all = ((all.0).aligned, zip_keys sizes bytes keys children all.1)

-- ---- cells in no stored chunk

-- each cell in none of these chunks is the fill
abbrev pub IsFillUnstored : Dataset → List ℕ → Chunks → Type 0
IsFillUnstored d chunk chunks = (index : List ℕ) → IsInside d.sizes index → get chunks (corner_of chunk index) ≡ None → cell_at d index ≡ d.fill

-- so it is where the cells are read from the chunks
pub unread_fill : (image : List ℕ) (d : Dataset) (chunk : List ℕ) (root : Option ℕ) (chunks : Chunks)
    → d.cells ≡ cells_of image d.fixed d.fill d.sizes (InChunks chunk root) chunks → IsFillUnstored d chunk chunks
unread_fill image d chunk root chunks cells_are index inside none =
    let place : ℕ = place_of d.sizes index in
    ap (λ cs. slice_index_or cs place d.fill) cells_are
    ∙ get_or-map-range_with_len (λ n. value_in_chunk image d.fixed d.fill (cells chunk * (d.fixed).size) (place_of chunk (inner_of chunk (index_of d.sizes n)))
    (get chunks (corner_of chunk (index_of d.sizes n)))) 0 (cells d.sizes) place place d.fill (place_below d.sizes index inside) (omega arith)
    ∙ ap (λ (is : List ℕ). value_in_chunk image d.fixed d.fill (cells chunk * (d.fixed).size) (place_of chunk (inner_of chunk is)) (get chunks (corner_of chunk is)))
    (index-place d.sizes index inside)
    ∙ ap (value_in_chunk image d.fixed d.fill (cells chunk * (d.fixed).size) (place_of chunk (inner_of chunk index))) none

-- and where the array then has other sizes
pub resized_fill : (sizes : List ℕ) (d : Dataset) (chunk : List ℕ) (chunks : Chunks) → IsFillUnstored d chunk chunks → IsFillUnstored (with_sizes sizes d) chunk chunks
resized_fill sizes d chunk chunks unstored index inside none =
    get_or-map-range_with_len (λ n. cell_or_fill d (index_of sizes n)) 0 (cells sizes) (place_of sizes index) (place_of sizes index) d.fill (place_below sizes index inside) (omega arith)
    ∙ ap (cell_or_fill d) (index-place sizes index inside) ∙ by_test (is_inside d.sizes index) refl where
      by_test : (b : Bool) → is_inside d.sizes index ≡ b → cond b (cell_at d index) d.fill ≡ d.fill
      by_test true is = unstored index (inside_of d.sizes index is) none
      by_test false is = refl

-- each cell of an array of which no chunk is stored is the fill
pub none_unset : (d : Dataset) (chunk : List ℕ) → length d.cells ≡ cells d.sizes → AreStoredChunks d chunk [] → IsUnset d
none_unset d chunk counted are =
    fill_by_all (λ (k : ℕ). d.fill) d.cells (cells d.sizes) d.fill counted each
    ∙ sym (fill_by_all (λ (k : ℕ). d.fill) (replicate (cells d.sizes) d.fill) (cells d.sizes) d.fill (length-replicate (cells d.sizes) d.fill)
    (λ k low. get_or-replicate (cells d.sizes) k d.fill d.fill low)) where
      each : (k : ℕ) → k < cells d.sizes → get_or d.cells k d.fill ≡ d.fill
      each k low =
          ap (λ place. slice_index_or d.cells place d.fill) (sym (place-index d.sizes k low))
          ∙ are.unset (index_of d.sizes k) (inside-index d.sizes k low) (λ there. in_contains (corner_of chunk (index_of d.sizes k)) [] there)

-- ---- the chunks that hold a cell of an extent

-- each chunk of these is a whole one
abbrev pub AreAligned : List ℕ → Chunks → Type 0
AreAligned chunk chunks = (offsets : List ℕ) (n : ℕ) → In (offsets, n) (entries chunks) → AllZip IsOffset chunk offsets

module _ (d : Dataset) (chunk : List ℕ) (chunks : Chunks) (aligned : AreAligned chunk chunks) (same : length chunk ≡ length d.sizes) (unstored : IsFillUnstored d chunk chunks) where
  abbrev held : Chunks
  held = retain_keys chunks (is_inside d.sizes)

  -- no other offsets are equal to these
  alike : (offsets other : List ℕ) → slice_cmp nat_cmp offsets other ≡ Equal → is_inside d.sizes other ≡ is_inside d.sizes offsets
  alike offsets other equal = ap (is_inside d.sizes) (sym (slice_cmp-IsAntisymmetric nat_cmp-IsAntisymmetric offsets other equal))

  -- what is held is a chunk, inside
  held_of : (offsets : List ℕ) (n : ℕ) → get held offsets ≡ Some n → (is_inside d.sizes offsets ≡ true) × (get chunks offsets ≡ Some n)
  held_of offsets n found = by_test (is_inside d.sizes offsets) (sym (get-retain_keys chunks (is_inside d.sizes) offsets (alike offsets)) ∙ found) where
    by_test : (b : Bool) → cond b (get chunks offsets) None ≡ Some n → (b ≡ true) × (get chunks offsets ≡ Some n)
    by_test true h = (refl, h)
    by_test false h = absurd (cc)

  each_held : (e : List ℕ × ℕ) → In e (entries held) → IsHeldChunk d.sizes chunk e.0
  each_held e is =
      let own = held_of e.0 e.1 (get_of_entry nat_list_cmp_total held e.0 e.1 is) in
      record {
        aligned = aligned e.0 e.1 (found_entry (slice_cmp-IsAntisymmetric nat_cmp-IsAntisymmetric) (entries chunks) e.0 e.1 (sym (get-entries chunks e.0) ∙ own.1));
        inside = inside_of d.sizes e.0 own.0;
      }

  all_held : (es : List (List ℕ × ℕ)) → AllByRecursion (λ (e : List ℕ × ℕ). IsHeldChunk d.sizes chunk e.0) es → AllByRecursion (IsHeldChunk d.sizes chunk) (map (λ (e : List ℕ × ℕ). e.0) es)
  all_held [] all = tt
  all_held (e ∷ es) all = (all.0, all_held es all.1)

  module _ (index : List ℕ) (inside : IsInside d.sizes index) where
    abbrev corner : List ℕ
    corner = corner_of chunk index

    kept : get held corner ≡ get chunks corner
    kept =
        get-retain_keys chunks (is_inside d.sizes) corner (alike corner)
        ∙ ap (λ b. cond b (get chunks corner) None) (is_inside_from d.sizes corner (corner_inside d.sizes chunk index same inside))

    absent : (Contains (held_chunks d.sizes chunks) corner → ⊥) → cell_at d index ≡ d.fill
    absent none = by_found (get chunks corner) refl where
      by_found : (found : Option ℕ) → get chunks corner ≡ found → cell_at d index ≡ d.fill
      by_found None is = unstored index inside is
      by_found (Some n) is =
          absurd (none (contains_in corner (held_chunks d.sizes chunks) (in_map (λ (e : List ℕ × ℕ). e.0) (corner, n) (entries held)
          (found_entry (slice_cmp-IsAntisymmetric nat_cmp-IsAntisymmetric) (entries held) corner n (sym (get-entries held corner) ∙ kept ∙ is)))))

  pub aligned_stored : AreStoredChunks d chunk (held_chunks d.sizes chunks)
  aligned_stored = record {
    rising = sorted_rising (entries held) (entries_sorted held);
    held = all_held (entries held) (all_in (λ (e : List ℕ × ℕ). IsHeldChunk d.sizes chunk e.0) (entries held) each_held);
    unset = absent;
  }

-- ---- those of an image

module _ (image : List ℕ) (k : ℕ) (chunk : List ℕ) (bytes root : ℕ) (chunks : Chunks) (blocks : List Block) (has : HasChunks image k chunk bytes root chunks blocks) where
  abbrev V : Reading
  V = reading_of image (chunk_kind k (length chunk)) has.owned

  abbrev bottom : List ℕ
  bottom = row_below V has.level (root ∷ [])

  pub read_aligned : AreAligned chunk chunks
  read_aligned offsets n is =
      let found = from_flat (λ at. chunks_in (length chunk) (V at)) (offsets, n) bottom (subst (In (offsets, n)) (has.listed).listed is) in
      in_all (λ (c : List ℕ × ℕ). AllZip IsOffset chunk c.0) (offsets, n) (chunks_in (length chunk) (V found.0))
      (zip_keys chunk bytes (V found.0).keys (V found.0).children (in_all (λ at. HasChunkKeys chunk bytes (V at)) found.0 bottom (has.listed).keyed found.1)) found.2

  -- the chunks that hold a cell of the extent
  pub held_stored : (d : Dataset) → length chunk ≡ length d.sizes → IsFillUnstored d chunk chunks → AreStoredChunks d chunk (held_chunks d.sizes chunks)
  held_stored d same unstored = aligned_stored d chunk chunks read_aligned same unstored

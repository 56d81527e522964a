-- The storage of an array was made: in its tree of chunks, or in one that is new.
use Rattle.std.proofs.Common.{◌≡◌, ℕ, ◌*◌, ◌<◌, ◌↔◌, inl, inr, List, length, true, Option, Some, None, ℤ, refl, sym, ap, ap₂, ◌∙◌, subst}
use Rattle.std.specs.Ordering.{nat_cmp}
use Rattle.std.specs.Cmp.Lexicographic.{slice_cmp}
use Rattle.std.specs.FinMap.{empty, get, get-empty}
use Rattle.std.specs.List.{AllZip, Contains}
use Rattle.h5_bytes.proofs.TableLaws.{table_same}
use Rattle.h5_model.specs.Format.Cells.{cell_of, cells_of, value_in_chunk}
use Rattle.h5_model.specs.Format.Chunks.{Chunks, IsOffset}
use Rattle.h5_model.specs.Format.Fixed.{IsFixed, fits}
use Rattle.h5_model.specs.Format.Layout.{InChunks, Layout}
use Rattle.h5_model.specs.Format.Described.{storage_of, Described}
use Rattle.h5_model.specs.Tree.Grid.{corner_of, inner_of}
use Rattle.h5_model.specs.Tree.Objects.{Storage}
use Rattle.h5_model.specs.Tree.Places.{IsInside, cells, index_of, place_of}
use Rattle.h5_model.specs.Views.Selection.{Slab}
use Rattle.h5_space.specs.Space.{Space}
use Rattle.h5_header.specs.Listed.{Listed, messages_in}
use Rattle.h5_laws.proofs.Lists.{In, all_in, contains_in}
use Rattle.h5_chunks.specs.Shapes.{AreChunkSizes}
use Rattle.h5_chunks.specs.Told.{chunk_blocks_told, chunks_told}
use Rattle.h5_layout.specs.ArrayChunks.{ArrayChunks}
use Rattle.h5_layout.specs.ArrayEdits.{IsArrayApart, IsArrayMoved, described_in}
use Rattle.h5_layout.specs.Data.{AreDataRead, chunk_shape, data_blocks, dataset_told, stored_chunks}
use Rattle.h5_layout.specs.Filled.{AreToStore, HasFilledChunks, cells_of_fill}
use Rattle.h5_layout.specs.HeldChunks.{IsChunkMet}
use Rattle.h5_layout.specs.Lacking.{lacks_cells, stored_all, stored_storage}
use Rattle.h5_layout.specs.NewChunks.{AreMissing}
use Rattle.h5_chunks.specs.Lists.{ChunkOffsets}
use Rattle.h5_layout.specs.NewTrees.{IsTreeNamed}
use Rattle.h5_layout.specs.Storage.{IsStorageMade}
use Rattle.h5_layout.specs.Stored.{IsArray}
use Rattle.h5_layout.specs.Trimmed.{IsTrimmed, grid_cell}
use Rattle.h5_layout.specs.declared.lacking.Missing.TheVariants as missing
use Rattle.h5_layout.proofs.ArrayFilled.{filled_reads, filled_stored, grid_reads, stored_before}
use Rattle.h5_layout.proofs.ArrayMoved.{array_still, data_moved, moved_then}
use Rattle.h5_layout.proofs.KeptValues.{chunk_rank}
use Rattle.h5_layout.proofs.LocateLaws.{some_cells}
use Rattle.h5_layout.proofs.RoomLaws.{is_array}
use Rattle.h5_layout.proofs.StoredWith.{met_held}

-- ---- what is to be stored

-- chunks that are missing are whole ones, and none of them is stored
pub to_store : (image : List ℕ) (a : Described) (chunk : List ℕ) (root : Option ℕ) → a.layout ≡ InChunks chunk root → IsArray a → AreChunkSizes chunk → (slab : Slab) (new : ChunkOffsets)
    → AreMissing image a chunk slab new → AreToStore (stored_chunks image a.fixed a.layout) (chunk_shape a.fixed chunk) new
to_store image a chunk root laid sound sizes slab new is = record {
  rank = is.rank;
  bytes = is.bytes;
  rising = is.rising;
  aligned = all_in (λ (o : List ℕ). AllZip IsOffset chunk o) new.offsets (λ o at.
      (met_held a.sizes chunk (chunk_rank a chunk root laid sound) sizes.some sound.small slab is.within o ((is.each o).0 (contains_in o new.offsets at)).0).aligned);
  absent = all_in (λ (o : List ℕ). get (stored_chunks image a.fixed a.layout) o ≡ None) new.offsets (λ o at. ((is.each o).0 (contains_in o new.offsets at)).1);
}

-- ---- a dataset in chunks is stored as it is

chunked_stored : (image : List ℕ) (a : Described) (chunk : List ℕ) (root : Option ℕ) → a.layout ≡ InChunks chunk root → stored_all (dataset_told image a) ≡ dataset_told image a
chunked_stored image a chunk root laid =
    let same : stored_storage a.sizes (storage_of a.sizes a.layout) ≡ storage_of a.sizes a.layout
    = subst (λ (l : Layout). stored_storage a.sizes (storage_of a.sizes l) ≡ storage_of a.sizes l) (sym laid) refl in
    ap (λ (st : Storage). record (dataset_told image a) { storage = st }) same

-- ---- chunks were stored

module _ (s t : Space) (m : Listed) (was : IsArrayApart s m) (a : Described) (is : described_in s.bytes m ≡ a) (chunk : List ℕ) (root : ℕ) (laid : a.layout ≡ InChunks chunk (Some root))
    (more : List (List ℕ)) (filled : HasFilledChunks s t (chunk_shape a.fixed chunk) root (cells_of_fill a.fixed a.fill (cells chunk)) more) where
  laid_told : (described_in s.bytes m).layout ≡ InChunks chunk (Some root)
  laid_told = ap (λ (x : Described). x.layout) is ∙ laid

  blocks_at : (image : List ℕ) → data_blocks image (described_in s.bytes m).fixed (described_in s.bytes m).layout ≡ chunk_blocks_told image (chunk_shape a.fixed chunk) root
  blocks_at image = ap₂ (data_blocks image) (ap (λ (x : Described). x.fixed) is) laid_told

  pub added_told : described_in t.bytes m ≡ a
  added_told = array_still s t m was (chunk_blocks_told s.bytes (chunk_shape a.fixed chunk) root) (chunk_blocks_told t.bytes (chunk_shape a.fixed chunk) root) (blocks_at s.bytes) filled.moves ∙ is

  -- a chunk that is stored now is one of the array
  pub added_placed : (o : List ℕ) (at : ℕ) → get (chunks_told t.bytes (chunk_shape a.fixed chunk) root) o ≡ Some at
      → get (stored_chunks t.bytes (described_in t.bytes m).fixed (described_in t.bytes m).layout) o ≡ Some at
  added_placed o at found =
      ap (λ (x : Described). get (stored_chunks t.bytes x.fixed x.layout) o) added_told ∙ ap (λ (l : Layout). get (stored_chunks t.bytes a.fixed l) o) laid ∙ found

  pub added_moved : IsArrayMoved s t m m
  added_moved =
      data_moved s t m was (chunk_blocks_told s.bytes (chunk_shape a.fixed chunk) root) (chunk_blocks_told t.bytes (chunk_shape a.fixed chunk) root) (blocks_at s.bytes) filled.moves
      (subst (λ (x : Described). AreDataRead t.bytes x.fixed x.layout) (sym is) (subst (AreDataRead t.bytes a.fixed) (sym laid) filled.stand.read)) (blocks_at t.bytes)

  module _ (sound : IsFixed a.fixed) (fit : fits a.fixed a.fill ≡ true) (rank : length chunk ≡ length a.sizes) (some : 0 < cells chunk)
      (absent : (o : List ℕ) → In o more → get (chunks_told s.bytes (chunk_shape a.fixed chunk) root) o ≡ None) where
    pub added_dataset : dataset_told t.bytes (described_in t.bytes m) ≡ dataset_told s.bytes a
    added_dataset =
        let same : cells_of t.bytes a.fixed a.fill a.sizes a.layout (stored_chunks t.bytes a.fixed a.layout) ≡ cells_of s.bytes a.fixed a.fill a.sizes a.layout (stored_chunks s.bytes a.fixed a.layout)
        = subst (λ (l : Layout). cells_of t.bytes a.fixed a.fill a.sizes l (stored_chunks t.bytes a.fixed l) ≡ cells_of s.bytes a.fixed a.fill a.sizes l (stored_chunks s.bytes a.fixed l)) (sym laid)
        (filled_reads s t a.fixed a.fill chunk root more sound fit filled absent a.sizes rank some) in
        ap (dataset_told t.bytes) added_told ∙ ap (λ (cs : List ℤ). record (dataset_told s.bytes a) { cells = cs }) same

    -- nothing is stored outside the sizes, where nothing was
    pub added_trimmed : ((o : List ℕ) → In o more → IsInside a.sizes o) → IsTrimmed s.bytes a a.sizes → IsTrimmed t.bytes (described_in t.bytes m) (described_in t.bytes m).sizes
    added_trimmed inside trimmed =
        let same : (image : List ℕ) → stored_chunks image a.fixed a.layout ≡ chunks_told image (chunk_shape a.fixed chunk) root = λ image. ap (stored_chunks image a.fixed) laid in
        let now : IsTrimmed t.bytes a a.sizes = record {
          held = λ o at there. elim (stored_before s t a.fixed a.fill chunk root more sound fit filled absent o at (ap (λ (c : Chunks). get c o) (sym (same t.bytes)) ∙ there)) [
            | inl new ↦ inside o new
            | inr old ↦ trimmed.held o old.0 (ap (λ (c : Chunks). get c o) (same s.bytes) ∙ old.1)
          ];
          filled = λ index long out.
              grid t.bytes index
              ∙ grid_reads s t a.fixed a.fill chunk root more sound fit filled absent a.sizes index (long ∙ sym rank) some
              ∙ sym (grid s.bytes index) ∙ trimmed.filled index long out;
        } in
        subst (λ (x : Described). IsTrimmed t.bytes x x.sizes) (sym added_told) now where
          grid : (image : List ℕ) (index : List ℕ) → grid_cell image a index
              ≡ cell_of image a.fixed a.fill a.sizes (InChunks chunk (Some root)) (chunks_told image (chunk_shape a.fixed chunk) root) index
          grid image index = ap (λ (l : Layout). cell_of image a.fixed a.fill a.sizes l (stored_chunks image a.fixed l) index) laid

-- chunks that are missing for a selection hold a cell of the array
missing_inside : (image : List ℕ) (a : Described) (chunk : List ℕ) (root : Option ℕ) → a.layout ≡ InChunks chunk root → IsArray a → AreChunkSizes chunk → (slab : Slab) (new : ChunkOffsets)
    → AreMissing image a chunk slab new → (o : List ℕ) → In o new.offsets → IsInside a.sizes o
missing_inside image a chunk root laid sound sizes slab new is o at =
    (met_held a.sizes chunk (chunk_rank a chunk root laid sound) sizes.some sound.small slab is.within o ((is.each o).0 (contains_in o new.offsets at)).0).inside

-- in the tree that there was
pub chunks_made : (s t : Space) (m : Listed) (was : IsArrayApart s m) (chunk : List ℕ) (root : ℕ) (laid : (described_in s.bytes m).layout ≡ InChunks chunk (Some root)) → AreChunkSizes chunk
    → IsFixed (described_in s.bytes m).fixed → fits (described_in s.bytes m).fixed (described_in s.bytes m).fill ≡ true → (new : ChunkOffsets)
    → HasFilledChunks s t (chunk_shape (described_in s.bytes m).fixed chunk) root (cells_of_fill (described_in s.bytes m).fixed (described_in s.bytes m).fill (cells chunk)) new.offsets
    → (slab : Slab) → AreMissing s.bytes (described_in s.bytes m) chunk slab new → (k : ArrayChunks) → IsStorageMade s t m slab (missing.Chunks k new)
chunks_made s t m was chunk root laid sizes sound fit new filled slab is k =
    let a : Described = described_in s.bytes m in
    let arr = is_array (messages_in s.bytes m.list) a was.array in
    let told = added_told s t m was a refl chunk root laid new.offsets filled in
    let same : stored_chunks s.bytes a.fixed a.layout ≡ chunks_told s.bytes (chunk_shape a.fixed chunk) root = ap (stored_chunks s.bytes a.fixed) laid in
    record {
      moved = added_moved s t m was a refl chunk root laid new.offsets filled;
      told = told ∙ ap (λ (l : Layout). record a { layout = l }) (sym (ap (λ (x : Described). x.layout) told));
      dataset = added_dataset s t m was a refl chunk root laid new.offsets filled sound fit (chunk_rank a chunk (Some root) laid arr) (some_cells chunk sizes.some)
          (λ o at. ap (λ (c : Chunks). get c o) (sym same) ∙ ((is.each o).0 (contains_in o new.offsets at)).1)
          ∙ sym (chunked_stored s.bytes a chunk (Some root) laid);
      stored = ap (λ (x : Described). lacks_cells t.bytes x slab) told ∙ filled_stored s t a chunk root (cells_of_fill a.fixed a.fill (cells chunk)) slab new laid is filled;
      trimmed = λ chunked. added_trimmed s t m was a refl chunk root laid new.offsets filled sound fit (chunk_rank a chunk (Some root) laid arr) (some_cells chunk sizes.some)
          (λ o at. ap (λ (c : Chunks). get c o) (sym same) ∙ ((is.each o).0 (contains_in o new.offsets at)).1)
          (missing_inside s.bytes a chunk (Some root) laid arr sizes slab new is);
    }

-- ---- in a tree that is new

module _ (old s t : Space) (m : Listed) (was : IsArrayApart old m) (chunk : List ℕ) (root : ℕ) (laid : (described_in old.bytes m).layout ≡ InChunks chunk None)
    (tree : IsTreeNamed old s m (chunk_shape (described_in old.bytes m).fixed chunk) root) (sizes : AreChunkSizes chunk)
    (sound : IsFixed (described_in old.bytes m).fixed) (fit : fits (described_in old.bytes m).fixed (described_in old.bytes m).fill ≡ true) (new : ChunkOffsets)
    (filled : HasFilledChunks s t (chunk_shape (described_in old.bytes m).fixed chunk) root (cells_of_fill (described_in old.bytes m).fixed (described_in old.bytes m).fill (cells chunk)) new.offsets)
    (slab : Slab) (is : AreMissing old.bytes (described_in old.bytes m) chunk slab new) where
  abbrev a : Described
  a = described_in old.bytes m

  abbrev b : Described
  b = record a { layout = InChunks chunk (Some root) }

  no_chunks : stored_chunks s.bytes b.fixed b.layout ≡ stored_chunks old.bytes a.fixed a.layout
  no_chunks = tree.none ∙ sym (ap (stored_chunks old.bytes a.fixed) laid)

  missing_still : AreMissing s.bytes b chunk slab new
  missing_still = record {
    within = is.within;
    rank = is.rank;
    bytes = is.bytes;
    rising = is.rising;
    each = subst (λ (c : Chunks). (o : List ℕ) → Contains new.offsets o ↔ (IsChunkMet slab chunk o × (get c o ≡ None))) (sym no_chunks) is.each;
  }

  -- no cell is stored in either
  none_reads : (image : List ℕ) (r : Option ℕ) (index : List ℕ) → cell_of image a.fixed a.fill a.sizes (InChunks chunk r) empty index ≡ a.fill
  none_reads image r index =
      ap (value_in_chunk image a.fixed a.fill (cells chunk * a.fixed.size) (place_of chunk (inner_of chunk index))) (get-empty (slice_cmp nat_cmp) (corner_of chunk index))

  named_dataset : dataset_told s.bytes b ≡ dataset_told old.bytes a
  named_dataset =
      let here : List ℕ → Option ℕ → ℕ → ℤ = λ image r place. cell_of image a.fixed a.fill a.sizes (InChunks chunk r) empty (index_of a.sizes place) in
      let same : cells_of s.bytes a.fixed a.fill a.sizes (InChunks chunk (Some root)) (chunks_told s.bytes (chunk_shape a.fixed chunk) root) ≡ cells_of old.bytes a.fixed a.fill a.sizes (InChunks chunk None) empty
      = ap (cells_of s.bytes a.fixed a.fill a.sizes (InChunks chunk (Some root))) tree.none
      ∙ table_same (here old.bytes None) (here s.bytes (Some root)) (cells a.sizes) 0
      (λ j low. none_reads s.bytes (Some root) (index_of a.sizes j) ∙ sym (none_reads old.bytes None (index_of a.sizes j))) in
      ap (λ (cs : List ℤ). record (dataset_told s.bytes b) { cells = cs }) same
      ∙ ap (λ (l : Layout). dataset_told old.bytes (record a { layout = l })) (sym laid)

  -- nor anything outside the sizes
  named_trimmed : IsTrimmed s.bytes b b.sizes
  named_trimmed = record {
    held = λ o at there. (let never : None ≡ Some at = sym (get-empty (slice_cmp nat_cmp) o) ∙ ap (λ (c : Chunks). get c o) (sym tree.none) ∙ there in absurd (cc));
    filled = λ index long out.
        ap (λ (c : Chunks). cell_of s.bytes a.fixed a.fill a.sizes (InChunks chunk (Some root)) c index) tree.none ∙ none_reads s.bytes (Some root) index;
  }

  pub tree_made : (k : ArrayChunks) → IsStorageMade old t m slab (missing.Chunks k new)
  tree_made k =
      let stand = tree.moved.stand in
      let arr = is_array (messages_in old.bytes m.list) a was.array in
      let told = added_told s t m stand b tree.told chunk root refl new.offsets filled in
      record {
        moved = moved_then old s t m m tree.moved (added_moved s t m stand b tree.told chunk root refl new.offsets filled);
        told = told ∙ ap (λ (l : Layout). record a { layout = l }) (sym (ap (λ (x : Described). x.layout) told));
        dataset = added_dataset s t m stand b tree.told chunk root refl new.offsets filled sound fit (chunk_rank a chunk None laid arr) (some_cells chunk sizes.some)
            (λ o at. ((missing_still.each o).0 (contains_in o new.offsets at)).1)
            ∙ named_dataset ∙ sym (chunked_stored old.bytes a chunk None laid);
        stored = ap (λ (x : Described). lacks_cells t.bytes x slab) told ∙ filled_stored s t b chunk root (cells_of_fill a.fixed a.fill (cells chunk)) slab new refl missing_still filled;
        trimmed = λ chunked trimmed. added_trimmed s t m stand b tree.told chunk root refl new.offsets filled sound fit (chunk_rank a chunk None laid arr) (some_cells chunk sizes.some)
            (λ o at. ((missing_still.each o).0 (contains_in o new.offsets at)).1)
            (missing_inside old.bytes a chunk None laid arr sizes slab new is) named_trimmed;
      }

-- The arrays of an opened image as they are handed to the writer, with their cells or their chunks as they are stored.
use Rattle.std.proofs.Common.{◌≡◌, ◌≢◌, ℕ, ◌*◌, List, [], length, Bool, true, false, Option, refl, sym, ap, ◌∙◌, subst}
use Rattle.std.specs.Prelude.{◌&&◌, is_some, nat_lt}
use Rattle.std.specs.FinMap.{empty}
use Rattle.std.proofs.lemmas.List.FromFn.{length-map-range_with_len}
use Rattle.h5_bytes.specs.declared.Block.{Block}
use Rattle.h5_layout.specs.HeldChunks.{HeldCells, held_cells, held_chunks}
use Rattle.h5_model.specs.Edits.Refusal.{is_chunked}
use Rattle.h5_model.specs.Format.Fixed.{Fixed, IsFixed}
use Rattle.h5_model.specs.Format.Layout.{Layout, InMessage, InBlock, InChunks}
use Rattle.h5_model.specs.Format.Messages.{Message}
use Rattle.h5_model.specs.Format.Plain.{cells_bytes}
use Rattle.h5_model.specs.Format.Described.{storage_of, Described, described_dataset}
use Rattle.h5_model.specs.Scripts.Answers.{stored_values}
use Rattle.h5_model.specs.Tree.Objects.{Dataset, Contiguous, Chunked}
use Rattle.h5_model.specs.Tree.Places.{cells}
use Rattle.h5_model.proofs.StoredValues.{stored-cells_bytes}
use Rattle.h5_layout.proofs.StorableLaws.{fixed_told}
use Rattle.h5_query.specs.Data.{AreDataRead, data_blocks, stored_chunks}
use Rattle.h5_query.specs.Kept.{array_dataset}
use Rattle.h5_query.specs.Opened.Judged.{IsArrayList}
use Rattle.h5_query.specs.Stored.{AreFilled, AreStored}
use Rattle.h5_query.specs.Told.{array_told, layout_told, type_told}
use Rattle.h5_query.proofs.DataLaws.{data_there}
use Rattle.h5_repack.specs.Blocks.ArrayHeader.{storage_by}
use Rattle.h5_repack.specs.Blocks.Written.{AreHeldOf, chunks_of}
use Rattle.h5_repack.specs.Bodies.Headers.{AreStoredFor}
use Rattle.h5_repack.specs.Objects.Objects.{IsNewArray}
use Rattle.h5_repack.specs.declared.blocks.cells.Cells.{Cells}
use Rattle.h5_repack.specs.declared.blocks.cells.Cells.TheVariants.{Unset, Filled, Stored, Chunks}
use Rattle.h5_repack.proofs.BlockLaws.ValueBytes.{values_there}
use Rattle.h5_repack.proofs.ChunkLaws.HeldCells.{held_cells_are, held_cells_stored, held_offsets, resized_own}
use Rattle.h5_repack.proofs.ChunkLaws.StoredFor.{unchunked_stored}
use Rattle.h5_edit.specs.Changed.Cells.{AreCellsKept, IsUnchunkedLayout}
use Rattle.h5_edit.specs.Fits.Laws.{AreBytes}

-- bytes of so many cells are those of the values that they store
pub bytes_of_stored : (t : Fixed) (count : ℕ) (bytes : List ℕ) → IsFixed t → AreBytes bytes → length bytes ≡ count * t.size → bytes ≡ cells_bytes t (stored_values t bytes)
bytes_of_stored t count bytes sound low long =
    let made = values_there t count bytes sound long low in
    sym (made.1.same) ∙ ap (cells_bytes t) (sym (stored-cells_bytes t made.0 sound made.1.of_type) ∙ ap (stored_values t) made.1.same)

-- ---- cells that are not in chunks

no_chunks : (image : List ℕ) (t : Fixed) (l : Layout) → IsUnchunkedLayout l → stored_chunks image t l ≡ empty
no_chunks image t (InMessage bytes) is = refl
no_chunks image t (InBlock b) is = refl
no_chunks image t (InChunks sizes root) is = absurd is

unchunked : (sizes : List ℕ) (l : Layout) → IsUnchunkedLayout l → is_chunked (storage_of sizes l) ≡ false
unchunked sizes (InMessage bytes) is = refl
unchunked sizes (InBlock b) is = refl
unchunked sizes (InChunks chunk root) is = absurd is

not_stored : (s : Bool) → Contiguous s ≢ Contiguous true → Contiguous false ≡ Contiguous s
not_stored true differs = absurd (differs refl)
not_stored false differs = refl

is_stored : (s : Bool) → Contiguous s ≢ Contiguous false → Contiguous true ≡ Contiguous s
is_stored true differs = refl
is_stored false differs = absurd (differs refl)

unset_storage : (sizes : List ℕ) (l : Layout) → IsUnchunkedLayout l → storage_of sizes l ≢ Contiguous true → storage_by l Unset (cells sizes) ≡ storage_of sizes l
unset_storage sizes (InMessage bytes) is differs = refl
unset_storage sizes (InBlock b) is differs = not_stored (is_some b && nat_lt 0 (cells sizes)) differs
unset_storage sizes (InChunks chunk root) is differs = absurd is

stored_storage : (sizes : List ℕ) (l : Layout) (c : Cells) → IsUnchunkedLayout l → ((b : Option Block) → storage_by (InBlock b) c (cells sizes) ≡ Contiguous true)
    → storage_of sizes l ≢ Contiguous false → storage_by l c (cells sizes) ≡ storage_of sizes l
stored_storage sizes (InMessage bytes) c is by differs = refl
stored_storage sizes (InBlock b) c is by differs = by b ∙ is_stored (is_some b && nat_lt 0 (cells sizes)) differs
stored_storage sizes (InChunks chunk root) c is by differs = absurd is

-- ---- the array of a header

module _ (image : List ℕ) (ms : List Message) (is : IsArrayList ms) (read : AreDataRead image (type_told ms) (layout_told ms)) where
  abbrev a : Described
  a = array_told ms

  abbrev d : Dataset
  d = array_dataset image ms

  -- without chunks
  abbrev bare : Dataset
  bare = described_dataset image a empty

  alone : IsUnchunkedLayout a.layout → bare ≡ d
  alone other = ap (described_dataset image a) (sym (no_chunks image a.fixed a.layout other))

  unset_array : IsUnchunkedLayout a.layout → AreFilled bare → IsNewArray a Unset d
  unset_array other filled = subst (IsNewArray a Unset) (alone other) (record {
    fixed_is = refl;
    sizes_are = refl;
    maxima_are = refl;
    fill_is = refl;
    storage_is = unset_storage a.sizes a.layout other filled.1;
    cells_are = filled.0;
    stored_are = unchunked_stored [] bare (unchunked a.sizes a.layout other);
  })

  module _ (bytes : List ℕ) (low : AreBytes bytes) (stored : AreStored bare bytes) where
    bytes_are : bytes ≡ cells_bytes bare.fixed bare.cells
    bytes_are = bytes_of_stored a.fixed (cells a.sizes) bytes (fixed_told ms a is.array) low stored.0 ∙ ap (cells_bytes a.fixed) (sym stored.1)

  counted : length d.cells ≡ cells d.sizes
  counted = length-map-range_with_len _ 0 (cells a.sizes)

  module _ (chunk : List ℕ) (root : Option ℕ) (layout : a.layout ≡ InChunks chunk root) (long : length chunk ≡ length a.sizes) where
    abbrev held : HeldCells
    held = held_cells image a chunk a.sizes

    in_chunks : d.storage ≡ Chunked chunk
    in_chunks = ap (storage_of a.sizes) layout

    boxed : (c : List ℕ) → d.storage ≡ Chunked c → length c ≡ length d.sizes
    boxed c e = let same : chunk ≡ c = (let both : Chunked chunk ≡ Chunked c = sym in_chunks ∙ e in cc) in ap length (sym same) ∙ long

    offsets_are : chunks_of (Chunks held) ≡ held_chunks a.sizes (stored_chunks image a.fixed a.layout)
    offsets_are = held_offsets image a chunk a.sizes

    held_of : AreHeldOf held d
    held_of = subst (AreHeldOf held) (resized_own d counted) (held_cells_are image a chunk a.sizes in_chunks)

    stored_for : AreStoredFor (chunks_of (Chunks held)) d
    stored_for = subst (AreStoredFor (chunks_of (Chunks held))) (resized_own d counted)
        (held_cells_stored image a chunk a.sizes (data_blocks image a.fixed a.layout) (data_there image a.fixed a.layout read) boxed refl)

    chunked_array : IsNewArray a (Chunks held) d
    chunked_array = record {
      fixed_is = refl;
      sizes_are = refl;
      maxima_are = refl;
      fill_is = refl;
      storage_is = ap (λ (l : Layout). storage_by l (Chunks held) (cells a.sizes)) layout ∙ sym in_chunks;
      cells_are = held_of;
      stored_are = stored_for;
    }

  kept_told : (c : Cells) → AreCellsKept image a c → IsNewArray a c d
  kept_told Unset (other, filled) = unset_array other filled
  kept_told Filled never = absurd never
  kept_told (Stored bytes) (other, low, stored) = subst (IsNewArray a (Stored bytes)) (alone other) (record {
    fixed_is = refl;
    sizes_are = refl;
    maxima_are = refl;
    fill_is = refl;
    storage_is = stored_storage a.sizes a.layout (Stored bytes) other (λ b. refl) stored.2;
    cells_are = bytes_are bytes.now low stored;
    stored_are = unchunked_stored [] bare (unchunked a.sizes a.layout other);
  })
  kept_told (Chunks _) (chunk, root, layout, long, same) = subst (λ (h : HeldCells). IsNewArray a (Chunks h) d) (sym same) (chunked_array chunk root layout long)

  -- whatever describes it so
  pub kept_array : (x : Described) → x ≡ a → (c : Cells) → AreCellsKept image x c → IsNewArray x c d
  kept_array x told c kept =
      subst (λ (y : Described). IsNewArray y c d) (sym told) (kept_told c (subst (λ (y : Described). AreCellsKept image y c) told kept))

  not_chunked : (chunk : List ℕ) → IsUnchunkedLayout a.layout → d.storage ≡ Chunked chunk → [] ≡ held_chunks d.sizes (stored_chunks image a.fixed a.layout)
  not_chunked chunk other e = absurd (let never : true ≡ false = sym (ap is_chunked e) ∙ unchunked a.sizes a.layout other in cc)

  chunks_told : (c : Cells) → AreCellsKept image a c → (chunk : List ℕ) → d.storage ≡ Chunked chunk → chunks_of c ≡ held_chunks d.sizes (stored_chunks image a.fixed a.layout)
  chunks_told Unset (other, filled) chunk e = not_chunked chunk other e
  chunks_told Filled never chunk e = absurd never
  chunks_told (Stored bytes) (other, low, stored) chunk e = not_chunked chunk other e
  chunks_told (Chunks _) (sizes, root, layout, long, same) chunk e = ap (λ (h : HeldCells). chunks_of (Chunks h)) same ∙ offsets_are sizes root layout long

  -- and of its chunks those that hold a cell
  pub kept_chunks : (x : Described) → x ≡ a → (c : Cells) → AreCellsKept image x c → (chunk : List ℕ) → d.storage ≡ Chunked chunk
      → chunks_of c ≡ held_chunks d.sizes (stored_chunks image a.fixed a.layout)
  kept_chunks x told c kept = chunks_told c (subst (λ (y : Described). AreCellsKept image y c) told kept)

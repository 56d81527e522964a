-- Chunks whose cells outside an extent become the fill, one chunk after another.
use Rattle.std.proofs.Common.{◌≡◌, ℕ, ◌+◌, ◌*◌, ◌<◌, ◌≤◌, inl, inr, ℤ, List, [], ◌∷◌, ◌++◌, length, Bool, true, false, cond, Some, refl, sym, ap, ◌∙◌, arith}
use Rattle.std.specs.FinMap.{get}
use Rattle.std.specs.List.{range_with_len}
use Rattle.std.proofs.lemmas.List.FromFn.{length-map-range_with_len}
use Rattle.std.proofs.lemmas.Option.{same_Some}
use Rattle.h5_bytes.specs.Bytes.{part}
use Rattle.h5_bytes.specs.Tables.{table}
use Rattle.h5_bytes.proofs.TableLaws.{get_or-table}
use Rattle.h5_model.specs.Format.Cells.{value_in}
use Rattle.h5_model.specs.Format.Chunks.{Chunks}
use Rattle.h5_model.specs.Format.Fixed.{fits}
use Rattle.h5_model.specs.Format.Reached.{Shape}
use Rattle.h5_model.specs.Tree.Places.{cells, index_of, is_inside}
use Rattle.h5_model.proofs.PlainValues.{length-cells_bytes, size-low, value_at-cells_bytes}
use Rattle.h5_model.proofs.StoredValues.{AreOf-map, fits_value_at}
use Rattle.h5_space.specs.Lending.{with_bytes_at}
use Rattle.h5_space.specs.Moves.{Moves, Spends}
use Rattle.h5_space.specs.Space.{Space}
use Rattle.h5_space.proofs.MovesLaws.{moves_none, moves_then, spends_none, spends_then}
use Rattle.h5_header.proofs.BesideLaws.{spends_write}
use Rattle.h5_laws.proofs.Lists.{In, in_either}
use Rattle.h5_laws.proofs.SoundLaws.Inserted.{same_name_or_other}
use Rattle.h5_msg.proofs.ValueBytes.{AreBytes}
use Rattle.h5_chunks.specs.Told.{chunk_blocks_told, chunks_told}
use Rattle.h5_layout.specs.ArrayChunks.{ArrayChunks, AreSoundChunks}
use Rattle.h5_chunks.specs.Edited.{AreChunksApart}
use Rattle.h5_layout.specs.Data.{chunk_shape}
use Rattle.h5_layout.specs.Kept.{corner_value, slices_kept}
use Rattle.h5_layout.specs.Trimmed.{trimmed_bytes}
use Rattle.h5_layout.proofs.ChunkFilled.{written_apart, written_chunks, written_here, written_moves, written_others}
use Rattle.h5_layout.proofs.GridLaws.{chunk_inside}

-- Cells outside of the extent became the fill in these chunks. All chunks stand where they stood, and their other cells are as before.
pub record AreTrimmedSo (k : ArrayChunks) (sizes : List ℕ) (root : ℕ) (start now : Space) (done : List (List ℕ)) : Type 0 where
  pub told : chunks_told now.bytes (chunk_shape k.fixed k.chunk) root ≡ chunks_told start.bytes (chunk_shape k.fixed k.chunk) root
  pub stand : AreChunksApart now (chunk_shape k.fixed k.chunk) root
  pub moves : Moves start now (chunk_blocks_told start.bytes (chunk_shape k.fixed k.chunk) root) (chunk_blocks_told now.bytes (chunk_shape k.fixed k.chunk) root)
  pub spent : Spends start now 0 0
  pub inside : (offsets : List ℕ) (at place : ℕ) → get (chunks_told start.bytes (chunk_shape k.fixed k.chunk) root) offsets ≡ Some at → place < cells k.chunk
      → is_inside (slices_kept sizes k.chunk offsets) (index_of k.chunk place) ≡ true
      → value_in k.fixed (part at (chunk_shape k.fixed k.chunk).bytes now.bytes) place ≡ value_in k.fixed (part at (chunk_shape k.fixed k.chunk).bytes start.bytes) place
  pub filled : (offsets : List ℕ) (at place : ℕ) → In offsets done → get (chunks_told start.bytes (chunk_shape k.fixed k.chunk) root) offsets ≡ Some at
      → place < cells k.chunk
      → is_inside (slices_kept sizes k.chunk offsets) (index_of k.chunk place) ≡ false
      → value_in k.fixed (part at (chunk_shape k.fixed k.chunk).bytes now.bytes) place ≡ k.fill

pub none_trimmed : (k : ArrayChunks) (sizes : List ℕ) (root : ℕ) (s : Space) → AreChunksApart s (chunk_shape k.fixed k.chunk) root → AreTrimmedSo k sizes root s s []
none_trimmed k sizes root s stand = record {
  told = refl;
  stand = stand;
  moves = moves_none s (chunk_blocks_told s.bytes (chunk_shape k.fixed k.chunk) root);
  spent = spends_none s;
  inside = λ offsets at place found low within. refl;
  filled = λ offsets at place never found low out. absurd never;
}

module _ (k : ArrayChunks) (sound : AreSoundChunks k) (sizes : List ℕ) where
  abbrev shape : Shape
  shape = chunk_shape k.fixed k.chunk

  -- ---- the bytes of one chunk

  module _ (offsets bytes : List ℕ) where
    abbrev value : ℕ → ℤ
    value = corner_value k.fixed k.fill k.chunk (slices_kept sizes k.chunk offsets) bytes

    pub length-trimmed : length (trimmed_bytes k sizes offsets bytes) ≡ shape.bytes
    length-trimmed = length-cells_bytes k.fixed (table value (cells k.chunk)) ∙ ap (λ n. n * k.fixed.size) (length-map-range_with_len value 0 (cells k.chunk))

    value_fits : AreBytes bytes → (place : ℕ) → fits k.fixed (value place) ≡ true
    value_fits low place = by_test (is_inside (slices_kept sizes k.chunk offsets) (index_of k.chunk place)) where
      by_test : (b : Bool) → fits k.fixed (cond b (value_in k.fixed bytes place) k.fill) ≡ true
      by_test true = fits_value_at k.fixed bytes (place * k.fixed.size) sound.sound low
      by_test false = sound.of_type

    trimmed_value : AreBytes bytes → (place : ℕ) → place < cells k.chunk → value_in k.fixed (trimmed_bytes k sizes offsets bytes) place ≡ value place
    trimmed_value low place under =
        let counted : length (table value (cells k.chunk)) ≡ cells k.chunk = length-map-range_with_len value 0 (cells k.chunk) in
        value_at-cells_bytes k.fixed (table value (cells k.chunk)) place k.fill (size-low k.fixed sound.sound)
        (AreOf-map k.fixed value (value_fits low) (range_with_len 0 (cells k.chunk))) (omega (arith, under, counted))
        ∙ get_or-table value value (cells k.chunk) place k.fill under

  -- ---- all of them

  module _ (root : ℕ) where
    abbrev IsWithin : List ℕ → ℕ → Bool → Type 0
    IsWithin offsets place b = is_inside (slices_kept sizes k.chunk offsets) (index_of k.chunk place) ≡ b

    abbrev value_there : Space → ℕ → ℕ → ℤ
    value_there s at place = value_in k.fixed (part at (chunk_shape k.fixed k.chunk).bytes s.bytes) place

    module _ (start now new : Space) (done : List (List ℕ)) (so : AreTrimmedSo k sizes root start now done) (offsets : List ℕ) (at : ℕ)
        (found : get (chunks_told now.bytes shape root) offsets ≡ Some at) (low : AreBytes (part at shape.bytes now.bytes))
        (wrote : new ≡ with_bytes_at now at (trimmed_bytes k sizes offsets (part at shape.bytes now.bytes))) where
      abbrev w : List ℕ
      w = trimmed_bytes k sizes offsets (part at shape.bytes now.bytes)

      long : length w ≡ shape.bytes
      long = length-trimmed offsets (part at shape.bytes now.bytes)

      room : at + length w ≤ length now.bytes
      room = omega (arith, long, chunk_inside now.bytes shape root so.stand.read offsets at found)

      -- as the tree has them now
      found_now : (o : List ℕ) (a : ℕ) → get (chunks_told start.bytes shape root) o ≡ Some a → get (chunks_told now.bytes shape root) o ≡ Some a
      found_now o a there = ap (λ (c : Chunks). get c o) so.told ∙ there

      -- the chunk that was written
      here : (o : List ℕ) (a place : ℕ) → o ≡ offsets → get (chunks_told start.bytes shape root) o ≡ Some a → place < cells k.chunk
          → value_there new a place ≡ corner_value k.fixed k.fill k.chunk (slices_kept sizes k.chunk o) (part a shape.bytes now.bytes) place
      here o a place same there under =
          let one : a ≡ at = same_Some a at (sym (found_now o a there) ∙ ap (get (chunks_told now.bytes shape root)) same ∙ found) in
          ap (λ n. value_there new n place) one
          ∙ ap (λ (bs : List ℕ). value_in k.fixed bs place) (written_here now new shape root so.stand offsets at found w long wrote)
          ∙ trimmed_value offsets (part at shape.bytes now.bytes) low place under
          ∙ (λ i. corner_value k.fixed k.fill k.chunk (slices_kept sizes k.chunk (sym same i)) (part (sym one i) shape.bytes now.bytes) place)

      -- and another
      there_still : (o : List ℕ) (a place : ℕ) → (o ≡ offsets → ⊥) → get (chunks_told start.bytes shape root) o ≡ Some a
          → value_there new a place ≡ value_there now a place
      there_still o a place differ there =
          ap (λ (bs : List ℕ). value_in k.fixed bs place) (written_others now new shape root so.stand offsets at found w long wrote o a (found_now o a there) differ)

      filled_now : (o : List ℕ) (a place : ℕ) → In o (done ++ offsets ∷ []) → get (chunks_told start.bytes shape root) o ≡ Some a → place < cells k.chunk
          → IsWithin o place false → value_there new a place ≡ k.fill
      filled_now o a place of there under out = elim (same_name_or_other o offsets) [
        | inl same ↦ here o a place same there under ∙ ap (λ b. cond b (value_there now a place) k.fill) out
        | inr differ ↦ there_still o a place differ there ∙ elim (in_either o done (offsets ∷ []) of) [
          | inl before ↦ so.filled o a place before there under out
          | inr (inl same) ↦ absurd (differ (sym same))
          | inr (inr never) ↦ absurd never
        ]
      ]

      pub one_trimmed : AreTrimmedSo k sizes root start new (done ++ offsets ∷ [])
      one_trimmed = record {
        told = written_chunks now new shape root so.stand offsets at found w long wrote ∙ so.told;
        stand = written_apart now new shape root so.stand offsets at found w long wrote;
        moves = moves_then start now new (chunk_blocks_told start.bytes shape root) (chunk_blocks_told now.bytes shape root)
            (chunk_blocks_told new.bytes shape root) so.moves
            (written_moves now new shape root so.stand offsets at found w long wrote);
        spent = spends_then start now new 0 0 0 0 so.spent (spends_write now new w at room wrote);
        inside = λ o a place there under within.
            (elim (same_name_or_other o offsets) [
              | inl same ↦ here o a place same there under ∙ ap (λ b. cond b (value_there now a place) k.fill) within
              | inr differ ↦ there_still o a place differ there
            ]) ∙ so.inside o a place there under within;
        filled = filled_now;
      }

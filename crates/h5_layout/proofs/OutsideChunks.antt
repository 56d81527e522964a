-- The chunks that an array stores outside an extent, and at its edge, as they are listed.
use Rattle.std.proofs.Common.{◌≡◌, ℕ, ◌*◌, ◌^◌, ◌<◌, ◌≤◌, ℤ, List, [], length, map, false, true, Bool, Option, None, Some, refl, sym, ap, ◌∙◌, subst, arith}
use Rattle.std.specs.Prelude.{nat_lt, not}
use Rattle.std.specs.FinMap.{empty, entries, retain_keys}
use Rattle.std.specs.List.{AllByRecursion, filter}
use Rattle.std.proofs.lemmas.Bool.Decides.{nat_tests}
use Rattle.h5_model.specs.Format.Chunks.{Chunks}
use Rattle.h5_model.specs.Format.Fixed.{Fixed, IsFixed, fits}
use Rattle.h5_model.specs.Edits.Refusal.{is_chunked}
use Rattle.h5_model.specs.Format.Layout.{InBlock, InChunks, InMessage, Layout}
use Rattle.h5_model.specs.Format.Described.{storage_of, Described}
use Rattle.h5_model.specs.Format.Limits.{most_chunk_bytes}
use Rattle.h5_model.specs.Tree.Places.{cells, is_inside}
use Rattle.h5_chunks.specs.Lists.{ChunkOffsets, offsets_across, offsets_outside, reaches_beyond}
use Rattle.h5_chunks.specs.Shapes.{AreChunkSizes}
use Rattle.h5_chunks.specs.Told.{chunks_told}
use Rattle.h5_layout.specs.ArrayChunks.{ArrayChunks, AreSoundChunks, IsChunked, IsInChunksOf}
use Rattle.h5_layout.specs.Data.{chunk_shape, stored_chunks}
use Rattle.h5_layout.specs.Judged.{is_chunk_large}
use Rattle.h5_layout.specs.Trimmed.{chunk_list}
use Rattle.h5_layout.proofs.KeptValues.{layout_parts}
use Rattle.h5_layout.proofs.NoChunks.{none_kept}
use Rattle.h5_layout.proofs.TrimmedArray.{stored_by}

-- an array whose dataset is in chunks
pub chunked_is : (sizes : List ℕ) (l : Layout) → is_chunked (storage_of sizes l) ≡ true → IsChunked l
chunked_is sizes (InMessage bytes) is = absurd (cc)
chunked_is sizes (InBlock b) is = absurd (cc)
chunked_is sizes (InChunks chunk root) is = (chunk, root, refl)

-- the chunks of an array are sound
pub sound_chunks : (t : Fixed) (fill : ℤ) (chunk lent : List ℕ) (root : Option ℕ) → lent ≡ chunk → AreChunkSizes chunk → AllByRecursion (λ n. n < 2 ^ 32) chunk → IsFixed t → fits t fill ≡ true
    → is_chunk_large t (InChunks chunk root) ≡ false → AreSoundChunks (record { fixed = t; fill = fill; chunk = lent; root = root })
sound_chunks t fill chunk lent root same sizes short sound of_type small =
    subst (λ (xs : List ℕ). AreSoundChunks (record { fixed = t; fill = fill; chunk = xs; root = root })) (sym same)
    (record { sizes = sizes; short = short; small = few (cells chunk * t.size) small; sound = sound; of_type = of_type }) where
      few : (n : ℕ) → nat_lt most_chunk_bytes n ≡ false → n ≤ most_chunk_bytes
      few n not_large = grind (arith, nat_tests)

-- ---- as lists of chunks

module _ (a : Described) (k : ArrayChunks) (of : IsInChunksOf a k) where
  listed : (chunk : List ℕ) (root : Option ℕ) → a.layout ≡ InChunks chunk root → (offsets : List (List ℕ))
      → record { rank = length k.chunk; bytes = (chunk_shape k.fixed k.chunk).bytes; offsets = offsets } ≡ chunk_list a chunk offsets
  listed chunk root laid offsets =
      let same = layout_parts k.chunk chunk k.root root (sym of.layout ∙ laid) in
      λ i. record { rank = length (same.0 i); bytes = cells (same.0 i) * (of.fixed i).size; offsets = offsets }

  module _ (image sizes chunk : List ℕ) (root : Option ℕ) (laid : a.layout ≡ InChunks chunk root) where
    abbrev stored : Chunks
    stored = stored_chunks image a.fixed a.layout

    pub lost_are : (at : ℕ) → k.root ≡ Some at → (list : ChunkOffsets)
        → list ≡ record {
          rank = length k.chunk;
          bytes = (chunk_shape k.fixed k.chunk).bytes;
          offsets = offsets_outside sizes (chunks_told image (chunk_shape k.fixed k.chunk) at);
        } → list ≡ chunk_list a chunk (offsets_outside sizes stored)
    lost_are at rooted list is =
        is ∙ listed chunk root laid (offsets_outside sizes (chunks_told image (chunk_shape k.fixed k.chunk) at))
        ∙ ap (λ (c : Chunks). chunk_list a chunk (offsets_outside sizes c)) (sym (stored_by a k of at rooted image))

    pub edges_are : (at : ℕ) → k.root ≡ Some at → (list : ChunkOffsets)
        → list ≡ record {
          rank = length k.chunk;
          bytes = (chunk_shape k.fixed k.chunk).bytes;
          offsets = offsets_across sizes k.chunk (chunks_told image (chunk_shape k.fixed k.chunk) at);
        } → list ≡ chunk_list a chunk (offsets_across sizes chunk stored)
    edges_are at rooted list is =
        let same = layout_parts k.chunk chunk k.root root (sym of.layout ∙ laid) in
        is ∙ listed chunk root laid (offsets_across sizes k.chunk (chunks_told image (chunk_shape k.fixed k.chunk) at))
        ∙ (λ i. chunk_list a chunk (offsets_across sizes (same.0 i) (sym (stored_by a k of at rooted image) i)))

    module _ (rootless : k.root ≡ None) (list : ChunkOffsets)
        (is : list ≡ record { rank = length k.chunk; bytes = (chunk_shape k.fixed k.chunk).bytes; offsets = [] }) where
      none_stored : stored ≡ empty
      none_stored = (λ i. stored_chunks image (sym of.fixed i) (of.layout i)) ∙ ap (λ (r : Option ℕ). stored_chunks image k.fixed (InChunks k.chunk r)) rootless

      none_at : (test : List ℕ → Bool) → entries (retain_keys stored test) ≡ []
      none_at test = ap (λ (c : Chunks). entries (retain_keys c test)) none_stored ∙ none_kept test

      pub none_lost : list ≡ chunk_list a chunk (offsets_outside sizes stored)
      none_lost =
          is ∙ listed chunk root laid []
          ∙ ap (λ (es : List (List ℕ × ℕ)). chunk_list a chunk (map (λ (e : List ℕ × ℕ). e.0) es)) (sym (none_at (λ offsets. not (is_inside sizes offsets))))

      pub none_across : list ≡ chunk_list a chunk (offsets_across sizes chunk stored)
      none_across =
          is ∙ listed chunk root laid []
          ∙ ap (λ (es : List (List ℕ × ℕ)). chunk_list a chunk (filter (reaches_beyond sizes chunk) (map (λ (e : List ℕ × ℕ). e.0) es))) (sym (none_at (is_inside sizes)))

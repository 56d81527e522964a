-- The header of an array in the plain layout, with its data where they are stored, reads as that array (File Format Specification 3.0,
-- sections IV.A.1.a and IV.A.2.i).
use Rattle.std.proofs.Common.{◌≡◌, ℕ, ◌+◌, ◌^◌, ◌<◌, ◌≤◌, List, [], ◌∷◌, length, refl, arith, true, false, Option, Some, None}
use Rattle.std.specs.Prelude.{if◌then◌else◌}
use Rattle.h5_bytes.specs.Bytes.{part}
use Rattle.h5_model.specs.Format.Sizes.{header_size}
use Rattle.h5_model.specs.Format.Superblock.{chunk_k, highest_k}
use Rattle.h5_model.specs.Tree.Objects.{Dataset, Storage, Compact, Contiguous, Chunked}
use Rattle.h5_repack.specs.Bodies.Bodies.{others_of}
use Rattle.h5_repack.specs.Bodies.Laws.{ArrayReads}
use Rattle.h5_repack.specs.Bodies.Headers.{AreStoredFor, IsLowStorage, is_stored, data_of}
use Rattle.h5_repack.specs.Bodies.Sound.{IsPlainArray}
use Rattle.h5_repack.proofs.BodyLaws.HeaderArray.{IsLaid, compact_laid, block_laid, nowhere_laid, chunks_laid, laid_reads}
use Rattle.h5_repack.proofs.BodyLaws.HeaderLengths.{head_of, array_length}
use Rattle.h5_repack.proofs.ChunkLaws.ChunkedArray.{stored_laid}
use Rattle.h5_repack.proofs.ChunkLaws.HeldChunks.{none_unset}

-- where its data stand, by how it is stored
laid_by : (image : List ℕ) (place others k : ℕ) (d : Dataset) (s : Storage) (stored : List (List ℕ)) → IsPlainArray (record d { storage = s }) others
    → AreStoredFor stored (record d { storage = s }) → chunk_k image ≡ k → 1 ≤ k → k ≤ highest_k → IsLowStorage k (length stored) s → place + length (data_of k stored (record d { storage = s }) place) < 2 ^ 63
    → part place (length (data_of k stored (record d { storage = s }) place)) image ≡ data_of k stored (record d { storage = s }) place
    → IsLaid image place (place + length (data_of k stored (record d { storage = s }) place)) (if is_stored stored s then Some place else None) (record d { storage = s })
laid_by image place others k d Compact stored is are k_is some_k few_k low_tree room there =
    compact_laid image place d.fixed d.sizes d.maxima d.fill d.cells is.fixed (is.sound).values (is.sound).counted is.few is.stored
laid_by image place others k d (Contiguous true) stored is are k_is some_k few_k low_tree room there =
    block_laid image place d.fixed d.sizes d.maxima d.fill d.cells is.fixed (is.sound).values (is.sound).counted is.few (omega (arith, room)) is.stored there
laid_by image place others k d (Contiguous false) stored is are k_is some_k few_k low_tree room there =
    nowhere_laid image place d.fixed d.sizes d.maxima d.fill d.cells is.fixed (is.sound).values (is.sound).counted is.few is.stored
laid_by image place others k d (Chunked chunk) [] is are k_is some_k few_k low_tree room there =
    chunks_laid image place d.fixed d.sizes d.maxima d.fill d.cells is.fixed (is.sound).values (is.sound).counted is.few chunk ((is.sound).boxed chunk refl) is.ranked is.stored
    (none_unset (record d { storage = Chunked chunk }) chunk (is.sound).counted are)
laid_by image place others k d (Chunked chunk) (first ∷ behind) is are k_is some_k few_k low_tree room there =
    stored_laid (record d { storage = Chunked chunk }) chunk refl is.fixed is.sound is.stored k some_k first behind are place image k_is few_k low_tree is.ranked room there

-- An array's header with any count, with its data where they are stored, is that of the array, and has that count.
pub array_reads : ArrayReads
array_reads image table at place count k p d stored plain e is are most few_links short k_is some_k few_k low_tree room stands_at stands =
    let address : Option ℕ = if is_stored stored d.storage then Some place else None in
    let laid : IsLaid image place (place + length (data_of k stored d place)) address d = laid_by image place (length (others_of p)) k d d.storage stored is are k_is some_k few_k low_tree room stands in
    laid_reads image table at place (place + length (data_of k stored d place)) count (header_size p) p plain d (head_of d (length (others_of p)) is) address laid most few_links short
    e (array_length count address p d plain e is) stands_at

-- The stored chunks of an array, however it is stored: any list where none of its cells is in a chunk; and of an array that is read and has
-- new sizes then, those of the image that hold a cell of its extent (File Format Specification 3.0, sections III.A.1 and IV.A.2.i).
use Rattle.std.proofs.Common.{◌≡◌, ℕ, ◌*◌, List, [], length, refl, sym, ap, ◌∙◌, subst, false, true, Option, Some, None}
use Rattle.std.specs.Ordering.{nat_cmp}
use Rattle.std.specs.Cmp.Lexicographic.{slice_cmp}
use Rattle.std.specs.FinMap.{entries}
use Rattle.h5_bytes.specs.declared.Block.{Block}
use Rattle.h5_model.proofs.MapSteps.{entries-empty}
use Rattle.h5_model.specs.Edits.Applied.{with_sizes}
use Rattle.h5_model.specs.Edits.Refusal.{is_chunked}
use Rattle.h5_model.specs.Format.Cells.{cells_of}
use Rattle.h5_model.specs.Format.Chunks.{Chunks}
use Rattle.h5_model.specs.Format.Layout.{Layout, InMessage, InBlock, InChunks}
use Rattle.h5_model.specs.Format.Reads.{HasData}
use Rattle.h5_model.specs.Format.Described.{storage_of}
use Rattle.h5_model.specs.Format.Superblock.{chunk_k}
use Rattle.h5_model.specs.Tree.Objects.{Dataset, Storage, Compact, Contiguous, Chunked}
use Rattle.h5_model.specs.Tree.Places.{cells}
use Rattle.h5_laws.proofs.Lists.{In}
use Rattle.h5_layout.specs.HeldChunks.{AreStoredChunks, held_chunks}
use Rattle.h5_repack.specs.Bodies.Headers.{AreStoredFor}
use Rattle.h5_repack.proofs.ChunkLaws.HeldChunks.{AreAligned, IsFillUnstored, aligned_stored, read_aligned, resized_fill, unread_fill}

-- ---- by how it is stored

stored_by : (stored : List (List ℕ)) (d : Dataset) (s : Storage) → ((chunk : List ℕ) → s ≡ Chunked chunk → AreStoredChunks (record d { storage = s }) chunk stored)
    → AreStoredFor stored (record d { storage = s })
stored_by stored d Compact each = tt
stored_by stored d (Contiguous held) each = tt
stored_by stored d (Chunked chunk) each = each chunk refl

-- what is shown of cells in chunks is enough
pub stored_for : (stored : List (List ℕ)) (d : Dataset) → ((chunk : List ℕ) → d.storage ≡ Chunked chunk → AreStoredChunks d chunk stored) → AreStoredFor stored d
stored_for stored d each = stored_by stored d d.storage each

-- an array of which no cell is in a chunk
pub unchunked_stored : (stored : List (List ℕ)) (d : Dataset) → is_chunked d.storage ≡ false → AreStoredFor stored d
unchunked_stored stored d other = stored_for stored d (λ chunk e. absurd (let both : true ≡ false = sym (ap is_chunked e) ∙ other in cc))

-- ---- an array that is read

no_entry : (chunk : List ℕ) (chunks : Chunks) → entries chunks ≡ [] → AreAligned chunk chunks
no_entry chunk chunks none offsets n there = absurd (subst (In (offsets, n)) none there)

module _ (image : List ℕ) (d : Dataset) (layout : Layout) (chunks : Chunks) (blocks : List Block) (storage : d.storage ≡ storage_of d.sizes layout)
    (has : HasData image d.fixed layout chunks blocks) (cells_are : d.cells ≡ cells_of image d.fixed d.fill d.sizes layout chunks) where
  -- its chunks are whole, and where none is stored the cells are the fill
  chunked_by : (l : Layout) (chunk : List ℕ) → layout ≡ l → storage_of d.sizes l ≡ Chunked chunk → AreAligned chunk chunks × IsFillUnstored d chunk chunks
  chunked_by (InMessage bytes) chunk is e = absurd (cc)
  chunked_by (InBlock b) chunk is e = absurd (cc)
  chunked_by (InChunks sizes root) chunk is e =
      let same : sizes ≡ chunk = cc in
      subst (λ (c : List ℕ). AreAligned c chunks × IsFillUnstored d c chunks) same (
        aligned_by root (subst (λ (l : Layout). HasData image d.fixed l chunks blocks) is has),
        unread_fill image d sizes root chunks (cells_are ∙ ap (λ (l : Layout). cells_of image d.fixed d.fill d.sizes l chunks) is),
      ) where
        aligned_by : (root : Option ℕ) → HasData image d.fixed (InChunks sizes root) chunks blocks → AreAligned sizes chunks
        aligned_by None there = no_entry sizes chunks (ap entries there.0 ∙ entries-empty (slice_cmp nat_cmp))
        aligned_by (Some root) there = read_aligned image (chunk_k image) sizes (cells sizes * (d.fixed).size) root chunks blocks there

  chunked_so : (chunk : List ℕ) → d.storage ≡ Chunked chunk → AreAligned chunk chunks × IsFillUnstored d chunk chunks
  chunked_so chunk e = chunked_by layout chunk refl (sym storage ∙ e)

  module _ (boxed : (chunk : List ℕ) → d.storage ≡ Chunked chunk → length chunk ≡ length d.sizes) where
    -- the chunks of the image that hold a cell of the extent of these sizes, where the array then has them
    pub resized_for : (sizes : List ℕ) → length sizes ≡ length d.sizes → AreStoredFor (held_chunks sizes chunks) (with_sizes sizes d)
    resized_for sizes ranked = stored_for (held_chunks sizes chunks) (with_sizes sizes d)
        (λ chunk e. let own = chunked_so chunk e in
        aligned_stored (with_sizes sizes d) chunk chunks own.0 (boxed chunk e ∙ sym ranked) (resized_fill sizes d chunk chunks own.1))

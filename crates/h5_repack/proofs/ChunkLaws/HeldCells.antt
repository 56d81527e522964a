-- The chunks of an array that are handed on are its stored chunks, once it has the sizes that it is to have (File Format Specification
-- 3.0, section III.A.1).
use Rattle.std.proofs.Common.{◌≡◌, ℕ, ℤ, List, [], ◌∷◌, length, map, refl, sym, ap, subst}
use Rattle.h5_bytes.specs.declared.Block.{Block}
use Rattle.h5_model.specs.Edits.Applied.{with_sizes}
use Rattle.h5_model.specs.Format.Reads.{HasData}
use Rattle.h5_model.specs.Format.Described.{storage_of, Described}
use Rattle.h5_model.specs.Tree.Objects.{Dataset, Chunked}
use Rattle.h5_layout.specs.Data.{dataset_told, stored_chunks}
use Rattle.h5_layout.specs.HeldChunks.{chunk_values, held_cells, held_chunks}
pub use Rattle.h5_layout.proofs.HeldParts.{resized_own}
use Rattle.h5_repack.specs.Bodies.Headers.{AreStoredFor}
use Rattle.h5_repack.specs.Blocks.Written.{AreHeldOf}
use Rattle.h5_repack.proofs.ChunkLaws.StoredFor.{resized_for}

offsets_alone : (f : List ℕ → List ℤ) (all : List (List ℕ)) → map (λ (p : List ℕ × List ℤ). p.0) (map (λ (offsets : List ℕ). (offsets, f offsets)) all) ≡ all
offsets_alone f [] = refl
offsets_alone f (offsets ∷ others) = ap (λ (rest : List (List ℕ)). offsets ∷ rest) (offsets_alone f others)

module _ (image : List ℕ) (a : Described) (chunk sizes : List ℕ) where
  abbrev array : Dataset
  array = with_sizes sizes (dataset_told image a)

  pub held_offsets : map (λ p. p.0) (held_cells image a chunk sizes).parts ≡ held_chunks sizes (stored_chunks image a.fixed a.layout)
  held_offsets = offsets_alone (chunk_values array chunk) (held_chunks sizes (stored_chunks image a.fixed a.layout))

  -- they have the cells of the array
  pub held_cells_are : storage_of a.sizes a.layout ≡ Chunked chunk → AreHeldOf (held_cells image a chunk sizes) array
  held_cells_are e = record {
    fixed_is = refl;
    storage_is = e;
    parts_are = ap (map (λ (offsets : List ℕ). (offsets, chunk_values array chunk offsets))) (sym held_offsets);
  }

  -- and each of its other cells is the fill
  pub held_cells_stored : (blocks : List Block) → HasData image a.fixed a.layout (stored_chunks image a.fixed a.layout) blocks
      → ((chunk : List ℕ) → storage_of a.sizes a.layout ≡ Chunked chunk → length chunk ≡ length a.sizes) → length sizes ≡ length a.sizes
      → AreStoredFor (map (λ p. p.0) (held_cells image a chunk sizes).parts) array
  held_cells_stored blocks has boxed ranked = subst (λ (stored : List (List ℕ)). AreStoredFor stored array) (sym held_offsets)
      (resized_for image (dataset_told image a) a.layout (stored_chunks image a.fixed a.layout) blocks refl has refl boxed sizes ranked)

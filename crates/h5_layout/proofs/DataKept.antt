-- The data of an array stay where the bytes of their blocks do, and K of the nodes of chunk trees.
use Rattle.std.proofs.Common.{◌≡◌, ℕ, ◌+◌, ◌≤◌, List, length, refl, ap, ◌∙◌, arith, Some, None}
use Rattle.h5_bytes.specs.Blocks.{Inside, Keeps}
use Rattle.h5_bytes.specs.declared.Block.{Block}
use Rattle.h5_bytes.proofs.BlockLaws.{all_so}
use Rattle.h5_model.specs.Format.Cells.{cell_of}
use Rattle.h5_model.specs.Format.Chunks.{Chunks}
use Rattle.h5_model.specs.Format.Fixed.{Fixed}
use Rattle.h5_model.specs.Format.Layout.{Layout, InMessage, InBlock, InChunks}
use Rattle.h5_model.specs.Format.Reads.{HasData}
use Rattle.h5_model.specs.Format.Superblock.{chunk_k}
use Rattle.h5_model.specs.Format.Described.{Described}
use Rattle.h5_model.proofs.Frames.{cell-same}
use Rattle.h5_chunks.proofs.ToldLaws.{chunks_told-same, chunk_blocks_told-same, chunks_read-same}
use Rattle.h5_layout.specs.Data.{AreDataRead, chunk_shape, data_blocks, stored_chunks}
use Rattle.h5_layout.specs.Trimmed.{grid_cell}

module _ (image : List ℕ) (t : Fixed) where
  pub data_inside : (layout : Layout) → AreDataRead image t layout → Inside (length image) (data_blocks image t layout)
  data_inside (InMessage bytes) read = tt
  data_inside (InBlock None) read = tt
  data_inside (InBlock (Some b)) read = (read, tt)
  data_inside (InChunks sizes None) read = tt
  data_inside (InChunks sizes (Some root)) read = read.inside

  pub data_there : (layout : Layout) → AreDataRead image t layout → HasData image t layout (stored_chunks image t layout) (data_blocks image t layout)
  data_there (InMessage bytes) read = (refl, refl)
  data_there (InBlock None) read = (refl, refl)
  data_there (InBlock (Some b)) read = (refl, refl)
  data_there (InChunks sizes None) read = (refl, refl)
  data_there (InChunks sizes (Some root)) read = read.stored

module _ (old new : List ℕ) (grown : length old ≤ length new) (k : chunk_k new ≡ chunk_k old) (t : Fixed) where
  pub data_blocks-same : (layout : Layout) → AreDataRead old t layout → Keeps old new (data_blocks old t layout) → data_blocks new t layout ≡ data_blocks old t layout
  data_blocks-same (InMessage bytes) read kept = refl
  data_blocks-same (InBlock None) read kept = refl
  data_blocks-same (InBlock (Some b)) read kept = refl
  data_blocks-same (InChunks sizes None) read kept = refl
  data_blocks-same (InChunks sizes (Some root)) read kept = chunk_blocks_told-same old new (chunk_shape t sizes) root read k kept

  pub stored_chunks-same : (layout : Layout) → AreDataRead old t layout → Keeps old new (data_blocks old t layout)
      → stored_chunks new t layout ≡ stored_chunks old t layout
  stored_chunks-same (InMessage bytes) read kept = refl
  stored_chunks-same (InBlock None) read kept = refl
  stored_chunks-same (InBlock (Some b)) read kept = refl
  stored_chunks-same (InChunks sizes None) read kept = refl
  stored_chunks-same (InChunks sizes (Some root)) read kept = chunks_told-same old new (chunk_shape t sizes) root read k kept

  pub data_read-same : (layout : Layout) → AreDataRead old t layout → Keeps old new (data_blocks old t layout) → AreDataRead new t layout
  data_read-same (InMessage bytes) read kept = tt
  data_read-same (InBlock None) read kept = tt
  data_read-same (InBlock (Some b)) read kept = omega (arith, read, grown)
  data_read-same (InChunks sizes None) read kept = tt
  data_read-same (InChunks sizes (Some root)) read kept =
      chunks_read-same old new (chunk_shape t sizes) root read k kept
      (all_so (λ (b : Block). b.at + b.len ≤ length old) (λ (b : Block). b.at + b.len ≤ length new) (data_blocks old t (InChunks sizes (Some root)))
      (λ b low. omega (arith, low, grown)) read.inside)

-- and so does each cell of their grid
pub grid_cell-same : (old new : List ℕ) → length old ≤ length new → chunk_k new ≡ chunk_k old → (a : Described) → AreDataRead old a.fixed a.layout → Keeps old new (data_blocks old a.fixed a.layout)
    → (index : List ℕ) → grid_cell new a index ≡ grid_cell old a index
grid_cell-same old new grown k a read kept index =
    ap (λ (chunks : Chunks). cell_of new a.fixed a.fill a.sizes a.layout chunks index) (stored_chunks-same old new grown k a.fixed a.layout read kept)
    ∙ cell-same old new a.fixed a.fill a.sizes a.layout (stored_chunks old a.fixed a.layout) (data_blocks old a.fixed a.layout) kept
    (data_there old a.fixed a.layout read) index

-- The data of an array: they are those that the image tells, and stay where the bytes of their blocks do.
use Rattle.std.proofs.Common.{◌≡◌, ◌∙◌, ℕ, ◌≤◌, ℤ, List, length, ap, Some, None}
use Rattle.h5_bytes.specs.Blocks.{Keeps}
use Rattle.h5_bytes.specs.declared.Block.{Block}
use Rattle.h5_model.specs.Format.Cells.{cells_of}
use Rattle.h5_model.specs.Format.Chunks.{Chunks}
use Rattle.h5_model.specs.Format.Fixed.{Fixed}
use Rattle.h5_model.specs.Format.Layout.{Layout, InMessage, InBlock, InChunks}
use Rattle.h5_model.specs.Format.Reads.{HasData}
use Rattle.h5_model.specs.Format.Superblock.{chunk_k}
use Rattle.h5_model.specs.Format.Described.{Described, described_dataset}
use Rattle.h5_model.proofs.Frames.{cells-same}
use Rattle.h5_chunks.proofs.ToldLaws.{chunks_are_told, blocks_are_told}
use Rattle.h5_layout.specs.Data.{AreDataRead, chunk_shape, data_blocks, dataset_told, stored_chunks}
pub use Rattle.h5_layout.proofs.DataKept.{data_inside, data_there, data_blocks-same, stored_chunks-same, data_read-same}

-- whatever data stand there
module _ (image : List ℕ) (t : Fixed) where
  pub told_chunks : (layout : Layout) (chunks : Chunks) (blocks : List Block) → HasData image t layout chunks blocks → chunks ≡ stored_chunks image t layout
  told_chunks (InMessage bytes) chunks blocks stored = stored.0
  told_chunks (InBlock None) chunks blocks stored = stored.0
  told_chunks (InBlock (Some b)) chunks blocks stored = stored.0
  told_chunks (InChunks sizes None) chunks blocks stored = stored.0
  told_chunks (InChunks sizes (Some root)) chunks blocks stored = chunks_are_told image (chunk_shape t sizes) root chunks blocks stored

  pub told_blocks : (layout : Layout) (chunks : Chunks) (blocks : List Block) → HasData image t layout chunks blocks → blocks ≡ data_blocks image t layout
  told_blocks (InMessage bytes) chunks blocks stored = stored.1
  told_blocks (InBlock None) chunks blocks stored = stored.1
  told_blocks (InBlock (Some b)) chunks blocks stored = stored.1
  told_blocks (InChunks sizes None) chunks blocks stored = stored.1
  told_blocks (InChunks sizes (Some root)) chunks blocks stored = blocks_are_told image (chunk_shape t sizes) root chunks blocks stored

-- so each cell stays
pub dataset_told-same : (old new : List ℕ) → length old ≤ length new → chunk_k new ≡ chunk_k old → (a : Described) → AreDataRead old a.fixed a.layout → Keeps old new (data_blocks old a.fixed a.layout)
    → dataset_told new a ≡ dataset_told old a
dataset_told-same old new grown k a read kept =
    let before = stored_chunks old a.fixed a.layout in
    let cells_are : cells_of new a.fixed a.fill a.sizes a.layout before ≡ cells_of old a.fixed a.fill a.sizes a.layout before
    = cells-same old new a.fixed a.fill a.sizes a.layout before (data_blocks old a.fixed a.layout) kept (data_there old a.fixed a.layout read) in
    ap (described_dataset new a) (stored_chunks-same old new grown k a.fixed a.layout read kept) ∙ ap (λ (cs : List ℤ). record (described_dataset old a before) { cells = cs }) cells_are

-- Which chunks are stored of the array whose object header stands at an address (File Format Specification 3.0, sections III.A.1, IV.A.1.a
-- and IV.A.2.i).
use Rattle.std.specs.Prelude.{◌≡◌, ℕ, List}
use Rattle.h5_bytes.specs.declared.Block.{Block}
use Rattle.h5_model.specs.Format.Chunks.{Chunks}
use Rattle.h5_model.specs.Format.Messages.{Message, HasMessages}
use Rattle.h5_model.specs.Format.Reads.{HasDataset}
use Rattle.h5_model.specs.Tree.Objects.{Dataset}

-- the header of an array stands there, and these chunks of it are stored
pub record HasStoredChunks (image : List ℕ) (header : ℕ) (chunks : Chunks) : Type 0 where
  pub messages : List Message
  pub header_blocks : List Block
  pub listed : HasMessages image header messages header_blocks
  pub dataset : Dataset
  pub data_blocks : List Block
  pub array : HasDataset image messages dataset data_blocks
  pub chunks_are : array.chunks ≡ chunks

-- The data of an array where they stand in an image: its stored chunks, and its blocks (File Format Specification 3.0, sections
-- III.A.1 and IV.A.2.i).
use Rattle.std.specs.Prelude.{◌≡◌, ℕ, ◌+◌, ◌*◌, ◌≤◌, true, Some, None, List, [], ◌∷◌, length}
use Rattle.std.specs.FinMap.{empty}
use Rattle.h5_model.specs.Format.Limits.{most_cells}
use Rattle.h5_bytes.specs.declared.Block.{Block}
use Rattle.h5_model.specs.Format.Chunks.{Chunks}
use Rattle.h5_model.specs.Format.Fixed.{Fixed, IsFixed, fits}
use Rattle.h5_model.specs.Format.Layout.{Layout, InMessage, InBlock, InChunks}
use Rattle.h5_model.specs.Format.Reached.{Shape}
use Rattle.h5_model.specs.Format.Described.{Described, described_dataset}
use Rattle.h5_model.specs.Tree.Objects.{Dataset}
use Rattle.h5_model.specs.Tree.Places.{cells}
use Rattle.h5_chunks.specs.Read.{AreChunksRead}
use Rattle.h5_chunks.specs.Told.{chunks_told, chunk_blocks_told}

-- chunks of these sizes, of as many bytes as their cells take
abbrev pub chunk_shape : Fixed → List ℕ → Shape
chunk_shape t sizes = record { sizes = sizes; bytes = cells sizes * t.size }

-- the chunks that are stored, as the image tells them
abbrev pub stored_chunks : List ℕ → Fixed → Layout → Chunks
stored_chunks image t (InMessage bytes) = empty
stored_chunks image t (InBlock b) = empty
stored_chunks image t (InChunks sizes None) = empty
stored_chunks image t (InChunks sizes (Some root)) = chunks_told image (chunk_shape t sizes) root

-- the block of the data, or the blocks of a tree's nodes and of its chunks
abbrev pub data_blocks : List ℕ → Fixed → Layout → List Block
data_blocks image t (InMessage bytes) = []
data_blocks image t (InBlock None) = []
data_blocks image t (InBlock (Some b)) = b ∷ []
data_blocks image t (InChunks sizes None) = []
data_blocks image t (InChunks sizes (Some root)) = chunk_blocks_told image (chunk_shape t sizes) root

-- the data stand in the image: the block lies in it, the chunks are those that are told
abbrev pub AreDataRead : List ℕ → Fixed → Layout → Type 0
AreDataRead image t (InMessage bytes) = Unit {0}
AreDataRead image t (InBlock None) = Unit {0}
AreDataRead image t (InBlock (Some b)) = b.at + b.len ≤ length image
AreDataRead image t (InChunks sizes None) = Unit {0}
AreDataRead image t (InChunks sizes (Some root)) = AreChunksRead image (chunk_shape t sizes) root

-- the dataset with this description, whose stored chunks are those that the image tells
abbrev pub dataset_told : List ℕ → Described → Dataset
dataset_told image a = described_dataset image a (stored_chunks image a.fixed a.layout)

-- what every dataset that is read keeps to
pub record IsSoundDataset (d : Dataset) : Type 0 where
  pub fixed : IsFixed d.fixed
  pub fill : fits d.fixed d.fill ≡ true
  pub counted : length d.cells ≡ cells d.sizes
  pub few : cells d.sizes ≤ most_cells

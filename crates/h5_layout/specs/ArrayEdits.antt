-- An array edited where it stands: its header, and its data (File Format Specification 3.0, sections III.A.1 and IV.A.2).
use Rattle.std.specs.Prelude.{◌≡◌, ℕ, ◌≤◌, IsTrue, List, ◌∷◌, ◌++◌, length, map}
use Rattle.std.specs.List.{AllByRecursion, filter}
use Rattle.h5_bytes.specs.Blocks.{block}
use Rattle.h5_bytes.specs.declared.Block.{Block}
use Rattle.h5_model.specs.Format.Messages.{Message, prefix_at, reference_count}
use Rattle.h5_model.specs.Format.Reads.{is_attribute_message, is_kept, kept_of}
use Rattle.h5_model.specs.Format.Superblock.{chunk_k, k_values, superblock_length, highest_k}
use Rattle.h5_model.specs.Format.Described.{Described, HasArray}
use Rattle.h5_space.specs.Moves.{Moves}
use Rattle.h5_space.specs.Space.{Space}
use Rattle.h5_space.specs.Whole.{IsApart}
use Rattle.h5_header.specs.Heads.{is_read}
use Rattle.h5_header.specs.Kinds.{IsOfDataset}
use Rattle.h5_header.specs.Listed.{Listed, messages_in}
use Rattle.h5_header.specs.Standing.{IsStanding}
use Rattle.h5_layout.specs.Data.{AreDataRead, data_blocks}
use Rattle.h5_layout.specs.Told.{array_told, layout_told, type_told}

-- the array that a header with these messages tells, in an image
abbrev pub described_in : List ℕ → Listed → Described
described_in image m = array_told (messages_in image m.list)

-- the blocks of the header, and those of the data
abbrev pub array_blocks : List ℕ → Listed → List Block
array_blocks image m = m.blocks ++ data_blocks image (type_told (messages_in image m.list)) (layout_told (messages_in image m.list))

-- The header of an array stands in the image with these messages, and so do the array's data, on blocks that share no byte with each
-- other, with the superblock or with a free block. K of the nodes of chunk trees is one that an image may have.
pub record IsArrayApart (s : Space) (m : Listed) : Type 0 where
  pub standing : IsStanding s.bytes m
  pub kinds : IsOfDataset (messages_in s.bytes m.list)
  pub array : HasArray (messages_in s.bytes m.list) (described_in s.bytes m)
  pub read : AreDataRead s.bytes (type_told (messages_in s.bytes m.list)) (layout_told (messages_in s.bytes m.list))
  pub apart : IsApart (block 0 (superblock_length s.bytes) ∷ array_blocks s.bytes m) s.free (length s.bytes)
  pub long : superblock_length s.bytes ≤ length s.bytes
  pub k_some : 1 ≤ chunk_k s.bytes
  pub k_few : chunk_k s.bytes ≤ highest_k

-- what attributes and kept messages say is as before
pub record AreOthersKept (old new : List Message) : Type 0 where
  pub attributes : map (λ (m : Message). m.body) (filter is_attribute_message new) ≡ map (λ (m : Message). m.body) (filter is_attribute_message old)
  pub kept : map kept_of (filter is_kept new) ≡ map kept_of (filter is_kept old)

-- The array stands in the image still, with these messages now. Its blocks were moved, and no others, and all K values stay.
pub record IsArrayMoved (old new : Space) (m m' : Listed) : Type 0 where
  pub stand : IsArrayApart new m'
  pub header : m'.header ≡ m.header
  pub count : reference_count (prefix_at new.bytes m.header) ≡ reference_count (prefix_at old.bytes m.header)
  pub known : AllByRecursion (λ x. IsTrue (is_read x.kind)) m.list → AllByRecursion (λ x. IsTrue (is_read x.kind)) m'.list
  pub others : AreOthersKept (messages_in old.bytes m.list) (messages_in new.bytes m'.list)
  pub moves : Moves old new (array_blocks old.bytes m) (array_blocks new.bytes m')
  pub k : k_values new.bytes ≡ k_values old.bytes

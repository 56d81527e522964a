-- A tree for the chunks of an array that had none (File Format Specification 3.0, sections III.A.1 and IV.A.2.i).
use Rattle.std.specs.Prelude.{◌≡◌, ℕ, ◌<◌, Some, List, [], length, slice_index_or}
use Rattle.std.specs.FinMap.{empty, get}
use Rattle.h5_model.specs.Format.Layout.{InChunks}
use Rattle.h5_model.specs.Format.Reached.{Shape}
use Rattle.h5_space.specs.Space.{Space}
use Rattle.h5_header.specs.Listed.{Listed}
use Rattle.h5_chunks.specs.Told.{chunks_told}
use Rattle.h5_layout.specs.ArrayEdits.{IsArrayMoved, described_in}
use Rattle.h5_chunks.specs.Edited.{AreChunksApart}
use Rattle.h5_layout.specs.Filled.{HasFilledChunks}

-- The header of the array names the tree at this root, which has no chunk. All else that the header says of it is as before.
pub record IsTreeNamed (old new : Space) (m : Listed) (shape : Shape) (root : ℕ) : Type 0 where
  pub moved : IsArrayMoved old new m m
  pub told : described_in new.bytes m ≡ record (described_in old.bytes m) { layout = InChunks shape.sizes (Some root) }
  pub stand : AreChunksApart new shape root
  pub none : chunks_told new.bytes shape root ≡ empty

-- and chunks at these offsets were stored in it then, each with these bytes, the first, if there is one, at this address
pub record IsTreeMade (old new : Space) (m : Listed) (shape : Shape) (bytes : List ℕ) (more : List (List ℕ)) (at : ℕ) : Type 0 where
  pub named : Space
  pub root : ℕ
  pub tree : IsTreeNamed old named m shape root
  pub filled : HasFilledChunks named new shape root bytes more
  pub first : 0 < length more → get (chunks_told new.bytes shape root) (slice_index_or more 0 []) ≡ Some at

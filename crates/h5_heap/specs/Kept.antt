-- What is kept of a local heap (File Format Specification 3.0, section III.D).
use Rattle.std.specs.Prelude.{ℕ, List}
use Rattle.h5_bytes.specs.Bytes.{part}
use Rattle.h5_bytes.specs.declared.Block.{Block}

-- its address, its segment and free blocks, which bytes of the segment are held, and the offsets of the texts among these
pub record HeapState : Type 0 where
  pub at : ℕ
  pub segment : Block
  pub free : List Block
  pub held : List Block
  pub taken : List ℕ

-- the bytes of the segment
abbrev pub segment_in : List ℕ → HeapState → List ℕ
segment_in image heap = part heap.segment.at heap.segment.len image

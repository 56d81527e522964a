-- Why a local heap is refused, and at which address (File Format Specification 3.0, section III.D).
use Rattle.std.specs.Prelude.{◌≡◌, ℕ, ◌+◌, ◌<◌, ◌≤◌, ◌⊎◌, List, ◌∷◌, length}
use Rattle.h5_bytes.specs.Bytes.{byte_at, part}
use Rattle.h5_bytes.specs.Blocks.{block, holds, cover, Inside}
use Rattle.h5_bytes.specs.declared.Block.{Block}
use Rattle.h5_model.specs.Format.Heap.{heap_signature, heap_header, heap_blocks, segment_size, segment_block, segment_of, IsHeap}
use Rattle.h5_model.specs.declared.open_fault.Cause.{Cause}
use Rattle.h5_model.specs.declared.open_fault.Cause.TheVariants.{Truncated, Overlap, HeapForm, NoMemory}
use Rattle.h5_space.specs.Claimed.{Shares}

-- the header's own rules
pub record IsHeader (header : List ℕ) : Type 0 where
  pub signed : part 0 4 header ≡ heap_signature
  pub version : byte_at header 4 ≡ 0
  pub size : 8 ≤ segment_size header

-- a block can be claimed: it lies in the image, and shares no byte with what was claimed before
pub record CanBeClaimed (image : List ℕ) (held : List Block) (b : Block) : Type 0 where
  pub inside : b.at + b.len ≤ length image
  pub apart : (p : ℕ) → cover p held + holds p b.at b.len ≤ 1

-- the segment is looked at only now: the header can be claimed, and has its form
pub record IsSegmentNext (image : List ℕ) (heap : ℕ) (held : List Block) : Type 0 where
  pub header : CanBeClaimed image held (block heap 32)
  pub form : IsHeader (heap_header image heap)

-- the header passes the end; or the segment is next, and passes it
abbrev pub IsCut : List ℕ → ℕ → List Block → ℕ → Type 0
IsCut image heap held address = ((address ≡ heap) × (length image < heap + 32))
    ⊎ (IsSegmentNext image heap held × (address ≡ (segment_block image heap).at)
    × (length image < (segment_block image heap).at + (segment_block image heap).len))

-- the header lies in the image, and shares a byte with what was claimed before; or the segment is next, and shares one with that or
-- with the header
abbrev pub IsCrossed : List ℕ → ℕ → List Block → ℕ → Type 0
IsCrossed image heap held address = ((address ≡ heap) × (heap + 32 ≤ length image) × Shares held heap 32)
    ⊎ (IsSegmentNext image heap held × (address ≡ (segment_block image heap).at)
    × Shares (block heap 32 ∷ held) (segment_block image heap).at (segment_block image heap).len)

-- the header can be claimed, and is none; or so can the segment too, and its free list is none
abbrev pub IsMisformed : List ℕ → ℕ → List Block → ℕ → Type 0
IsMisformed image heap held address = (address ≡ heap) × CanBeClaimed image held (block heap 32)
    × (IsHeader (heap_header image heap) → CanBeClaimed image (block heap 32 ∷ held) (segment_block image heap))
    × ((free : List Block) → IsHeap (heap_header image heap) (segment_of image heap) free → ⊥)

-- The cause holds of the heap at this address, that of the header or of the segment, and it is the first one: of the header's place,
-- the header's form, the segment's place and the free list, all before it are right.
abbrev pub IsHeapRefused : List ℕ → ℕ → List Block → Cause → ℕ → Type 0
IsHeapRefused image heap held Truncated address = IsCut image heap held address
IsHeapRefused image heap held Overlap address = IsCrossed image heap held address
IsHeapRefused image heap held HeapForm address = IsMisformed image heap held address
IsHeapRefused image heap held NoMemory address = Unit {0}
IsHeapRefused image heap held _ address = ⊥

-- a heap stands there, in blocks that lie in the image and share no byte with each other or with what was claimed
pub record IsHeapReadable (image : List ℕ) (heap : ℕ) (held : List Block) : Type 0 where
  pub free : List Block
  pub has : IsHeap (heap_header image heap) (segment_of image heap) free
  pub inside : Inside (length image) (heap_blocks image heap)
  pub separate : (p : ℕ) → cover p held + cover p (heap_blocks image heap) ≤ 1

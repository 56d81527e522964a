-- A local heap that is edited in place (File Format Specification 3.0, section III.D).
use Rattle.std.specs.Prelude.{◌≡◌, ℕ, ◌==◌, if◌then◌else◌, List, length}
use Rattle.h5_bytes.specs.Bytes.{undefined_address}
use Rattle.h5_bytes.specs.Blocks.{Separate, Inside}
use Rattle.h5_bytes.specs.declared.Block.{Block}
use Rattle.h5_model.specs.Format.Heap.{IsHeap, heap_header, free_head, segment_of, heap_blocks}
use Rattle.h5_heap.specs.Chain.{free_from}
use Rattle.h5_heap.specs.Released.{Releases}

-- where the list of free blocks begins: UNDEF stands for its end
abbrev pub list_start : ℕ → ℕ
list_start head = if head == undefined_address then 1 else head

abbrev pub first_free : List ℕ → ℕ → ℕ
first_free image heap = list_start (free_head (heap_header image heap))

abbrev pub free_blocks : List ℕ → ℕ → List Block
free_blocks image heap = free_from (segment_of image heap) (first_free image heap)

-- a heap stands here, its header and its segment in the image and apart
pub record IsStandingHeap (image : List ℕ) (heap : ℕ) : Type 0 where
  pub inside : Inside (length image) (heap_blocks image heap)
  pub apart : Separate (heap_blocks image heap)
  pub form : IsHeap (heap_header image heap) (segment_of image heap) (free_blocks image heap)

-- it stands in the same blocks, and these bytes of its segment are free now; an empty list is told by 1
pub record HasReleased (old new : List ℕ) (heap at len : ℕ) : Type 0 where
  pub standing : IsStandingHeap new heap
  pub blocks : heap_blocks new heap ≡ heap_blocks old heap
  pub head : free_head (heap_header new heap) ≡ first_free new heap
  pub released : Releases (segment_of old heap) (segment_of new heap) (first_free old heap) (first_free new heap) at len

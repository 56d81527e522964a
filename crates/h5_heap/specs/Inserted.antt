-- A text that comes into a local heap in place (File Format Specification 3.0, section III.D).
use Rattle.std.specs.Prelude.{◌≡◌, ℕ, ◌+◌, ◌-◌, ◌*◌, ◌%◌, ◌≤◌, ◌<◌, ◌⊎◌, nat_lt, if◌then◌else◌, List, [], ◌∷◌, ◌++◌, Some, None, length}
use Rattle.std.specs.List.{find}
use Rattle.std.specs.Option.{option_map_or}
use Rattle.h5_bytes.specs.Bytes.{byte_at, part}
use Rattle.h5_bytes.specs.Texts.{pad8}
use Rattle.h5_bytes.specs.Blocks.{block, holds, cover}
use Rattle.h5_bytes.specs.declared.Block.{Block}
use Rattle.h5_model.specs.Format.Heap.{heap_header, free_head, segment_of, segment_block, heap_blocks}
use Rattle.h5_model.specs.Format.Plain.{padded_text}
use Rattle.h5_model.specs.Format.Sizes.{text_span}
use Rattle.h5_heap.specs.Chain.{HasChain, free_from, Ascends, IsPutIn}
use Rattle.h5_heap.specs.Edited.{IsStandingHeap, first_free, free_blocks}
use Rattle.h5_heap.specs.Sought.{is_enough}

-- what stays free of a block behind its first len bytes: nothing, where it is too little for a free block
abbrev pub rest_of : ℕ → Block → List Block
rest_of len b = if nat_lt (b.len - len) 16 then [] else block (b.at + len) (b.len - len) ∷ []

-- the first free block that is long enough begins here, and its first len bytes are free no more; what is left of it stands in its place
pub record IsFront (free free' : List Block) (at len : ℕ) : Type 0 where
  pub whole : Block
  pub front : List Block
  pub back : List Block
  pub first : find (is_enough len) free ≡ Some whole
  pub begins : whole.at ≡ at
  pub before : free ≡ front ++ whole ∷ back
  pub after : free' ≡ front ++ (rest_of len whole ++ back)

-- how long a segment of size bytes becomes, where none of its free blocks has len bytes
abbrev pub grown_length : ℕ → ℕ → ℕ → ℕ
grown_length size len room = 2 * size + len + room + 16

-- no free block is long enough; the len bytes are behind the old ones, and all behind them are one free block more
pub record IsBehind (free free' : List Block) (size size' at len room : ℕ) : Type 0 where
  pub none : find (is_enough len) free ≡ None
  pub long : size' ≡ grown_length size len room
  pub begins : at ≡ pad8 size
  pub rest : IsPutIn (block (at + len) (size' - (at + len))) free free'

-- The text stands at this offset, with its zero and its padding, in bytes that were free, or behind the old ones. Old bytes that were
-- in no free block have their values still.
pub record InsertsText (old new : List ℕ) (first first' : ℕ) (text : List ℕ) (room at : ℕ) : Type 0 where
  pub chain : HasChain new first'
  pub written : part at (text_span text) new ≡ padded_text text
  pub aligned : at % 8 ≡ 0
  pub within : at + text_span text ≤ length new
  pub placed : (IsFront (free_from old first) (free_from new first') at (text_span text) × (length new ≡ length old))
      ⊎ IsBehind (free_from old first) (free_from new first') (length old) (length new) at (text_span text) room
  pub covered : (p : ℕ) → cover p (free_from new first') + holds p at (text_span text)
      ≤ cover p (free_from old first) + holds p (length old) (length new - length old)
  pub ascending : Ascends (free_from old first) → Ascends (free_from new first')
  pub kept : (p : ℕ) → p < length old → cover p (free_from old first) ≡ 0 → byte_at new p ≡ byte_at old p

-- a heap stands here, with this text at this offset; an empty list is told by 1; its segment is where it was, if it is as long as it was
pub record HasInserted (old new : List ℕ) (heap : ℕ) (text : List ℕ) (room at : ℕ) : Type 0 where
  pub standing : IsStandingHeap new heap
  pub head : free_head (heap_header new heap) ≡ first_free new heap
  pub inserted : InsertsText (segment_of old heap) (segment_of new heap) (first_free old heap) (first_free new heap) text room at
  pub blocks : length (segment_of new heap) ≡ length (segment_of old heap) → heap_blocks new heap ≡ heap_blocks old heap

-- how many bytes more the image lends to a text of len bytes: a segment, where no free block is as long
abbrev pub needed_bytes : List ℕ → ℕ → ℕ → ℕ → ℕ
needed_bytes image heap len room =
    option_map_or (λ (b : Block). 0) (find (is_enough len) (free_blocks image heap)) (grown_length (segment_block image heap).len len room)

-- and in how many calls: the longer one is taken, and the old one given back
abbrev pub needed_calls : List ℕ → ℕ → ℕ → ℕ
needed_calls image heap len = option_map_or (λ (b : Block). 0) (find (is_enough len) (free_blocks image heap)) 2

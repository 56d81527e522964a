-- What an image is: its bytes, its free blocks, and the room that was reserved.
use Rattle.std.specs.Prelude.{ℕ, ◌+◌, ◌<◌, ◌≤◌, List, length, slice_index_or, if◌then◌else◌, nat_le}
use Rattle.std.specs.List.{find, list_any}
use Rattle.std.specs.Option.{option_map_or}
use Rattle.h5_bytes.specs.declared.Block.{Block}

pub record Space : Type 0 where
  pub bytes : List ℕ
  -- the free blocks of the image
  pub free : List Block
  -- how many bytes, and in how many calls, can be taken or given without memory
  pub room_bytes : ℕ
  pub room_blocks : ℕ

-- the blocks ascend with a gap between neighbours, none is empty, and each ends by `end`
pub record IsSpaced (free : List Block) (end : ℕ) : Type 0 where
  pub filled : (k : ℕ) (d : Block) → k < length free → 0 < (slice_index_or free k d).len
  pub inside : (k : ℕ) (d : Block) → k < length free → (slice_index_or free k d).at + (slice_index_or free k d).len ≤ end
  pub apart : (j k : ℕ) (d : Block) → j < k → k < length free
      → (slice_index_or free j d).at + (slice_index_or free j d).len < (slice_index_or free k d).at

-- by how much a take of len bytes raises the end: not at all where some free block is as long
abbrev pub growth : ℕ → List Block → ℕ
growth len free = if list_any (λ b. nat_le len b.len) free then 0 else len

-- where a block of len bytes stands that is taken next: at the beginning of the first free block that is as long, and else at the end
abbrev pub next_place : ℕ → Space → ℕ
next_place len s = option_map_or (λ b. b.at) (find (λ b. nat_le len b.len) s.free) (length s.bytes)

-- The room that was reserved is there.
use Rattle.std.specs.Prelude.{◌+◌, ◌≤◌, vec_len, vec_capacity}
use Rattle.h5_space.specs.Space.{IsSpaced}
use Rattle.h5_space.specs.declared.image.Image.TheInside.{Inside}

-- the free blocks are in order, and what was reserved fits without memory
pub record IsImage (s : Inside) : Type 0 where
  pub spaced : IsSpaced s.free.items (vec_len s.bytes)
  pub bytes_fit : vec_len s.bytes + s.room_bytes ≤ vec_capacity s.bytes
  pub blocks_fit : vec_len s.free + s.room_blocks ≤ vec_capacity s.free

-- The room that was reserved for messages is there.
use Rattle.std.specs.Prelude.{◌+◌, ◌*◌, ◌≤◌, length, vec_len, vec_capacity}
use Rattle.h5_header.specs.declared.header.Messages.TheInside.{Inside}

-- each message for which there is room may be two in the list, and bring a block
pub record IsRoomKept (s : Inside) : Type 0 where
  pub list_fits : vec_len s.list + 2 * s.room ≤ vec_capacity s.list
  pub blocks_fit : length s.blocks.items + s.room ≤ s.blocks.capacity

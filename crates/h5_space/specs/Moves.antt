-- What becomes of the blocks of a file (File Format Specification 3.0, section III): which of them are in use, which bytes may
-- have changed, and how much of the reserved room was used.
use Rattle.std.specs.Prelude.{◌≡◌, ℕ, ◌+◌, ◌-◌, ◌<◌, ◌≤◌, List, length}
use Rattle.h5_bytes.specs.Bytes.{byte_at}
use Rattle.h5_bytes.specs.Blocks.{holds, cover}
use Rattle.h5_bytes.specs.declared.Block.{Block}
use Rattle.h5_space.specs.Space.{Space}

-- the first blocks were in use and the second are now; all else that is in use stays as it was
pub record Moves (old new : Space) (before after : List Block) : Type 0 where
  -- the file has not become shorter
  pub grown : length old.bytes ≤ length new.bytes
  -- a byte that was neither in those blocks nor free has its value still
  pub kept : (p : ℕ) → p < length old.bytes → cover p before ≡ 0 → cover p old.free ≡ 0 → byte_at new.bytes p ≡ byte_at old.bytes p
  -- the bytes of the blocks that were in use, the free ones and the added ones are in use or free now, and no others
  pub moved : (p : ℕ) → cover p after + cover p new.free
      ≡ cover p before + cover p old.free + holds p (length old.bytes) (length new.bytes - length old.bytes)

-- so many bytes and so many calls of the reserved room were used at most, and the file has grown by no more
pub record Spends (old new : Space) (bytes blocks : ℕ) : Type 0 where
  pub grown : length new.bytes ≤ length old.bytes + bytes
  pub bytes_left : old.room_bytes ≤ new.room_bytes + bytes
  pub blocks_left : old.room_blocks ≤ new.room_blocks + blocks

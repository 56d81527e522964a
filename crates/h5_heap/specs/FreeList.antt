-- The list of free blocks in a heap's segment (File Format Specification 3.0, section III.D).
use Rattle.std.specs.Prelude.{◌≡◌, ℕ, ◌+◌, ◌≤◌, ◌⊎◌, List, [], length}
use Rattle.std.specs.List.{AllByRecursion}
use Rattle.h5_bytes.specs.Bytes.{number_at, undefined_address}
use Rattle.h5_bytes.specs.Blocks.{holds, cover, Separate, Inside}
use Rattle.h5_bytes.specs.declared.Block.{Block}
use Rattle.h5_model.specs.Format.Heap.{FreeFrom, IsFree}

-- these are the free blocks from the head of the list on
pub record IsFreeList (segment : List ℕ) (head : ℕ) (free : List Block) : Type 0 where
  pub listed : FreeFrom segment head free ⊎ ((head ≡ undefined_address) × (free ≡ []))
  pub each : AllByRecursion IsFree free
  pub apart : Separate free
  pub within : Inside (length segment) free

-- the block that the list has at this offset is free, and shares no byte with those before it
pub record IsNext (segment : List ℕ) (held : List Block) (offset : ℕ) (b : Block) : Type 0 where
  pub place : b.at ≡ offset
  pub size : b.len ≡ number_at segment (offset + 8) 8
  pub free : IsFree b
  pub within : b.at + b.len ≤ length segment
  pub apart : (p : ℕ) → cover p held + holds p b.at b.len ≤ 1

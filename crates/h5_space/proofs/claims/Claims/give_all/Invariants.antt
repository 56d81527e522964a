use Rattle.std.proofs.Common.{◌≡◌, ℕ, ◌+◌, ◌<◌, length}
use Rattle.std.specs.List.{AllByRecursion}
use Rattle.h5_bytes.specs.Blocks.{cover}
use Rattle.h5_space.proofs.PlaceOrder.{cover_at}
use Rattle.h5_space.proofs.claims.Claims.give_all.Given as goal

-- the blocks that are left are given yet, and the others are free
abbrev pub invariant-loop-index : goal.invariant-loop-index
invariant-loop-index l = record {
  bytes : l.image.bytes ≡ l.fn.image.bytes;
  within : AllByRecursion (λ i. i < length l.fn.self.held) l.index-iterator;
  given : (p : ℕ) → cover p l.image.free + cover_at p l.fn.self.held l.index-iterator ≡ cover p l.fn.image.free + cover p l.fn.self.held;
  room_bytes : l.image.room_bytes ≡ l.fn.image.room_bytes;
  room_blocks : l.image.room_blocks + length l.fn.self.held ≡ l.fn.image.room_blocks + length l.index-iterator;
}

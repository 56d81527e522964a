-- Blocks in a list, and a map from the place of each to its index there.
use Rattle.std.specs.Prelude.{◌≡◌, ℕ, ◌<◌, ◌≤◌, List, length, Some, slice_index_or}
use Rattle.std.specs.BTreeMap.{BTreeMap, get}
use Rattle.std.specs.List.{All}
use Rattle.std.specs.Ordering.{nat_cmp}
use Rattle.h5_bytes.specs.Blocks.{holds, cover}
use Rattle.h5_bytes.specs.declared.Block.{Block}

-- a place leads to a block that begins there, and the place of each block leads to it; no block is empty, and together
-- they hold each byte below the end once at most, and none past it
pub record IsIndexed (blocks : List Block) (places : BTreeMap ℕ ℕ) (end : ℕ) : Type 0 where
  pub leads : (place i : ℕ) → get nat_cmp places place ≡ Some i → (i < length blocks) × ((d : Block) → (slice_index_or blocks i d).at ≡ place)
  pub listed : (i : ℕ) (d : Block) → i < length blocks → get nat_cmp places (slice_index_or blocks i d).at ≡ Some i
  pub filled : All (λ b. 0 < b.len) blocks
  pub once : (p : ℕ) → cover p blocks ≤ holds p 0 end

-- the block with this index begins before a place, and no other one that does begins behind it
pub record IsLastBefore (blocks : List Block) (place i : ℕ) : Type 0 where
  pub within : i < length blocks
  pub before : (d : Block) → (slice_index_or blocks i d).at < place
  pub last : (j : ℕ) (d : Block) → j < length blocks → (slice_index_or blocks j d).at < place → (slice_index_or blocks j d).at ≤ (slice_index_or blocks i d).at

-- Bytes of a heap's segment that become free, joined with the free blocks beside them (File Format Specification 3.0, section III.D).
use Rattle.std.specs.Prelude.{◌≡◌, ℕ, ◌+◌, ◌-◌, ◌%◌, ◌≤◌, ◌<◌, ◌⊎◌, ◌&&◌, not, List, None, length}
use Rattle.std.specs.List.{find, filter}
use Rattle.std.specs.Option.{option_map_or}
use Rattle.h5_bytes.specs.Bytes.{byte_at}
use Rattle.h5_bytes.specs.Blocks.{block, holds, cover}
use Rattle.h5_bytes.specs.declared.Block.{Block}
use Rattle.h5_heap.specs.Chain.{HasChain, free_from, Ascends, IsPutIn}
use Rattle.h5_heap.specs.Sought.{begins_at, ends_at}

-- a free block from the second place on ends before the first, or there is none
pub record IsJoinedLeft (free : List Block) (at begin : ℕ) : Type 0 where
  pub aligned : begin % 8 ≡ 0
  pub joined : (begin + 16 ≤ at) ⊎ ((begin ≡ at) × (find (ends_at at) free ≡ None))

-- a free block from the first place on ends at the second, or there is none
pub record IsJoinedRight (free : List Block) (end stop size : ℕ) : Type 0 where
  pub within : stop ≤ size
  pub joined : (end + 16 ≤ stop) ⊎ ((stop ≡ end) × (find (begins_at end) free ≡ None))

-- these bytes are in no free block and touch none, and there are too few for one
pub record IsLeftBeside (free : List Block) (at len : ℕ) : Type 0 where
  pub short : len < 16
  pub before : find (ends_at at) free ≡ None
  pub behind : find (begins_at (at + len)) free ≡ None

-- where the free bytes begin that end at this place, and where those end that begin at it: at the place itself, where there are none
abbrev pub begin_of : List Block → ℕ → ℕ
begin_of free at = option_map_or (λ b. b.at) (find (ends_at at) free) at

abbrev pub stop_of : List Block → ℕ → ℕ
stop_of free end = option_map_or (λ b. b.at + b.len) (find (begins_at end) free) end

-- these bytes and the free ones beside them, as one block
abbrev pub joined_block : List Block → ℕ → ℕ → Block
joined_block free at end = block (begin_of free at) (stop_of free end - begin_of free at)

-- the free blocks that do not end where these bytes begin, and do not begin where they end
abbrev pub others : List Block → ℕ → ℕ → List Block
others free at end = filter (λ b. not (ends_at at b) && not (begins_at end b)) free

-- In place of the free blocks beside these bytes the list has one block of all; or it is as before, where they are too few for one.
abbrev pub IsJoined : List Block → List Block → ℕ → ℕ → Type 0
IsJoined free free' at end = ((16 ≤ (joined_block free at end).len) × IsPutIn (joined_block free at end) (others free at end) free')
    ⊎ (((joined_block free at end).len < 16) × (free' ≡ free))

-- The len bytes from place at are free now too, or are too few without a neighbour. Bytes that were in no free block, and in none of
-- these, have their values still.
pub record Releases (old new : List ℕ) (first first' at len : ℕ) : Type 0 where
  pub chain : HasChain new first'
  pub freed : ((p : ℕ) → cover p (free_from new first') ≡ cover p (free_from old first) + holds p at len)
      ⊎ (IsLeftBeside (free_from old first) at len × ((p : ℕ) → cover p (free_from new first') ≡ cover p (free_from old first)))
  pub listed : IsJoined (free_from old first) (free_from new first') at (at + len)
  pub ascending : Ascends (free_from old first) → Ascends (free_from new first')
  pub kept : (p : ℕ) → cover p (free_from old first) ≡ 0 → holds p at len ≡ 0 → byte_at new p ≡ byte_at old p
  pub size : length new ≡ length old

-- Blocks of an image, and which of them hold a byte.
use Rattle.std.specs.Prelude.{◌≡◌, ℕ, ◌+◌, ◌≤◌, ◌&&◌, nat_le, nat_lt, if◌then◌else◌, List, [], ◌∷◌}
use Rattle.std.specs.List.{AllByRecursion}
use Rattle.h5_bytes.specs.Bytes.{part}
use Rattle.h5_bytes.specs.declared.Block.{Block}

abbrev pub block : ℕ → ℕ → Block
block at len = record { at = at; len = len }

-- 1 where the len bytes from place at hold the byte at p, else 0
unfoldable pub holds : ℕ → ℕ → ℕ → ℕ
holds p at len = if nat_le at p && nat_lt p (at + len) then 1 else 0

-- how many of the blocks hold the byte at p; one that stands twice counts twice
abbrev pub cover : ℕ → List Block → ℕ
cover p [] = 0
cover p (b ∷ bs) = holds p b.at b.len + cover p bs

-- no two of the blocks share a byte; an empty block shares none
abbrev pub Separate : List Block → Type 0
Separate blocks = (p : ℕ) → cover p blocks ≤ 1

-- each block ends at this place or before it
abbrev pub Inside : ℕ → List Block → Type 0
Inside end blocks = AllByRecursion (λ b. b.at + b.len ≤ end) blocks

-- the blocks hold each byte below this end exactly once, and no other byte
abbrev pub CoverOnce : ℕ → List Block → Type 0
CoverOnce end blocks = (p : ℕ) → cover p blocks ≡ holds p 0 end

-- the blocks follow each other without gaps, from one place to another
abbrev pub Run : ℕ → List Block → ℕ → Type 0
Run from [] to = from ≡ to
Run from (b ∷ bs) to = (b.at ≡ from) × Run (from + b.len) bs to

-- the block's bytes are as before
abbrev pub IsKept : List ℕ → List ℕ → Block → Type 0
IsKept old new b = part b.at b.len new ≡ part b.at b.len old

-- the bytes of each of the blocks are as before
abbrev pub Keeps : List ℕ → List ℕ → List Block → Type 0
Keeps old new blocks = AllByRecursion (IsKept old new) blocks

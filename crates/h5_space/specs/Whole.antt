-- The blocks in use and the free ones, together.
use Rattle.std.specs.Prelude.{◌≡◌, ◌≤◌, ℕ, ◌+◌, List}
use Rattle.h5_bytes.specs.Blocks.{holds, cover}
use Rattle.h5_bytes.specs.declared.Block.{Block}

-- nothing leaks: they hold each byte below the end once, and none past it
abbrev pub IsWhole : List Block → List Block → ℕ → Type 0
IsWhole used free end = (p : ℕ) → cover p used + cover p free ≡ holds p 0 end

-- none is shared: they hold each byte below the end once at most, and none past it
abbrev pub IsApart : List Block → List Block → ℕ → Type 0
IsApart used free end = (p : ℕ) → cover p used + cover p free ≤ holds p 0 end

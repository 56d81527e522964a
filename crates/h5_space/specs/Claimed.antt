-- What a walk has claimed: the end that no block may pass, and the claimed bytes as blocks.
use Rattle.std.specs.Prelude.{◌≡◌, ℕ, ◌+◌, ◌<◌, List}
use Rattle.h5_bytes.specs.Blocks.{holds, cover, Separate}
use Rattle.h5_bytes.specs.declared.Block.{Block}
use Rattle.h5_model.specs.declared.open_fault.Cause.{Cause}
use Rattle.h5_model.specs.declared.open_fault.Cause.TheVariants.{Truncated, Overlap, NoMemory}

pub record Claimed : Type 0 where
  pub end : ℕ
  pub held : List Block

-- some byte of the len bytes from place at is claimed
abbrev pub Shares : List Block → ℕ → ℕ → Type 0
Shares held at len = (p : ℕ) × (holds p at len ≡ 1) × (cover p held ≡ 1)

-- why a block cannot be claimed, and its address
abbrev pub ClaimBreach : ℕ → List Block → Block → Cause → ℕ → Type 0
ClaimBreach end held b Truncated address = (address ≡ b.at) × (end < b.at + b.len)
ClaimBreach end held b Overlap address = (address ≡ b.at) × Shares held b.at b.len
ClaimBreach end held b NoMemory address = Unit {0}
ClaimBreach end held b _ address = ⊥

-- these blocks were claimed in addition, and no two claimed blocks share a byte
pub record HasClaimed (old new : Claimed) (blocks : List Block) : Type 0 where
  pub covered : (p : ℕ) → cover p new.held ≡ cover p old.held + cover p blocks
  pub separate : Separate new.held

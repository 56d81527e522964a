-- How far a walk through an image has come: which fields it has followed, and which bytes it has claimed (File Format
-- Specification 3.0, sections II.A, III and IV.A).
use Rattle.std.specs.Prelude.{◌≡◌, ℕ, ◌-◌, ◌≤◌, List, ◌∷◌, map}
use Rattle.std.specs.List.{AllByRecursion}
use Rattle.h5_bytes.specs.Blocks.{block, cover}
use Rattle.h5_bytes.specs.declared.Block.{Block}
use Rattle.h5_model.specs.Format.Superblock.{superblock_length}
use Rattle.h5_model.specs.Format.Reached.{Named, Reached, block_of}
use Rattle.h5_model.specs.Faults.Breaches.{ReachedBreach}
use Rattle.h5_model.specs.declared.open_fault.Cause.{Cause}

-- The field names a block that is reached. It stands in a claimed block, behind at least eight bytes of that block: no field is the
-- first of a structure.
pub record IsFollowed (image : List ℕ) (held : List Block) (y : Named) : Type 0 where
  pub reached : Reached image y
  pub behind : 8 ≤ y.field
  pub stands : 1 ≤ cover (y.field - 8) held

-- the superblock is claimed, and the block that each followed field names
pub record IsWalked (image : List ℕ) (held : List Block) (followed : List Named) : Type 0 where
  pub all : AllByRecursion (IsFollowed image held) followed
  pub covered : (p : ℕ) → cover p held ≡ cover p (block 0 (superblock_length image) ∷ map (block_of image) followed)

-- a cause holds at an address, of a block that is reached
abbrev pub Breaches : List ℕ → Cause → ℕ → Type 0
Breaches image cause address = (z : Named) × Reached image z × (z.at ≡ address) × ReachedBreach image z cause

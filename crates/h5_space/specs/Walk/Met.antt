-- A field that a walk has met and not followed yet (File Format Specification 3.0, sections III and IV.A).
use Rattle.std.specs.Prelude.{◌≢◌, ℕ, ◌-◌, ◌≤◌, List}
use Rattle.std.specs.List.{AllByRecursion}
use Rattle.h5_bytes.specs.Blocks.{cover}
use Rattle.h5_bytes.specs.declared.Block.{Block}
use Rattle.h5_model.specs.Format.Reached.{Named, Reached}

-- it names a block that is reached, stands in a claimed block, and is none of those that were followed
pub record IsMet (image : List ℕ) (held : List Block) (followed : List Named) (y : Named) : Type 0 where
  pub reached : Reached image y
  pub behind : 8 ≤ y.field
  pub stands : 1 ≤ cover (y.field - 8) held
  pub fresh : AllByRecursion (λ z. z.field ≢ y.field) followed

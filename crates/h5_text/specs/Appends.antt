-- Text behind what a buffer holds.
use Rattle.std.specs.Prelude.{◌≡◌, ℕ, List, ◌++◌, Result, Ok, Err}
use Rattle.std.specs.declared.alloc.AllocError.{AllocError}

-- the new bytes are the old ones with more behind them
pub record Extends (old new : List ℕ) : Type 0 where
  pub more : List ℕ
  pub whole : new ≡ old ++ more

-- on Ok the text is appended; on Err no more is said than that the old bytes stay where they are
abbrev pub Appends : {T : Type 0} → Result T AllocError → List ℕ → List ℕ → List ℕ → Type 0
Appends (Ok x) old new text = new ≡ old ++ text
Appends (Err e) old new text = Extends old new

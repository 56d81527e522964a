-- A walk through the tree of a group (File Format Specification 3.0, sections III.A.1 and III.B).
use Rattle.std.specs.Prelude.{ℕ, List}
use Rattle.h5_model.specs.Format.Reached.{naming_of, SymbolNode, Reached}
pub use Rattle.h5_btree.specs.Walk.Followed.{IsFault}

-- a field that is reached names this symbol node of the tree
abbrev pub AreSymbolsReached : List ℕ → ℕ → ℕ → ℕ → ℕ → Type 0
AreSymbolsReached image root heap depth at = (field : ℕ) × Reached image (naming_of field (SymbolNode root heap) at depth)

-- A symbol node that is written where it stands (File Format Specification 3.0, section III.B).
use Rattle.std.specs.Prelude.{◌≡◌, ℕ, List, [], ◌∷◌, length}
use Rattle.h5_model.specs.Format.Symbols.{Entry, IsSymbolNode, symbol_block, symbol_bytes, symbols_at}
use Rattle.h5_space.specs.Space.{Space}
use Rattle.h5_space.specs.Moves.{Moves, Spends}

-- The symbol node at this address, of a file with this K of leaves, has these entries now. Only its block was written, no block was taken or
-- given, and no room was used.
pub record IsSymbolsRewritten (old new : Space) (leaf at : ℕ) (entries : List Entry) : Type 0 where
  pub says : symbols_at new.bytes leaf at ≡ entries
  pub form : IsSymbolNode leaf (symbol_bytes new.bytes leaf at)
  pub moves : Moves old new (symbol_block leaf at ∷ []) (symbol_block leaf at ∷ [])
  pub free : new.free ≡ old.free
  pub size : length new.bytes ≡ length old.bytes
  pub spends : Spends old new 0 0

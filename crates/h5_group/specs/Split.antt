-- Symbol nodes that are new, and that are cut in two (File Format Specification 3.0, section III.B).
use Rattle.std.specs.Prelude.{◌≡◌, ℕ, ◌+◌, ◌*◌, Bool, List, [], ◌∷◌, take, drop}
use Rattle.std.specs.List.{insert}
use Rattle.std.specs.Cmp.Lexicographic.{slice_cmp}
use Rattle.std.specs.Ordering.{is_le, nat_cmp}
use Rattle.h5_model.specs.Format.Symbols.{Entry, IsSymbolNode, symbol_block, symbol_bytes, symbols_at}
use Rattle.h5_laws.specs.NameLadders.{key_text}
use Rattle.h5_space.specs.Moves.{Moves, Spends}
use Rattle.h5_space.specs.Space.{Space}
use Rattle.h5_btree.specs.Insertion.{left_count}

-- a new symbol node has these entries
pub record AreNewSymbols (old new : Space) (leaf at : ℕ) (entries : List Entry) : Type 0 where
  pub says : symbols_at new.bytes leaf at ≡ entries
  pub form : IsSymbolNode leaf (symbol_bytes new.bytes leaf at)
  pub moves : Moves old new [] (symbol_block leaf at ∷ [])
  pub spends : Spends old new (8 + 80 * leaf) 1

-- The symbol node at one address has these entries now, and a new one at another address has those.
pub record AreHalves (old new : Space) (leaf at other : ℕ) (left right : List Entry) : Type 0 where
  pub left_says : symbols_at new.bytes leaf at ≡ left
  pub right_says : symbols_at new.bytes leaf other ≡ right
  pub left_form : IsSymbolNode leaf (symbol_bytes new.bytes leaf at)
  pub right_form : IsSymbolNode leaf (symbol_bytes new.bytes leaf other)
  pub moves : Moves old new (symbol_block leaf at ∷ []) (symbol_block leaf at ∷ symbol_block leaf other ∷ [])
  pub spends : Spends old new (8 + 80 * leaf) 1

-- a full symbol node is cut in two, with an entry more at place j: its first entries stay, and the others are those of a new one
abbrev pub IsCutInTwo : Space → Space → ℕ → ℕ → ℕ → Entry → ℕ → Type 0
IsCutInTwo old new leaf at j e other =
    AreHalves old new leaf at other (take (left_count leaf j) (insert (symbols_at old.bytes leaf at) j e))
    (drop (left_count leaf j) (insert (symbols_at old.bytes leaf at) j e))

-- whether a key of a group's tree may follow another, by the names for which they stand in this segment
abbrev pub follows_in : List ℕ → List ℕ → List ℕ → Bool
follows_in segment key next = is_le (slice_cmp nat_cmp (key_text segment key) (key_text segment next))

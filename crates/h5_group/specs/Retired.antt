-- Keys of a group's tree that name one text of its heap, and the names in its symbol nodes as keys (File Format Specification 3.0, sections
-- III.A.1 and III.B).
use Rattle.std.specs.Prelude.{ℕ, ◌+◌, ◌*◌, ◌≤◌, ◌==◌, Bool, List, length, map}
use Rattle.h5_bytes.specs.Numbers.{word}
use Rattle.h5_model.specs.Format.Links.{offset_in}
use Rattle.h5_model.specs.Format.Symbols.{Entry, IsSymbolNode, symbol_bytes, symbols_at}

-- whether a key names the text at this offset
abbrev pub is_of : ℕ → List ℕ → Bool
is_of offset key = offset_in key == offset

-- a symbol node with room for 2 leaf entries stands in the image
abbrev pub StandsAt : ℕ → List ℕ → ℕ → Type 0
StandsAt leaf image at = (at + (8 + 80 * leaf) ≤ length image) × IsSymbolNode leaf (symbol_bytes image leaf at)

-- the keys that name what these entries do
abbrev pub name_keys : List Entry → List (List ℕ)
name_keys entries = map (λ (e : Entry). word e.name) entries

-- those of a symbol node's entries
abbrev pub entry_keys : ℕ → List ℕ → ℕ → List (List ℕ)
entry_keys leaf image at = name_keys (symbols_at image leaf at)

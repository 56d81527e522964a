-- The names in a symbol node (File Format Specification 3.0, section III.B).
use Rattle.std.specs.Prelude.{ℕ, ◌+◌, ◌*◌, ◌≤◌, List, map, take, drop, length}
use Rattle.std.specs.List.{AllByRecursion}
use Rattle.h5_bytes.specs.Bytes.{part}
use Rattle.h5_bytes.specs.Texts.{text_at}
use Rattle.h5_model.specs.Format.Symbols.{Entry, entry_of}
use Rattle.h5_model.specs.Format.Links.{Before}

-- the names of entries, whose bytes stand in a heap's segment
abbrev pub entry_names : List ℕ → List Entry → List (List ℕ)
entry_names segment entries = map (λ (e : Entry). text_at segment e.name) entries

-- a name is above those before this place, and below those from it on
pub record IsPlace (names : List (List ℕ)) (name : List ℕ) (k : ℕ) : Type 0 where
  pub inside : k ≤ length names
  pub above : AllByRecursion (λ other. Before other name) (take k names)
  pub below : AllByRecursion (λ other. Before name other) (drop k names)

-- the name of entry k of a symbol node's bytes
abbrev pub name_at : List ℕ → List ℕ → ℕ → List ℕ
name_at segment bytes k = text_at segment (entry_of (part (8 + 40 * k) 40 bytes)).name

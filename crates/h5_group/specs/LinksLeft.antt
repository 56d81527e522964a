-- The links of a group that are left while they are gone through (File Format Specification 3.0, section III.B).
use Rattle.std.specs.Prelude.{ℕ, ◌≤◌, Option, None, Some, List, [], ◌++◌, drop, length, map}
use Rattle.std.specs.List.{AllByRecursion}
use Rattle.h5_model.specs.Format.Symbols.{Entry, Target, link_of}
use Rattle.h5_model.specs.Faults.TreeFaults.{all_entries}
use Rattle.h5_group.specs.Nodes.Stands.{IsSymbolsAt}

-- the entries of the symbol node under way; none before the first is begun
abbrev pub entries_under_way : Option (List Entry) → List Entry
entries_under_way None = []
entries_under_way (Some entries) = entries

-- the links of the symbol node under way from this place on, and those of the symbol nodes behind it
abbrev pub links_left : List ℕ → List ℕ → Option (List Entry) → ℕ → List ℕ → List (List ℕ × Target)
links_left image segment node place nodes = map (link_of segment) (drop place (entries_under_way node) ++ all_entries image nodes)

-- these symbol nodes stand in the image
abbrev pub AreSymbolsThere : List ℕ → List ℕ → Type 0
AreSymbolsThere image nodes = AllByRecursion (λ at. (26 ≤ length image) × IsSymbolsAt image at) nodes

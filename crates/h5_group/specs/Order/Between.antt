-- The names of entries and symbol nodes, and two names between which they lie (File Format Specification 3.0, sections III.A.1 and
-- III.B).
use Rattle.std.specs.Prelude.{ℕ, List, map}
use Rattle.h5_bytes.specs.Texts.{text_at}
use Rattle.h5_model.specs.Format.Superblock.{leaf_k}
use Rattle.h5_model.specs.Format.Symbols.{Entry, link_of, symbols_at}
use Rattle.h5_model.specs.Format.Links.{Ascend, names_in}
use Rattle.h5_model.specs.Faults.TreeFaults.{all_entries}
use Rattle.h5_laws.specs.Ladders.{Sides}
use Rattle.h5_laws.specs.NameLadders.{name_sides}

abbrev pub name_of_entry : List ℕ → Entry → List ℕ
name_of_entry segment e = text_at segment e.name

-- the names in these symbol nodes
abbrev pub names_at : List ℕ → List ℕ → List ℕ → List (List ℕ)
names_at image segment symbol_nodes = names_in (symbols_at image (leaf_k image)) segment symbol_nodes

-- they ascend, from the first symbol node to the last
abbrev pub NamesAscend : List ℕ → List ℕ → List ℕ → Type 0
NamesAscend image segment symbol_nodes = Ascend (map (link_of segment) (all_entries image symbol_nodes))

-- a name is between two names, as it is between keys that stand for them
abbrev pub LiesBetween : List ℕ → List ℕ → List ℕ → Type 0
LiesBetween low high name =
    let sides : Sides (List ℕ) (List ℕ) = name_sides (λ text. text) in
    sides.Right low name × sides.Left name high

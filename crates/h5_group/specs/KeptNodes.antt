-- Nodes of a group's tree that stay where its heap is edited (File Format Specification 3.0, sections III.A.1 and III.D).
use Rattle.std.specs.Prelude.{◌≡◌, ℕ, List}
use Rattle.std.specs.List.{AllByRecursion}
use Rattle.h5_model.specs.Format.Addresses.{SymbolTable}
use Rattle.h5_model.specs.Format.Nodes.{node_at}
use Rattle.h5_model.specs.Format.Links.{offset_in, key_offsets}
use Rattle.h5_space.specs.Space.{Space}
use Rattle.h5_group.specs.Edited.{heap_text}
use Rattle.h5_group.specs.Nodes.Trees.{kind_in}
use Rattle.h5_group.specs.Told.{nodes_told}

-- each of these nodes reads as it did, and its keys name the texts that they named
abbrev pub AreNodesKept : Space → Space → SymbolTable → List ℕ → Type 0
AreNodesKept old new table owned = AllByRecursion (λ n. (node_at new.bytes (kind_in old.bytes) n ≡ node_at old.bytes (kind_in old.bytes) n)
    × AllByRecursion (λ key. heap_text new table (offset_in key) ≡ heap_text old table (offset_in key)) (node_at old.bytes (kind_in old.bytes) n).keys) owned

-- the offsets in the keys of the group's tree, as the image tells them
abbrev pub keys_told : List ℕ → SymbolTable → List ℕ
keys_told image table = key_offsets (node_at image (kind_in image)) (nodes_told image table)

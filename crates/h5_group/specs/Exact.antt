-- Exact keys of a group: each key behind a child of a node names the last link below that child, so that it is known where the keys stand
-- that name a link which goes (File Format Specification 3.0, sections III.A.1 and III.B).
use Rattle.std.specs.Prelude.{◌≡◌, ◌⊎◌, ℕ, zero, suc, ◌≤◌, List, Option, None, length, true}
use Rattle.std.specs.List.{AllByRecursion}
use Rattle.h5_bytes.specs.Numbers.{word}
use Rattle.h5_model.specs.Format.Addresses.{SymbolTable}
use Rattle.h5_model.specs.Format.Heap.{segment_of}
use Rattle.h5_model.specs.Format.Nodes.{node_at}
use Rattle.h5_model.specs.Format.Reached.{level_at}
use Rattle.h5_model.specs.Format.Superblock.{leaf_k}
use Rattle.h5_laws.specs.ExactWays.{IsExactFor}
use Rattle.h5_laws.specs.NameLadders.{key_sides, key_text}
use Rattle.h5_btree.specs.Exact.{AreKeysExact}
use Rattle.h5_btree.specs.Keyed.{keys_from}
use Rattle.h5_btree.specs.Looked.{AreHitsLooked}
use Rattle.h5_btree.specs.Retired.{lowest_key}
use Rattle.h5_btree.specs.declared.way.Step.{Step}
use Rattle.h5_group.specs.Nodes.Stands.{entries_at}
use Rattle.h5_group.specs.Nodes.Trees.{kind_in}
use Rattle.h5_group.specs.Retired.{entry_keys, is_of}
use Rattle.h5_group.specs.Told.{symbol_nodes_told}

-- the keys of the group's tree are exact by the names in its symbol nodes, but for those that are spared
abbrev pub AreGroupKeys : (List ℕ → Type 0) → List ℕ → SymbolTable → Type 0
AreGroupKeys spared image table =
    AreKeysExact spared (entry_keys (leaf_k image) image) (node_at image (kind_in image)) (level_at image (kind_in image) table.tree) table.tree

-- each symbol node of the group has an entry
abbrev pub AreSymbolsFilled : List ℕ → SymbolTable → Type 0
AreSymbolsFilled image table = AllByRecursion (λ at. 1 ≤ length (entries_at image at)) (symbol_nodes_told image table)

-- the same of the symbol nodes so many levels below an address
abbrev pub AreFilledUnder : List ℕ → ℕ → ℕ → Type 0
AreFilledUnder image zero at = 1 ≤ length (entries_at image at)
AreFilledUnder image (suc height) at = AllByRecursion (AreFilledUnder image height) (node_at image (kind_in image) at).children

-- THE GROUP HAS EXACT KEYS: none is spared, and each symbol node has an entry.
pub record HasExactKeys (image : List ℕ) (table : SymbolTable) : Type 0 where
  pub exact : AreGroupKeys (λ key. ⊥) image table
  pub filled : AreSymbolsFilled image table

-- ---- between the steps of an edit

-- keys that name the text at this offset are spared: it was the name of a link that has gone
abbrev pub AreExactBut : ℕ → List ℕ → SymbolTable → Type 0
AreExactBut offset = AreGroupKeys (λ key. is_of offset key ≡ true)

-- each symbol node but this one has an entry
abbrev pub AreFilledBut : ℕ → List ℕ → SymbolTable → Type 0
AreFilledBut node image table = AllByRecursion (λ at. (at ≡ node) ⊎ (1 ≤ length (entries_at image at))) (symbol_nodes_told image table)

-- keys that name the text at this offset stand only where they are looked for: along these steps, or in each node
abbrev pub AreKeysLooked : ℕ → Option (List Step) → List ℕ → SymbolTable → Type 0
AreKeysLooked offset steps image table =
    AreHitsLooked (is_of offset) (node_at image (kind_in image)) steps (suc (level_at image (kind_in image) table.tree)) true table.tree

-- The keys are exact, but for those that were moved to let in the name at this offset.
pub record HasKeysFor (offset : ℕ) (image : List ℕ) (table : SymbolTable) : Type 0 where
  pub exact : IsExactFor (key_sides (key_text (segment_of image table.heap))) (word offset) (λ (key : List ℕ). key) lowest_key (λ (keys : List (List ℕ)). keys)
      (suc (level_at image (kind_in image) table.tree)) None
      (keys_from (node_at image (kind_in image)) (λ key at. entry_keys (leaf_k image) image at) (level_at image (kind_in image) table.tree) table.tree)
  pub filled : AreSymbolsFilled image table

-- The way to a name in the tree of a group (File Format Specification 3.0, section III.A.1).
use Rattle.std.specs.Prelude.{◌≡◌, ℕ, Bool, List, ◌∷◌}
use Rattle.std.specs.Cmp.Lexicographic.{slice_cmp}
use Rattle.std.specs.List.{Contains}
use Rattle.std.specs.Ordering.{is_lt, nat_cmp}
use Rattle.h5_bytes.specs.Texts.{text_at}
use Rattle.h5_bytes.specs.declared.Block.{Block}
use Rattle.h5_model.specs.Format.Addresses.{SymbolTable}
use Rattle.h5_model.specs.Format.Heap.{segment_of}
use Rattle.h5_model.specs.Format.Links.{offset_in}
use Rattle.h5_model.specs.Format.Nodes.{node_at}
use Rattle.h5_model.specs.Format.Symbols.{Target}
use Rattle.h5_space.specs.Space.{Space}
use Rattle.h5_btree.specs.Descent.{IsWayTo}
use Rattle.h5_btree.specs.Removal.{EndsInTree}
use Rattle.h5_btree.specs.declared.way.Step.{Step}
use Rattle.h5_group.specs.Edited.{IsGroupIn, node_below}
use Rattle.h5_group.specs.Nodes.Stands.{entries_at}
use Rattle.h5_group.specs.Nodes.Trees.{kind_in}
use Rattle.h5_group.specs.Told.{symbol_nodes_told}

-- whether a name stands behind a key of the group's tree
abbrev pub behind_in : List ℕ → SymbolTable → List ℕ → List ℕ → Bool
behind_in image table name key = is_lt (slice_cmp nat_cmp (text_at (segment_of image table.heap) (offset_in key)) name)

abbrev pub behind_of : Space → SymbolTable → List ℕ → List ℕ → Bool
behind_of s table name = behind_in s.bytes table name

-- The way ends in the group's tree, and goes down to where this name stands, or is to stand.
pub record IsWayOf (s : Space) (table : SymbolTable) (name : List ℕ) (way : List Step) : Type 0 where
  pub level : ℕ
  pub owned : List ℕ
  pub symbol_nodes : List ℕ
  pub number : ℕ
  pub ends : EndsInTree s (kind_in s.bytes) table.tree level way owned symbol_nodes number
  pub sought : IsWayTo (node_at s.bytes (kind_in s.bytes)) (behind_of s table name) level table.tree way

-- some links stand in the group, whose heap keeps a text at this offset that no link names
abbrev pub HasSpare : Space → SymbolTable → ℕ → Type 0
HasSpare s table offset =
    (links : List (List ℕ × Target)) × (spare : List ℕ) × (blocks : List Block) × IsGroupIn s table links spare blocks × Contains spare offset

-- Each way down the group's tree is one still, and leads to the same symbol node; and all symbol nodes have the entries that they had.
pub record AreWaysKept (old new : Space) (table : SymbolTable) : Type 0 where
  pub ways : (way : List Step) (level : ℕ) (owned list : List ℕ) (number : ℕ) → EndsInTree old (kind_in old.bytes) table.tree level way owned list number
      → EndsInTree new (kind_in new.bytes) table.tree level way owned list number
  pub below : (step : Step) (above : List Step) (level : ℕ) (owned list : List ℕ) (number : ℕ)
      → EndsInTree old (kind_in old.bytes) table.tree level (step ∷ above) owned list number → node_below new table step ≡ node_below old table step
  pub told : symbol_nodes_told new.bytes table ≡ symbol_nodes_told old.bytes table
  pub entries : (node : ℕ) → Contains (symbol_nodes_told old.bytes table) node → entries_at new.bytes node ≡ entries_at old.bytes node

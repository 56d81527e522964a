-- A walk that comes to a group, and the walk when the group was read (File Format Specification 3.0, sections III and IV.A.2.r).
use Rattle.std.specs.Prelude.{◌≡◌, ◌≢◌, ℕ, ◌+◌, ◌-◌, ◌*◌, ◌<◌, ◌⊎◌, false, List, ◌++◌}
use Rattle.std.specs.List.{AllByRecursion, Contains}
use Rattle.h5_bytes.specs.Blocks.{cover}
use Rattle.h5_bytes.specs.declared.Block.{Block}
use Rattle.h5_model.specs.Format.Addresses.{SymbolTable}
use Rattle.h5_model.specs.Format.Superblock.{leaf_k}
use Rattle.h5_model.specs.Format.Symbols.{symbol_bytes, symbols_in}
use Rattle.h5_model.specs.Format.Reached.{Named, naming_of, ObjectHeader, HeapHeader, group_root, entry_in}
use Rattle.h5_model.specs.Faults.Breaches.{is_header}
use Rattle.h5_model.specs.declared.open_fault.Cause.{Cause}
use Rattle.h5_header.specs.Walk.Walked.{IsWalked}
use Rattle.h5_header.specs.Walk.Met.{IsMet}
use Rattle.h5_group.specs.Nodes.Walk.{IsFault, AreSymbolsReached}
use Rattle.h5_group.specs.Told.{symbol_nodes_told}

-- the walk has met the two fields of a Symbol Table message
pub record IsGroupMet (image : List ℕ) (held : List Block) (followed : List Named) (first second depth : ℕ) (table : SymbolTable) : Type 0 where
  pub walked : IsWalked image held followed
  pub tree : IsMet image held followed (naming_of first (group_root image table.tree table.heap) table.tree depth)
  pub heap : IsMet image held followed (naming_of second (HeapHeader table.tree) table.heap depth)
  pub apart : first ≢ second

-- the field of entry i of a symbol node, which names a header
abbrev pub entry_field : List ℕ → ℕ → ℕ → ℕ → Named
entry_field image depth node i = naming_of (node + 16 + 40 * i) ObjectHeader (entry_in image node i).header (depth + 1)

-- entry i of a symbol node of the group leads to a header
pub record IsHard (image : List ℕ) (table : SymbolTable) (node i : ℕ) : Type 0 where
  pub node_of : Contains (symbol_nodes_told image table) node
  pub below : i < symbols_in (symbol_bytes image (leaf_k image) node)
  pub hard : (entry_in image node i).cache ≢ 2

-- More fields were followed, none of which names a header, and each of which stood in a message that names the group or in a block
-- that was not claimed before. The symbol nodes are reached, and the fields of their entries are met.
pub record IsGroupFollowed (image : List ℕ) (held now : List Block) (followed : List Named) (first second depth : ℕ) (table : SymbolTable) : Type 0 where
  pub new : List Named
  pub walked : IsWalked image now (new ++ followed)
  pub inner : AllByRecursion (λ (y : Named). is_header y.role ≡ false) new
  pub stands : AllByRecursion (λ (y : Named). (y.field ≡ first) ⊎ ((y.field ≡ second) ⊎ (cover (y.field - 8) held ≡ 0))) new
  pub symbols_reached : AllByRecursion (AreSymbolsReached image table.tree table.heap depth) (symbol_nodes_told image table)
  pub entries_met : (node i : ℕ) → IsHard image table node i → IsMet image now (new ++ followed) (entry_field image depth node i)
  pub entries_new : (node i : ℕ) → IsHard image table node i → cover (node + 16 + 40 * i - 8) held ≡ 0
  pub entries_apart : (node i other j : ℕ) → IsHard image table node i → IsHard image table other j → node + 16 + 40 * i ≡ other + 16 + 40 * j → (node ≡ other) × (i ≡ j)

-- ---- a step of the walk, from wherever it has met the two fields of a Symbol Table message

-- then it has followed this group
abbrev pub FollowsGroup : List ℕ → List Block → List Block → SymbolTable → Type 0
FollowsGroup image old now table = (followed : List Named) (first second depth : ℕ)
    → IsGroupMet image old followed first second depth table → IsGroupFollowed image old now followed first second depth table

-- the group is refused: the cause is a fault at the address
abbrev pub IsGroupFault : List ℕ → List Block → SymbolTable → Cause → ℕ → Type 0
IsGroupFault image old table cause address = (followed : List Named) (first second depth : ℕ)
    → IsGroupMet image old followed first second depth table → IsFault image cause address

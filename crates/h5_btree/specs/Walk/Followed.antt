-- A walk that comes to a tree, and the walk when the tree was read (File Format Specification 3.0, sections III.A.1 and
-- III.B).
use Rattle.std.specs.Prelude.{◌≡◌, ℕ, ◌-◌, ◌≤◌, ◌⊎◌, List, ◌++◌, false}
use Rattle.std.specs.List.{AllByRecursion}
use Rattle.h5_bytes.specs.Blocks.{cover}
use Rattle.h5_bytes.specs.declared.Block.{Block}
use Rattle.h5_model.specs.Format.Nodes.{tree_blocks}
use Rattle.h5_model.specs.Format.Reached.{Named, naming_of, level_at, Reached}
use Rattle.h5_model.specs.Faults.Breaches.{is_header}
use Rattle.h5_model.specs.declared.open_fault.Cause.{Cause}
use Rattle.h5_model.specs.declared.open_fault.Cause.TheVariants.{NoMemory}
use Rattle.h5_space.specs.Walk.Walked.{IsWalked, Breaches}
use Rattle.h5_space.specs.Walk.Met.{IsMet}
use Rattle.h5_btree.specs.Walk.Forms.{TreeForm, kind_of, node_role, leaf_role}

-- memory was short, or the cause holds at the address, of a block that is reached
abbrev pub IsFault : List ℕ → Cause → ℕ → Type 0
IsFault image NoMemory address = Unit {0}
IsFault image cause address = Breaches image cause address

-- the walk has met the field that names the root of the tree
pub record IsTreeMet (image : List ℕ) (form : TreeForm) (held : List Block) (followed : List Named) (field root heap depth : ℕ) : Type 0 where
  pub walked : IsWalked image held followed
  pub met : IsMet image held followed (naming_of field (node_role form root heap (level_at image (kind_of image form) root)) root depth)

-- a field that is reached names this node, or this leaf, of the tree
abbrev pub IsNodeReached : List ℕ → TreeForm → ℕ → ℕ → ℕ → ℕ → Type 0
IsNodeReached image form root heap depth at = (field : ℕ) × (level : ℕ) × Reached image (naming_of field (node_role form root heap level) at depth)

abbrev pub AreLeavesReached : List ℕ → TreeForm → ℕ → ℕ → ℕ → ℕ → Type 0
AreLeavesReached image form root heap depth at = (field : ℕ) × Reached image (naming_of field (leaf_role form root heap) at depth)

-- More fields were followed, none of which names a header: the one that names the root, and others that stand in nodes of the tree.
-- All of its nodes and leaves are reached.
pub record IsTreeFollowed (image : List ℕ) (form : TreeForm) (now : List Block) (followed : List Named) (field root heap depth : ℕ) (nodes leaves : List ℕ) : Type 0 where
  pub new : List Named
  pub walked : IsWalked image now (new ++ followed)
  pub inner : AllByRecursion (λ (y : Named). is_header y.role ≡ false) new
  pub stands : AllByRecursion (λ (y : Named). (y.field ≡ field) ⊎ (1 ≤ cover (y.field - 8) (tree_blocks (kind_of image form) nodes))) new
  pub nodes_reached : AllByRecursion (IsNodeReached image form root heap depth) nodes
  pub leaves_reached : AllByRecursion (AreLeavesReached image form root heap depth) leaves

-- ---- steps of the walk, from wherever it has met the field that names the root

-- then it has followed this tree
abbrev pub FollowsTree : List ℕ → TreeForm → List Block → List Block → ℕ → List ℕ → List ℕ → Type 0
FollowsTree image form old now root nodes leaves = (followed : List Named) (field heap depth : ℕ)
    → IsTreeMet image form old followed field root heap depth → IsTreeFollowed image form now followed field root heap depth nodes leaves

-- the tree is refused: the cause is a fault at the address
abbrev pub IsTreeFault : List ℕ → TreeForm → List Block → ℕ → Cause → ℕ → Type 0
IsTreeFault image form old root cause address = (followed : List Named) (field heap depth : ℕ)
    → IsTreeMet image form old followed field root heap depth → IsFault image cause address

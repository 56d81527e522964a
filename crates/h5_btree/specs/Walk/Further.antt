-- A walk that comes to the children of a node, and goes further from there (File Format Specification 3.0, section III.A.1).
use Rattle.std.specs.Prelude.{◌≡◌, ℕ, ◌+◌, ◌-◌, ◌<◌, ◌≤◌, ◌⊎◌, List, [], ◌∷◌, ◌++◌, false, length}
use Rattle.std.specs.List.{AllByRecursion}
use Rattle.h5_bytes.specs.Blocks.{cover}
use Rattle.h5_bytes.specs.declared.Block.{Block}
use Rattle.h5_model.specs.Format.Limits.{highest_level}
use Rattle.h5_model.specs.Format.Rows.{Node, nodes}
use Rattle.h5_model.specs.Format.Nodes.{node_bytes, key_place, child_in, tree_blocks, node_length}
use Rattle.h5_model.specs.Format.Reached.{Named, naming_of, Reached}
use Rattle.h5_model.specs.Faults.Breaches.{is_header}
use Rattle.h5_model.specs.declared.open_fault.Cause.{Cause}
use Rattle.h5_space.specs.Walk.Walked.{IsWalked}
use Rattle.h5_space.specs.Walk.Met.{IsMet}
use Rattle.h5_btree.specs.Walk.Forms.{TreeForm, kind_of, node_role, child_role}
use Rattle.h5_btree.specs.Walk.Below.{reading_in, nodes_below}
use Rattle.h5_btree.specs.Walk.Followed.{IsFault, IsTreeMet}

-- where child j of the node at an address is named
abbrev pub child_place : List ℕ → TreeForm → ℕ → ℕ → ℕ
child_place image form at j = at + key_place (kind_of image form) j + (kind_of image form).key_length

abbrev pub child_field : List ℕ → TreeForm → ℕ → ℕ → ℕ → ℕ → ℕ → ℕ → Named
child_field image form root heap depth level at j =
    naming_of (child_place image form at j) (child_role form root heap level) (child_in (kind_of image form) (node_bytes image (kind_of image form) at) j) depth

-- the node, of this level, is reached, and the walk has met the fields that name its children; the root's first byte is claimed, and no
-- node is of a level above 15
pub record AreChildrenMet (image : List ℕ) (form : TreeForm) (held : List Block) (followed : List Named) (root heap depth level at : ℕ) (node : Node) : Type 0 where
  pub read : node ≡ reading_in image form at
  pub reached : (field : ℕ) × Reached image (naming_of field (node_role form root heap level) at depth)
  pub there : at + node_length (kind_of image form) ≤ length image
  pub walked : IsWalked image held followed
  pub met : (j : ℕ) → j < length node.children → IsMet image held followed (child_field image form root heap depth level at j)
  pub rooted : 1 ≤ cover root held
  pub low : level ≤ highest_level

-- a field at this place names one of these children of a node of this level, or stands in a node below them
abbrev pub IsPlaceBelow : List ℕ → TreeForm → ℕ → ℕ → List ℕ → ℕ → Type 0
IsPlaceBelow image form level at row place =
    ((j : ℕ) × (j < length row) × (place ≡ child_place image form at j))
    ⊎ (1 ≤ cover (place - 8) (tree_blocks (kind_of image form) (nodes_below image form level row)))

-- a field at this place is this one, or stands in one of these nodes
abbrev pub IsPlaceIn : List ℕ → TreeForm → ℕ → List ℕ → ℕ → Type 0
IsPlaceIn image form field nodes place = (place ≡ field) ⊎ (1 ≤ cover (place - 8) (tree_blocks (kind_of image form) nodes))

-- more fields were followed, at these places, none of which names a header
pub record IsFurther (image : List ℕ) (now : List Block) (followed : List Named) (Place : ℕ → Type 0) : Type 0 where
  pub new : List Named
  pub walked : IsWalked image now (new ++ followed)
  pub inner : AllByRecursion (λ (y : Named). is_header y.role ≡ false) new
  pub places : AllByRecursion (λ (y : Named). Place y.field) new

-- ---- steps of the walk

-- wherever it has met the field that names the root of this level, it then has followed all nodes of the tree
abbrev pub WalksTree : List ℕ → TreeForm → List Block → List Block → ℕ → ℕ → Type 0
WalksTree image form old now root level = (followed : List Named) (field heap depth : ℕ)
    → IsTreeMet image form old followed field root heap depth
    → IsFurther image now followed (IsPlaceIn image form field (nodes (reading_in image form) level (root ∷ [])))

-- wherever it has met the fields of the node at this address, of this level, that name its children, it then has followed these and all
-- below them
abbrev pub WalksTo : List ℕ → TreeForm → List Block → List Block → ℕ → ℕ → Node → List ℕ → Type 0
WalksTo image form old now level at node row = (followed : List Named) (root heap depth : ℕ)
    → AreChildrenMet image form old followed root heap depth level at node → IsFurther image now followed (IsPlaceBelow image form level at row)

-- a child, or what stands below it, is refused: the cause is a fault at the address
abbrev pub IsFaultBelow : List ℕ → TreeForm → List Block → ℕ → ℕ → Node → Cause → ℕ → Type 0
IsFaultBelow image form old level at node cause address = (followed : List Named) (root heap depth : ℕ)
    → AreChildrenMet image form old followed root heap depth level at node → IsFault image cause address

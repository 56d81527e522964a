-- The way from a node of a B-tree down to a child at the bottom (File Format Specification 3.0, section III.A.1).
use Rattle.std.specs.Prelude.{◌≡◌, ℕ, zero, suc, ◌+◌, ◌<◌, ◌≤◌, ◌⊎◌, Bool, true, false, List, [], ◌∷◌, ◌++◌, length, slice_index, slice_index_or}
use Rattle.std.specs.List.{AllByRecursion, Contains}
use Rattle.h5_bytes.specs.Blocks.{Inside}
use Rattle.h5_model.specs.Format.Limits.{highest_level}
use Rattle.h5_model.specs.Format.Rows.{Node, Reading, AreRows}
use Rattle.h5_model.specs.Format.Nodes.{Kind, IsNode, entries_in, node_at, node_bytes, reading_of, tree_blocks}
use Rattle.h5_btree.specs.Form.{IsRefusedAt, MayBeRoot, MayStandAt}
use Rattle.h5_btree.specs.declared.read.NodeFault.{NodeFault}
use Rattle.h5_btree.specs.declared.way.Step.{Step}
use Rattle.h5_btree.specs.declared.read.NodeFault.TheVariants.{NodeForm}

-- What stands behind these keys stands below child i, if it stands below the node: it is behind the key before the child, and
-- not behind the next one. The first key and the last are not asked.
pub record IsChildFor (behind : List ℕ → Bool) (node : Node) (i : ℕ) : Type 0 where
  pub child : i < length node.children
  pub low : 1 ≤ i → behind (slice_index_or node.keys i []) ≡ true
  pub high : i + 1 < length node.children → behind (slice_index_or node.keys (i + 1) []) ≡ false

-- from a node of this level, by these children, to child i of a node of level 0
abbrev pub EndsAt : Reading → (List ℕ → Bool) → ℕ → ℕ → Node → ℕ → Type 0
EndsAt V behind zero at node i = (node ≡ V at) × IsChildFor behind node i
EndsAt V behind (suc level) at node i =
    (j : ℕ) × IsChildFor behind (V at) j × EndsAt V behind level (slice_index (V at).children j) node i

-- the same by the steps of the way, from the node of level 0 up
abbrev pub IsWayTo : Reading → (List ℕ → Bool) → ℕ → ℕ → List Step → Type 0
IsWayTo V behind zero at way = (i : ℕ) × IsChildFor behind (V at) i × (way ≡ record { node = at; place = i } ∷ [])
IsWayTo V behind (suc level) at way =
    (i : ℕ) × (below : List Step) × IsChildFor behind (V at) i × IsWayTo V behind level (slice_index (V at).children i) below
    × (way ≡ below ++ record { node = at; place = i } ∷ [])

-- to what that child leads
abbrev pub LeadsTo : Reading → (List ℕ → Bool) → ℕ → ℕ → ℕ → Type 0
LeadsTo V behind level at leaf = (node : Node) × (i : ℕ) × EndsAt V behind level at node i × (leaf ≡ slice_index node.children i)

-- why a node of this kind, which is to stand at this level, is not one
abbrev pub IsStop : List ℕ → Kind → ℕ → ℕ → NodeFault → Type 0
IsStop image kind level at fault =
    IsRefusedAt image kind at fault ⊎ ((fault ≡ NodeForm) × (MayStandAt level (node_at image kind at) → ⊥))

-- why there is no way down from such a node: for what it is itself, or for what stands below the child that is taken
abbrev pub StopsDescent : List ℕ → Kind → (List ℕ → Bool) → ℕ → ℕ → NodeFault → Type 0
StopsDescent image kind behind zero at fault = IsStop image kind zero at fault
StopsDescent image kind behind (suc level) at fault =
    IsStop image kind (suc level) at fault ⊎ ((i : ℕ) × IsChildFor behind (node_at image kind at) i
    × StopsDescent image kind behind level (slice_index (node_at image kind at).children i) fault)

-- the same from a root, which may be without children at level 0
abbrev pub StopsFromRoot : List ℕ → Kind → (List ℕ → Bool) → ℕ → NodeFault → Type 0
StopsFromRoot image kind behind root fault =
    IsRefusedAt image kind root fault ⊎ (((fault ≡ NodeForm) × (MayBeRoot (node_at image kind root) → ⊥))
    ⊎ StopsDescent image kind behind (node_at image kind root).level root fault)

-- a node of one of a tree's rows, all of whose nodes are formed, have children, and lie in the image
pub record IsInRow (image : List ℕ) (kind : Kind) (owned : List ℕ) (level : ℕ) (row : List ℕ) (at : ℕ) : Type 0 where
  pub formed : AllByRecursion (λ a. IsNode kind (node_bytes image kind a)) owned
  pub filled : AllByRecursion (λ a. 1 ≤ entries_in (node_bytes image kind a)) owned
  pub inside : Inside (length image) (tree_blocks kind owned)
  pub low : level ≤ highest_level
  pub rows : AreRows (reading_of image kind owned) level row
  pub here : Contains row at

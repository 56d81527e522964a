-- The order of the keys of a tree, and of what stands between them, from a node down (File Format Specification 3.0, section
-- III.A.1).
use Rattle.std.specs.Prelude.{ℕ, zero, suc, List, [], ◌∷◌}
use Rattle.std.specs.List.{AllByRecursion}
use Rattle.h5_model.specs.Format.Rows.{Node, Reading, nodes}
use Rattle.h5_laws.specs.Ladders.{Bottom, IsOrderedBy, Sides}
use Rattle.h5_btree.specs.Walk.Below.{IsBottom, IsStanding, reading_in}
use Rattle.h5_btree.specs.Walk.Forms.{TreeForm}

-- at height 0 a leaf stands at this address; above that a node, of the level below the height, over such as these
abbrev pub HasSubtree : List ℕ → TreeForm → ℕ → ℕ → Type 0
HasSubtree image form zero at = IsBottom image form at
HasSubtree image form (suc level) at =
    IsStanding image form level at × AllByRecursion (HasSubtree image form level) (reading_in image form at).children

-- this is known of the node, where it is of level 0, and above that of each node of level 0 below it
abbrev pub IsKnownFrom : (Node → Type 0) → Reading → ℕ → Node → Type 0
IsKnownFrom Known V zero node = Known node
IsKnownFrom Known V (suc level) node = AllByRecursion (λ at. IsKnownFrom Known V level (V at)) node.children

-- a node of this level and all nodes below it
abbrev pub nodes_from : List ℕ → TreeForm → ℕ → ℕ → List ℕ
nodes_from image form level at = nodes (reading_in image form) level (at ∷ [])

-- what stands below each child of the node at this address is between the keys around it
abbrev pub IsOrderedAt : {X : Type 0} → Sides (List ℕ) X → List ℕ → TreeForm → Bottom X → ℕ → Type 0
IsOrderedAt sides image form bottom at = IsOrderedBy sides (reading_in image form) bottom (reading_in image form at)

-- The tree of keys that the nodes of a B-tree are, by what is read at each address (File Format Specification 3.0, section III.A.1).
use Rattle.std.specs.Prelude.{ℕ, zero, suc, List, [], ◌∷◌, map}
use Rattle.h5_model.specs.Format.Rows.{Reading}
use Rattle.h5_model.specs.Format.Nodes.{Kind, node_at}
use Rattle.h5_laws.specs.Ladders.{Sides}
use Rattle.h5_laws.specs.KeyTrees.{KeyTree, IsSorted, items_in}

-- what stands at a child of a node of level 0, by the key before the child and the child's address
abbrev pub AtChild : Type 0 → Type 0
AtChild B = List ℕ → ℕ → B

-- what stands at each of these children, before each of which stands its key
abbrev pub at_children : {B : Type 0} → AtChild B → List (List ℕ) → List ℕ → List B
at_children at [] children = []
at_children at (k ∷ keys) [] = []
at_children at (k ∷ keys) (c ∷ children) = at k c ∷ at_children at keys children

-- what stands below each child of a node of this level, whose keys and children these are
abbrev pub trees_below : {B : Type 0} → Reading → AtChild B → (level : ℕ) → List (List ℕ) → List ℕ → List (KeyTree (List ℕ) B level)
trees_below V at zero keys children = at_children at keys children
trees_below V at (suc level) keys children = map (λ n. ((V n).keys, trees_below V at level (V n).keys (V n).children)) children

-- the tree of keys from the node of this level at an address down
abbrev pub keys_from : {B : Type 0} → Reading → AtChild B → (level : ℕ) → ℕ → KeyTree (List ℕ) B (suc level)
keys_from V at level n = ((V n).keys, trees_below V at level (V n).keys (V n).children)

-- the keys of the tree at this root in an image are in order, with what stands at its bottom
abbrev pub IsInOrder : {B X : Type 0} → Sides (List ℕ) X → (B → List X) → (B → Type 0) → List ℕ → Kind → AtChild B → ℕ → ℕ → Type 0
IsInOrder sides items Base image kind at level root = IsSorted sides items Base (suc level) (keys_from (node_at image kind) at level root)

-- what stands at its bottom, from left to right
abbrev pub items_of_tree : {B X : Type 0} → (B → List X) → List ℕ → Kind → AtChild B → ℕ → ℕ → List X
items_of_tree items image kind at level root = items_in (List ℕ) items (suc level) (keys_from (node_at image kind) at level root)

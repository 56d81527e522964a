-- Trees of keys by themselves, with no image: a node's keys, and what stands below each of its children (File Format Specification 3.0,
-- section III.A.1). K are the keys, B is what stands at the bottom, and X are the items in it.
use Rattle.std.specs.Prelude.{ℕ, zero, suc, List, map}
use Rattle.std.specs.List.{flat_map, AllByRecursion}
use Rattle.h5_laws.specs.Ladders.{Sides, IsLadder}

-- by its height: at height 0 what stands at a child of a node of level 0; above that the keys of a node, and what stands below each child
abbrev pub KeyTree : Type 0 → Type 0 → ℕ → Type 0
KeyTree K B zero = B
KeyTree K B (suc height) = List K × List (KeyTree K B height)

-- its items, from left to right
abbrev pub items_in : (K : Type 0) {B X : Type 0} → (B → List X) → (height : ℕ) → KeyTree K B height → List X
items_in K items zero b = items b
items_in K items (suc height) node = flat_map (items_in K items height) node.1

-- what stands at the bottom is as it has to be, and the items below each child of a node lie between the keys around it
abbrev pub IsSorted : {K B X : Type 0} → Sides K X → (B → List X) → (B → Type 0) → (height : ℕ) → KeyTree K B height → Type 0
IsSorted sides items Base zero b = Base b
IsSorted {K} sides items Base (suc height) node =
    IsLadder sides node.0 (map (items_in K items height) node.1) × AllByRecursion (IsSorted sides items Base height) node.1

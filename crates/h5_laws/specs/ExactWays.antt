-- Exact keys of a tree of keys whose end keys were moved to let an item in (File Format Specification 3.0, section III.A.1).
use Rattle.std.specs.Prelude.{◌≡◌, ◌⊎◌, ℕ, zero, suc, List, [], ◌∷◌, Option, Some, ⊤}
use Rattle.h5_laws.specs.Ladders.{Sides}
use Rattle.h5_laws.specs.KeyTrees.{KeyTree, items_in}
use Rattle.h5_laws.specs.ExactKeys.{IsBehind, IsFirstKey, IsExact, on_edge}

-- Each child is as the relation has it, by the key before it if it is not on the left edge, and by the keys around it.
abbrev pub AreAround : {K Y : Type 0} (R : Option K → K → Y → K → Type 0) → Option K → List K → List Y → Type 0
AreAround R before [] cs = ⊥
AreAround R before (k ∷ []) [] = ⊤
AreAround R before (k ∷ []) (c ∷ cs) = ⊥
AreAround R before (k ∷ j ∷ keys) [] = ⊥
AreAround R before (k ∷ j ∷ keys) (c ∷ cs) = R (on_edge before k) k c j × AreAround R (Some k) (j ∷ keys) cs

-- the first of the keys of a node
abbrev pub IsFirstOf : {K : Type 0} (spared : K → Type 0) (lowest : K) → Option K → List K → Type 0
IsFirstOf spared lowest before [] = ⊥
IsFirstOf spared lowest before (k ∷ keys) = IsFirstKey spared lowest before k

-- THE KEYS OF A TREE ARE EXACT, but for those that were moved to let this item in: behind a child, between the keys around which it lies,
-- may stand its own key already.
abbrev pub IsExactFor : {K B X : Type 0} (sides : Sides K X) (x : X) (key_of : X → K) (lowest : K) (items : B → List X) (height : ℕ)
    → Option K → KeyTree K B height → Type 0
IsExactFor sides x key_of lowest items zero before b = ⊤
IsExactFor {K} {B} sides x key_of lowest items (suc height) before node =
    IsFirstOf (λ i. ⊥) lowest before node.0
    × AreAround (λ (e : Option K) (k : K) (c : KeyTree K B height) (j : K).
    (IsBehind (λ i. ⊥) key_of k (items_in K items height c) j × IsExact (λ i. ⊥) key_of lowest items height e c)
    ⊎ (sides.Right k x × sides.Left x j × IsBehind (λ i. i ≡ key_of x) key_of k (items_in K items height c) j
    × IsExactFor sides x key_of lowest items height e c)) before node.0 node.1

-- Exact keys of a tree of keys: the key behind a child is that of the last item below it, so that a key says where its item stands (File
-- Format Specification 3.0, section III.A.1).
use Rattle.std.specs.Prelude.{◌≡◌, ◌⊎◌, ℕ, zero, suc, List, [], ◌∷◌, ◌++◌, Option, None, Some, map, ⊤}
use Rattle.std.specs.List.{AllByRecursion}
use Rattle.h5_laws.specs.KeyTrees.{KeyTree, items_in}

-- The key behind a child, below which these items stand: that of the last of them, or, where there is none, the key before the child. Some
-- keys are spared.
abbrev pub IsBehind : {K X : Type 0} (spared : K → Type 0) (key_of : X → K) (before : K) → List X → K → Type 0
IsBehind {K} {X} spared key_of before xs k =
    spared k ⊎ (((xs ≡ []) × (k ≡ before)) ⊎ ((y : X) × (front : List X) × (xs ≡ front ++ y ∷ []) × (k ≡ key_of y)))

-- the keys behind the children of a node, one after another
abbrev pub AreBehind : {K X : Type 0} (spared : K → Type 0) (key_of : X → K) (before : K) → List K → List (List X) → Type 0
AreBehind spared key_of before [] [] = ⊤
AreBehind spared key_of before [] (xs ∷ lists) = ⊥
AreBehind spared key_of before (k ∷ keys) [] = ⊥
AreBehind spared key_of before (k ∷ keys) (xs ∷ lists) = IsBehind spared key_of before xs k × AreBehind spared key_of k keys lists

-- The first key of a node: on the left edge of the tree any, and else the lowest, or the key before the node in the one above.
abbrev pub IsFirstKey : {K : Type 0} (spared : K → Type 0) (lowest : K) → Option K → K → Type 0
IsFirstKey spared lowest None k = ⊤
IsFirstKey spared lowest (Some before) k = spared k ⊎ ((k ≡ lowest) ⊎ (k ≡ before))

-- the keys of a node
abbrev pub AreExact : {K X : Type 0} (spared : K → Type 0) (key_of : X → K) (lowest : K) → Option K → List K → List (List X) → Type 0
AreExact spared key_of lowest before [] lists = ⊥
AreExact spared key_of lowest before (k ∷ keys) lists = IsFirstKey spared lowest before k × AreBehind spared key_of k keys lists

-- the key before a child: the first one of a node on the left edge is on that edge too
abbrev pub on_edge : {K : Type 0} → Option K → K → Option K
on_edge None k = None
on_edge (Some before) k = Some k

-- each of these children is as it has to be behind its key
abbrev pub AreAllBehind : {K Y : Type 0} (R : Option K → Y → Type 0) → Option K → List K → List Y → Type 0
AreAllBehind R before keys [] = ⊤
AreAllBehind R before [] (c ∷ cs) = ⊥
AreAllBehind R before (k ∷ keys) (c ∷ cs) = R (on_edge before k) c × AreAllBehind R (Some k) keys cs

-- THE KEYS OF A TREE ARE EXACT, but for those that are spared. The key is the one before the tree; none on the left edge.
abbrev pub IsExact : {K B X : Type 0} (spared : K → Type 0) (key_of : X → K) (lowest : K) (items : B → List X) (height : ℕ)
    → Option K → KeyTree K B height → Type 0
IsExact spared key_of lowest items zero before b = ⊤
IsExact {K} spared key_of lowest items (suc height) before node =
    AreExact spared key_of lowest before node.0 (map (items_in K items height) node.1)
    × AreAllBehind (IsExact spared key_of lowest items height) before node.0 node.1

-- each key of the tree is so
abbrev pub EachKey : {K : Type 0} (B : Type 0) (P : K → Type 0) (height : ℕ) → KeyTree K B height → Type 0
EachKey B P zero b = ⊤
EachKey B P (suc height) node = AllByRecursion P node.0 × AllByRecursion (EachKey B P height) node.1

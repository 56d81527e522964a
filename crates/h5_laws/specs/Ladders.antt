-- Ladders: the keys of a node of a B-tree, and what stands between each of them and the next (File Format Specification 3.0, section
-- III.A.1). Trees of groups and of chunks differ in what a key is, in what stands between keys, and in what may stand on the two sides
-- of a key: these are parameters.
use Rattle.std.specs.Prelude.{ℕ, zero, suc, ◌+◌, ◌<◌, List, [], ◌∷◌, map, length, slice_index_or, ⊤}
use Rattle.std.specs.List.{AllByRecursion, flat_map}
use Rattle.h5_model.specs.Format.Rows.{Node, Reading}

-- what may stand to the right of a key, and what to its left; and which key may be the next one
pub record Sides (K X : Type 0) : Type 1 where
  pub Right : K → X → Type 0
  pub Left : X → K → Type 0
  pub Rise : K → K → Type 0

-- these stand between two keys
abbrev pub LieBetween : {K X : Type 0} → Sides K X → K → K → List X → Type 0
LieBetween sides low high xs = AllByRecursion (λ x. sides.Right low x × sides.Left x high) xs

-- Each list stands between its key and the next, which may be the next one; there is one key more than there are lists.
abbrev pub IsLadder : {K X : Type 0} → Sides K X → List K → List (List X) → Type 0
IsLadder sides [] lists = ⊥
IsLadder sides (k ∷ []) [] = ⊤
IsLadder sides (k ∷ []) (xs ∷ lists) = ⊥
IsLadder sides (k ∷ l ∷ keys) [] = ⊥
IsLadder sides (k ∷ l ∷ keys) (xs ∷ lists) = LieBetween sides k l xs × sides.Rise k l × IsLadder sides (l ∷ keys) lists

-- each key may be followed by itself, and by what may follow one that may follow it; what a key admits on its right, lesser ones admit, and
-- what it admits on its left, greater ones do; none admits the same on both sides
pub record IsOrderly {K X : Type 0} (sides : Sides K X) : Type 0 where
  pub itself : (k : K) → sides.Rise k k
  pub rises : (k l m : K) → sides.Rise k l → sides.Rise l m → sides.Rise k m
  pub right : (k l : K) (x : X) → sides.Rise k l → sides.Right l x → sides.Right k x
  pub left : (x : X) (k l : K) → sides.Left x k → sides.Rise k l → sides.Left x l
  pub apart : (k : K) (x : X) → sides.Right k x → sides.Left x k → ⊥

-- the same by places: what stands at place i is between keys i and i + 1
pub record AreBetween {K X : Type 0} (sides : Sides K X) (key : ℕ → K) (list : ℕ → List X) (count : ℕ) : Type 0 where
  pub between : (i : ℕ) → i < count → LieBetween sides (key i) (key (i + 1)) (list i)
  pub rising : (i : ℕ) → i < count → sides.Rise (key i) (key (i + 1))

-- the key behind the last child of a row, where each says which key is behind it; or the key before them
abbrev pub last_key : {C K : Type 0} → (C → K) → K → List C → K
last_key key before [] = before
last_key key before (c ∷ cs) = last_key key (key c) cs

-- ---- trees

-- what stands at each child of a node of level 0
abbrev pub Bottom : Type 0 → Type 0
Bottom X = Node → List (List X)

-- what is in all lists
abbrev pub all_of : {X : Type 0} → List (List X) → List X
all_of lists = flat_map (λ xs. xs) lists

-- what stands below the node of this level at an address, from left to right
abbrev pub items_under : {X : Type 0} → Reading → Bottom X → ℕ → ℕ → List X
items_under V bottom zero at = all_of (bottom (V at))
items_under V bottom (suc level) at = flat_map (items_under V bottom level) (V at).children

-- what stands below each child of a node of this level
abbrev pub lists_below : {X : Type 0} → Reading → Bottom X → ℕ → Node → List (List X)
lists_below V bottom zero node = bottom node
lists_below V bottom (suc level) node = map (items_under V bottom level) node.children

-- what stands below each child of a node is between the keys around it, each of which may be the next one
abbrev pub IsOrderedBy : {X : Type 0} → Sides (List ℕ) X → Reading → Bottom X → Node → Type 0
IsOrderedBy sides V bottom node =
    AreBetween sides (λ i. slice_index_or node.keys i []) (λ i. slice_index_or (lists_below V bottom node.level node) i []) (length node.children)

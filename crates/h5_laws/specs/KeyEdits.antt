-- What an insertion and a removal make of a tree of keys.
use Rattle.std.specs.Prelude.{◌≡◌, ℕ, zero, suc, ◌+◌, ◌*◌, ◌≤◌, ◌⊎◌, List, [], ◌∷◌, ◌++◌, map, length, ⊤}
use Rattle.std.specs.List.{AllByRecursion}
use Rattle.h5_laws.specs.Ladders.{Sides}
use Rattle.h5_laws.specs.KeyTrees.{KeyTree, items_in}

-- what stands in place of a subtree: one, or two with a key between them
pub data Grown (K Y : Type 0) : Type 0 where
  One : Y → Grown K Y
  Two : Y → K → Y → Grown K Y

-- one item more, in its place
pub record IsPut {X : Type 0} (Below : X → X → Type 0) (x : X) (old new : List X) : Type 0 where
  pub front : List X
  pub back : List X
  pub before : old ≡ front ++ back
  pub after : new ≡ front ++ x ∷ back
  pub above : AllByRecursion (λ y. Below y x) front
  pub below : AllByRecursion (λ y. Below x y) back

-- one item less
pub record IsTaken {X : Type 0} (x : X) (old new : List X) : Type 0 where
  pub front : List X
  pub back : List X
  pub before : old ≡ front ++ x ∷ back
  pub after : new ≡ front ++ back

-- keys that let an item in at the two ends of a node: each that does not admit it may follow the low one, and may be followed by the high one
pub record LetIn {K X : Type 0} (sides : Sides K X) (x : X) (low high : K) : Type 0 where
  pub right : sides.Right low x
  pub left : sides.Left x high
  pub lower : (k : K) → (sides.Right k x → ⊥) → sides.Rise low k
  pub higher : (k : K) → (sides.Left x k → ⊥) → sides.Rise k high

-- The child of a node below which an item goes, and the keys l and h around it as they are then: the node's own, but for the first and
-- the last, which give way where they do not admit it.
pub record Descends {K X : Type 0} (sides : Sides K X) (x : X) (low high : K) (Y : Type 0) (keys : List K) (children : List Y) : Type 0 where
  pub kb : List K
  pub k : K
  pub j : K
  pub ka : List K
  pub xs : List Y
  pub child : Y
  pub ys : List Y
  pub l : K
  pub h : K
  pub keys_are : keys ≡ kb ++ k ∷ j ∷ ka
  pub children_are : children ≡ xs ++ child ∷ ys
  pub place : length kb ≡ length xs
  pub low_is : ((l ≡ k) × sides.Right k x) ⊎ ((kb ≡ []) × (l ≡ low) × (sides.Right k x → ⊥))
  pub high_is : ((h ≡ j) × sides.Left x j) ⊎ ((ka ≡ []) × (h ≡ high) × (sides.Left x j → ⊥))

-- a key that comes up from below, held between the keys around its place
abbrev pub IsHeld : {K X : Type 0} → Sides K X → K → K → K → K → Type 0
IsHeld sides l h u v =
    ((v ≡ l) × (sides.Rise l u → ⊥)) ⊎ (((v ≡ h) × (sides.Rise u h → ⊥)) ⊎ ((v ≡ u) × sides.Rise l u × sides.Rise u h))

-- the node's keys and children with what has grown from the child
abbrev pub Widens : {K X : Type 0} (sides : Sides K X) (x : X) (low high : K) (Y : Type 0) (keys : List K) (children : List Y)
    → Descends sides x low high Y keys children → Grown K Y → List K → List Y → Type 0
Widens sides x low high Y keys children w (One a) keys' children' = (keys' ≡ w.kb ++ w.l ∷ w.h ∷ w.ka) × (children' ≡ w.xs ++ a ∷ w.ys)
Widens {K} sides x low high Y keys children w (Two a u b) keys' children' =
    (v : K) × IsHeld sides w.l w.h u v × (keys' ≡ w.kb ++ w.l ∷ v ∷ w.h ∷ w.ka) × (children' ≡ w.xs ++ a ∷ b ∷ w.ys)

-- A node in two halves, which share the key between them. Only what a full node has with one child more is split, and each half has K
-- children or more.
pub record IsHalved {K Y : Type 0} (k : ℕ) (keys : List K) (children : List Y) (p : List K × List Y) (m : K) (q : List K × List Y) : Type 0 where
  pub lk : List K
  pub rk : List K
  pub keys_are : keys ≡ lk ++ m ∷ rk
  pub children_are : children ≡ p.1 ++ q.1
  pub left : p.0 ≡ lk ++ m ∷ []
  pub right : q.0 ≡ m ∷ rk
  pub place : length lk ≡ length p.1
  pub some_left : k ≤ length p.1
  pub some_right : k ≤ length q.1
  pub full : length p.1 + length q.1 ≡ 2 * k + 1

abbrev pub Fits : {K Y : Type 0} → ℕ → List K → List Y → Grown K (List K × List Y) → Type 0
Fits k keys children (One node) = (length children ≤ 2 * k) × (node.0 ≡ keys) × (node.1 ≡ children)
Fits k keys children (Two p m q) = IsHalved k keys children p m q

-- An item goes into a tree of this height, below the keys between which it lies; `Puts` is how it goes into what stands at the bottom.
abbrev pub Inserts : {K B X : Type 0} (sides : Sides K X) (Puts : B → Grown K B → Type 0) (k : ℕ) (x : X) (low high : K) (height : ℕ)
    → KeyTree K B height → Grown K (KeyTree K B height) → Type 0
Inserts sides Puts k x low high zero b r = Puts b r
Inserts {K} {B} sides Puts k x low high (suc height) node r =
    (w : Descends sides x low high (KeyTree K B height) node.0 node.1) × (r' : Grown K (KeyTree K B height))
    × Inserts sides Puts k x low high height w.child r'
    × ((keys : List K) × (children : List (KeyTree K B height)) × Widens sides x low high (KeyTree K B height) node.0 node.1 w r' keys children
    × Fits k keys children r)

-- The root of two halves is one level higher: over both, with the first key, the one between, and the last.
pub record IsRaised {K Y : Type 0} (p : List K × List Y) (m : K) (q : List K × List Y) (new : List K × List (List K × List Y)) : Type 0 where
  pub first : K
  pub rest : List K
  pub last : K
  pub init : List K
  pub first_is : p.0 ≡ first ∷ rest
  pub last_is : q.0 ≡ init ++ last ∷ []
  pub keys_are : new.0 ≡ first ∷ m ∷ last ∷ []
  pub children_are : new.1 ≡ p ∷ q ∷ []

-- ---- removal

-- the child of a node below which an item is, between the keys k and j
pub record Enters {K Y : Type 0} (keys : List K) (children : List Y) : Type 0 where
  pub kb : List K
  pub k : K
  pub j : K
  pub ka : List K
  pub xs : List Y
  pub child : Y
  pub ys : List Y
  pub keys_are : keys ≡ kb ++ k ∷ j ∷ ka
  pub children_are : children ≡ xs ++ child ∷ ys
  pub place : length kb ≡ length xs

-- nothing is left of it
abbrev pub IsEmptied : (K : Type 0) {B : Type 0} → (B → Type 0) → (height : ℕ) → KeyTree K B height → Type 0
IsEmptied K Empty zero b = Empty b
IsEmptied K Empty (suc height) node = node.1 ≡ []

-- An item goes from a tree of this height; `Takes` is how it goes from what stands at the bottom. A child of which nothing is left goes
-- too, with the key before it.
abbrev pub Removes : (K : Type 0) {B : Type 0} (Takes : B → B → Type 0) (Empty : B → Type 0) (height : ℕ) → KeyTree K B height → KeyTree K B height → Type 0
Removes K Takes Empty zero b c = Takes b c
Removes K {B} Takes Empty (suc height) node new =
    (w : Enters node.0 node.1) × (c : KeyTree K B height) × Removes K Takes Empty height w.child c
    × (((new.0 ≡ node.0) × (new.1 ≡ w.xs ++ c ∷ w.ys))
    ⊎ (IsEmptied K Empty height c × (new.0 ≡ w.kb ++ w.j ∷ w.ka) × (new.1 ≡ w.xs ++ w.ys)))

-- ---- keys retired

-- The keys of a node from this one on, of which those that are hit are replaced: by the key of the last item between it and the key
-- before, or where there is none by that key, as it is then.
abbrev pub AreRetired : {K X : Type 0} (hit : K → Type 0) (key_of : X → K) (before : K) (keys : List K) (lists : List (List X)) → List K → Type 0
AreRetired hit key_of before [] lists new = new ≡ []
AreRetired hit key_of before (k ∷ keys) [] new = ⊥
AreRetired hit key_of before (k ∷ keys) (xs ∷ lists) [] = ⊥
AreRetired {K} {X} hit key_of before (k ∷ keys) (xs ∷ lists) (k' ∷ new) =
    (((hit k → ⊥) × (k' ≡ k)) ⊎ ((hit k × (xs ≡ []) × (k' ≡ before))
    ⊎ (hit k × ((y : X) × (front : List X) × (xs ≡ front ++ y ∷ []) × (k' ≡ key_of y)))))
    × AreRetired hit key_of k' keys lists new

-- The first key of a node gives way to the lowest.
abbrev pub IsFirstRetired : {K : Type 0} → (K → Type 0) → K → K → K → Type 0
IsFirstRetired hit lowest k k' = ((hit k → ⊥) × (k' ≡ k)) ⊎ (hit k × (k' ≡ lowest))

-- the keys of a node
abbrev pub RetiresKeys : {K X : Type 0} (hit : K → Type 0) (key_of : X → K) (lowest : K) (keys : List K) (lists : List (List X)) → List K → Type 0
RetiresKeys hit key_of lowest [] lists new = new ≡ []
RetiresKeys hit key_of lowest (k ∷ keys) lists [] = ⊥
RetiresKeys hit key_of lowest (k ∷ keys) lists (k' ∷ new) = IsFirstRetired hit lowest k k' × AreRetired hit key_of k' keys lists new

-- these are one for one as the relation has it
abbrev pub AreAlike : {Y : Type 0} → (Y → Y → Type 0) → List Y → List Y → Type 0
AreAlike R [] [] = ⊤
AreAlike R [] (z ∷ zs) = ⊥
AreAlike R (y ∷ ys) [] = ⊥
AreAlike R (y ∷ ys) (z ∷ zs) = R y z × AreAlike R ys zs

-- each node's keys are retired, and what stands at the bottom stays
abbrev pub Retires : {K B X : Type 0} (hit : K → Type 0) (key_of : X → K) (lowest : K) (items : B → List X) (height : ℕ)
    → KeyTree K B height → KeyTree K B height → Type 0
Retires hit key_of lowest items zero b c = c ≡ b
Retires {K} {B} hit key_of lowest items (suc height) node new =
    RetiresKeys hit key_of lowest node.0 (map (items_in K items height) node.1) new.0
    × AreAlike (Retires hit key_of lowest items height) node.1 new.1

-- An edit on its way up a tree, by rows (File Format Specification 3.0, section III.A.1). A child comes into a node, which is split
-- where it is full, so that its new half comes in above; or a child goes from a node, which goes itself where it has no other.
use Rattle.std.specs.Prelude.{◌≡◌, ◌≢◌, ℕ, zero, suc, ◌<◌, ◌≤◌, List, [], ◌∷◌, ◌++◌, length, take, drop, slice_index}
use Rattle.std.specs.List.{insert, remove}
use Rattle.h5_bytes.specs.Bytes.{undefined_address}
use Rattle.h5_model.specs.Format.Rows.{Reading, next_row, IsRow, AreRows, leaves}
use Rattle.h5_btree.specs.declared.way.Step.{Step}

-- a place where no node of the tree is read: one of a level that no node has
abbrev pub IsNoNode : Reading → ℕ → Type 0
IsNoNode V n = 16 ≤ (V n).level

-- Where the node a of level m stands: p, of the row above, has it at place i. f and bk stand before and behind p in that row, and
-- front and back before and behind a in a's own.
pub record IsBelow (V : Reading) (m p i a : ℕ) (front back f bk : List ℕ) : Type 0 where
  pub place : i < length (V p).children
  pub child : slice_index (V p).children i ≡ a
  pub fronts : front ≡ next_row V f ++ take i (V p).children
  pub backs : back ≡ drop (suc i) (V p).children ++ next_row V bk
  pub row : IsRow V (suc m) undefined_address (f ++ p ∷ bk)

-- the way from the node a of level m up to the root: each node on it with the place of the one below
abbrev pub IsWay : Reading → ℕ → ℕ → List Step → ℕ → List ℕ → List ℕ → Type 0
IsWay V m root [] a front back = (a ≡ root) × (front ≡ []) × (back ≡ [])
IsWay V m root (s ∷ way) a front back =
    (f : List ℕ) × (bk : List ℕ) × IsBelow V m s.node s.place a front back f bk × IsWay V (suc m) root way s.node f bk

-- the row below a row of level m, and what stands at the bottom
abbrev pub AreUnder : Reading → ℕ → List ℕ → List ℕ → Type 0
AreUnder V zero low list = low ≡ list
AreUnder V (suc m) low list = AreRows V m low × (leaves V m low ≡ list)

-- the rows under the root, of this level, and what stands at the bottom
abbrev pub IsTreeOf : Reading → ℕ → ℕ → List ℕ → Type 0
IsTreeOf V level root list = AreRows V level (root ∷ []) × (leaves V level (root ∷ []) ≡ list)

-- The node p of level m, below this way, lacks a child: with it at place j the tree would have this list at the bottom.
pub record LacksChild (V : Reading) (m root p : ℕ) (way : List Step) (j child : ℕ) (list : List ℕ) : Type 0 where
  pub front : List ℕ
  pub back : List ℕ
  pub above : IsWay V m root way p front back
  pub row : IsRow V m undefined_address (front ++ p ∷ back)
  pub place : j ≤ length (V p).children
  pub under : AreUnder V m (next_row V front ++ (insert (V p).children j child ++ next_row V back)) list

-- The node p of level m, below this way, has a child too much: without the one at place i the tree would have this list at the bottom.
pub record IsOver (V : Reading) (m root p : ℕ) (way : List Step) (i : ℕ) (list : List ℕ) : Type 0 where
  pub front : List ℕ
  pub back : List ℕ
  pub above : IsWay V m root way p front back
  pub row : IsRow V m undefined_address (front ++ p ∷ back)
  pub place : i < length (V p).children
  pub under : AreUnder V m (next_row V front ++ (remove (V p).children i ++ next_row V back)) list

-- ---- what the calls do, node by node

-- a node has other children, and other keys; all other nodes stay
pub record Refills (V W : Reading) (p : ℕ) (children : List ℕ) : Type 0 where
  pub keys : List (List ℕ)
  pub node : W p ≡ record (V p) { keys = keys; children = children }
  pub others : (n : ℕ) → (V n).level < 16 → n ≢ p → W n ≡ V n

-- one child more, at place j
abbrev pub Adds : Reading → Reading → ℕ → ℕ → ℕ → Type 0
Adds V W p j child = Refills V W p (insert (V p).children j child)

-- the child at place i goes
abbrev pub Drops : Reading → Reading → ℕ → ℕ → Type 0
Drops V W p i = Refills V W p (remove (V p).children i)

-- One child more, at place j, and then those from some place on go to the new node q, which stands between p and its neighbour to
-- the right.
pub record Splits (V W : Reading) (p j child q : ℕ) : Type 0 where
  pub xs : List ℕ
  pub ys : List ℕ
  pub joined : xs ++ ys ≡ insert (V p).children j child
  pub keys : List (List ℕ)
  pub keys_q : List (List ℕ)
  pub at_p : W p ≡ record (V p) { right = q; keys = keys; children = xs }
  pub at_q : W q ≡ record { level = (V p).level; left = p; right = (V p).right; keys = keys_q; children = ys }
  pub at_next : (V (V p).right).level < 16 → W (V p).right ≡ record (V (V p).right) { left = q }
  pub others : (n : ℕ) → (V n).level < 16 → n ≢ p → n ≢ (V p).right → W n ≡ V n

-- One child more, at place j, and then all go to two new nodes p and q, which are the root's children now, one level higher.
pub record RaisesRoot (V W : Reading) (root j child : ℕ) : Type 0 where
  pub p : ℕ
  pub q : ℕ
  pub xs : List ℕ
  pub ys : List ℕ
  pub joined : xs ++ ys ≡ insert (V root).children j child
  pub keys : List (List ℕ)
  pub keys_p : List (List ℕ)
  pub keys_q : List (List ℕ)
  pub at_root : W root ≡ record { level = suc (V root).level; left = undefined_address; right = undefined_address; keys = keys; children = p ∷ q ∷ [] }
  pub at_p : W p ≡ record { level = (V root).level; left = undefined_address; right = q; keys = keys_p; children = xs }
  pub at_q : W q ≡ record { level = (V root).level; left = p; right = undefined_address; keys = keys_q; children = ys }
  pub others : (n : ℕ) → (V n).level < 16 → n ≢ root → W n ≡ V n

-- a node goes: its neighbours name each other
pub record Unlinks (V W : Reading) (p : ℕ) : Type 0 where
  pub at_left : (V (V p).left).level < 16 → W (V p).left ≡ record (V (V p).left) { right = (V p).right }
  pub at_right : (V (V p).right).level < 16 → W (V p).right ≡ record (V (V p).right) { left = (V p).left }
  pub others : (n : ℕ) → (V n).level < 16 → n ≢ p → n ≢ (V p).left → n ≢ (V p).right → W n ≡ V n

-- a root without children is at level 0
pub record EmptiesRoot (W : Reading) (root : ℕ) : Type 0 where
  pub keys : List (List ℕ)
  pub node : W root ≡ record { level = 0; left = undefined_address; right = undefined_address; keys = keys; children = [] }

-- keys alone are others
abbrev pub KeepsRows : Reading → Reading → Type 0
KeepsRows V W = (n : ℕ) → (keys : List (List ℕ)) × (W n ≡ record (V n) { keys = keys })

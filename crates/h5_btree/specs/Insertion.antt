-- An insertion on its way up a tree, in an image (File Format Specification 3.0, section III.A.1).
use Rattle.std.specs.Prelude.{◌≡◌, ◌==◌, ◌⊎◌, true, ℕ, ◌+◌, ◌*◌, ◌^◌, ◌<◌, ◌≤◌, List, [], ◌∷◌, suc, length, slice_index_or, take, drop, if◌then◌else◌, nat_lt}
use Rattle.std.specs.List.{AllByRecursion, insert, list_any}
use Rattle.h5_model.specs.Format.Limits.{highest_level}
use Rattle.h5_model.specs.Format.Nodes.{Kind, IsNode, HasTree, entries_in, node_at, node_bytes, reading_of, tree_blocks}
use Rattle.h5_space.specs.Space.{Space}
use Rattle.h5_space.specs.Moves.{Moves}
use Rattle.h5_space.specs.Whole.{IsApart}
use Rattle.h5_btree.specs.Climb.{LacksChild}
use Rattle.h5_btree.specs.Totals.{total, lacks_total}
use Rattle.h5_btree.specs.declared.way.Step.{Step}

-- The image t, which an insertion has made of s so far: the tree owned the nodes `owned`, and has these now; all of it is there but
-- one child of p.
pub record IsClimbing (s t : Space) (kind : Kind) (root m p : ℕ) (way : List Step) (j child : ℕ) (list owned own : List ℕ) : Type 0 where
  pub lacks : LacksChild (reading_of t.bytes kind own) m root p way j child list
  pub counts : (w : ℕ → ℕ) → total w own ≡ lacks_total w (reading_of t.bytes kind own) m root p way j child list lacks
  pub high : length way + m < 16
  pub formed : AllByRecursion (λ at. IsNode kind (node_bytes t.bytes kind at)) own
  pub filled : 1 ≤ length way + m → AllByRecursion (λ at. 1 ≤ entries_in (node_bytes t.bytes kind at)) own
  pub apart : IsApart (tree_blocks kind own) t.free (length t.bytes)
  pub short : length t.bytes < 2 ^ 64
  pub moves : Moves s t (tree_blocks kind owned) (tree_blocks kind own)

-- this is one of them
abbrev pub Owns : List ℕ → ℕ → Type 0
Owns own n = list_any (λ m. m == n) own ≡ true

-- a node has its keys, its children and its level still
abbrev pub KeepsEntries : List ℕ → List ℕ → Kind → ℕ → Type 0
KeepsEntries old new kind n =
    ((node_at new kind n).keys ≡ (node_at old kind n).keys) × ((node_at new kind n).children ≡ (node_at old kind n).children)
    × ((node_at new kind n).level ≡ (node_at old kind n).level)

-- how many children the left half of a full node has, where one more comes in at place j: the half that it comes into has K of them, or the
-- left one has one more than the right
abbrev pub left_count : ℕ → ℕ → ℕ
left_count k j = if nat_lt j k then k else k + 1

-- The node p is cut in two: with the key and the child put in at place j, its first children stay, and the others are those of the new node
-- q, which stands between p and its neighbour to the right.
pub record IsSplit (old new : List ℕ) (kind : Kind) (p j : ℕ) (key : List ℕ) (child q : ℕ) : Type 0 where
  pub left : node_at new kind p ≡ record (node_at old kind p) {
    right = q;
    keys = take (left_count kind.k j + 1) (insert (node_at old kind p).keys j key);
    children = take (left_count kind.k j) (insert (node_at old kind p).children j child);
  }
  pub right : node_at new kind q ≡ record (node_at old kind p) {
    left = p;
    keys = drop (left_count kind.k j) (insert (node_at old kind p).keys j key);
    children = drop (left_count kind.k j) (insert (node_at old kind p).children j child);
  }

-- The root is raised: with the key and the child put in at place j, its children are those of two new nodes, over which it stands, with the
-- first key of the left one, the key between them, and the last key of the right one.
pub record IsRootRaised (old new : List ℕ) (kind : Kind) (root j : ℕ) (key : List ℕ) (child p q : ℕ) : Type 0 where
  pub left : node_at new kind p ≡ record (node_at old kind root) {
    right = q;
    keys = take (left_count kind.k j + 1) (insert (node_at old kind root).keys j key);
    children = take (left_count kind.k j) (insert (node_at old kind root).children j child);
  }
  pub right : node_at new kind q ≡ record (node_at old kind root) {
    left = p;
    keys = drop (left_count kind.k j) (insert (node_at old kind root).keys j key);
    children = drop (left_count kind.k j) (insert (node_at old kind root).children j child);
  }
  pub over : node_at new kind root ≡ record (node_at old kind root) {
    level = suc (node_at old kind root).level;
    keys = slice_index_or (node_at new kind p).keys 0 [] ∷ slice_index_or (node_at new kind q).keys 0 []
        ∷ slice_index_or (node_at new kind q).keys (length (node_at new kind q).children) [] ∷ [];
    children = p ∷ q ∷ [];
  }

-- the keys and children of the two halves, p and q, of a node that was cut in two
pub record HasHalves (old new : List ℕ) (kind : Kind) (p j : ℕ) (key : List ℕ) (child q : ℕ) : Type 0 where
  pub left_keys : (node_at new kind p).keys ≡ take (left_count kind.k j + 1) (insert (node_at old kind p).keys j key)
  pub left : (node_at new kind p).children ≡ take (left_count kind.k j) (insert (node_at old kind p).children j child)
  pub right_keys : (node_at new kind q).keys ≡ drop (left_count kind.k j) (insert (node_at old kind p).keys j key)
  pub right : (node_at new kind q).children ≡ drop (left_count kind.k j) (insert (node_at old kind p).children j child)

-- the keys and children of a root and of the two nodes, l and r, over which it stands since it was raised
pub record HasRisen (old new : List ℕ) (kind : Kind) (root j : ℕ) (key : List ℕ) (child l r : ℕ) : Type 0 where
  pub left_keys : (node_at new kind l).keys ≡ take (left_count kind.k j + 1) (insert (node_at old kind root).keys j key)
  pub left : (node_at new kind l).children ≡ take (left_count kind.k j) (insert (node_at old kind root).children j child)
  pub right_keys : (node_at new kind r).keys ≡ drop (left_count kind.k j) (insert (node_at old kind root).keys j key)
  pub right : (node_at new kind r).children ≡ drop (left_count kind.k j) (insert (node_at old kind root).children j child)
  pub keys : (node_at new kind root).keys ≡ slice_index_or (node_at new kind l).keys 0 [] ∷ slice_index_or (node_at new kind r).keys 0 []
      ∷ slice_index_or (node_at new kind r).keys (length (node_at new kind r).children) [] ∷ []
  pub children : (node_at new kind root).children ≡ l ∷ r ∷ []
  pub level : (node_at new kind root).level ≡ suc (node_at old kind root).level

-- there is room in the node p, and a child and the key before it have come in at place j
pub record HasComeIn (old new : List ℕ) (kind : Kind) (p j : ℕ) (key : List ℕ) (child : ℕ) : Type 0 where
  pub roomy : length (node_at old kind p).children < 2 * kind.k
  pub keys : (node_at new kind p).keys ≡ insert (node_at old kind p).keys j key
  pub children : (node_at new kind p).children ≡ insert (node_at old kind p).children j child
  pub level : (node_at new kind p).level ≡ (node_at old kind p).level

-- What an insertion at the node p, below this way, makes of the nodes on it, where `keys` has the key for each level: the child and its key
-- come in, and the nodes above have theirs still; or the node is full, and is cut in two, so that the new half comes in above, behind the
-- old one; or the root is raised.
abbrev pub IsPutAlong : List ℕ → List ℕ → Kind → ℕ → List Step → ℕ → List ℕ → ℕ → Type 0
IsPutAlong old new kind p [] j keys child =
    HasComeIn old new kind p j (take kind.key_length keys) child
    ⊎ ((length (node_at old kind p).children ≡ 2 * kind.k)
    × ((l : ℕ) × (r : ℕ) × HasRisen old new kind p j (take kind.key_length keys) child l r))
IsPutAlong old new kind p (next ∷ above) j keys child =
    (HasComeIn old new kind p j (take kind.key_length keys) child
    × AllByRecursion (λ (step : Step). KeepsEntries old new kind step.node) (next ∷ above))
    ⊎ ((length (node_at old kind p).children ≡ 2 * kind.k)
    × ((q : ℕ) × HasHalves old new kind p j (take kind.key_length keys) child q
    × IsPutAlong old new kind next.node above (next.place + 1) (drop kind.key_length keys) q))

-- an insertion has come to the root, which can be raised
pub record MayRaise (t : Space) (kind : Kind) (root j child : ℕ) : Type 0 where
  pub start : Space
  pub level : ℕ
  pub list : List ℕ
  pub owned : List ℕ
  pub own : List ℕ
  pub climbs : IsClimbing start t kind root level root [] j child list owned own
  pub low : level < highest_level

-- an insertion has come to the node p, which is not the root
pub record MaySplit (t : Space) (kind : Kind) (p j child : ℕ) : Type 0 where
  pub start : Space
  pub root : ℕ
  pub level : ℕ
  pub next : Step
  pub above : List Step
  pub list : List ℕ
  pub owned : List ℕ
  pub own : List ℕ
  pub climbs : IsClimbing start t kind root level p (next ∷ above) j child list owned own

-- each node on the way has as many children as there is room for
abbrev pub IsFullWay : List ℕ → Kind → List Step → Type 0
IsFullWay image kind way = AllByRecursion (λ step. length (node_at image kind step.node).children ≡ 2 * kind.k) way

-- the root is at level 15, and would have to be raised
abbrev pub IsTooDeep : List ℕ → Kind → List Step → Type 0
IsTooDeep image kind way = (length way ≡ 16) × IsFullWay image kind way

-- an insertion has come to the node p, below this way; where all of it is full, the root can be raised
pub record HasClimbed (t : Space) (kind : Kind) (p : ℕ) (above : List Step) (j child : ℕ) : Type 0 where
  pub start : Space
  pub root : ℕ
  pub level : ℕ
  pub list : List ℕ
  pub owned : List ℕ
  pub own : List ℕ
  pub climbs : IsClimbing start t kind root level p above j child list owned own
  pub low : length (node_at t.bytes kind p).children ≡ 2 * kind.k → IsFullWay t.bytes kind above → length above + level < highest_level

-- what the insertion makes: the child stands at this place among those at the bottom
pub record IsChildPut (s t : Space) (kind : Kind) (root level : ℕ) (list owned own : List ℕ) : Type 0 where
  pub tree : HasTree t.bytes kind root level own list
  pub moves : Moves s t (tree_blocks kind owned) (tree_blocks kind own)

-- a root without children, whose block is not free
pub record IsEmptyTree (s : Space) (kind : Kind) (root : ℕ) (owned : List ℕ) : Type 0 where
  pub tree : HasTree s.bytes kind root 0 owned []
  pub apart : IsApart (tree_blocks kind owned) s.free (length s.bytes)
  pub short : length s.bytes < 2 ^ 64

-- A removal on its way up a tree, in an image (File Format Specification 3.0, section III.A.1).
use Rattle.std.specs.Prelude.{◌≡◌, ◌≢◌, ◌⊎◌, ℕ, ◌+◌, ◌^◌, ◌<◌, ◌≤◌, List, ◌∷◌, ◌++◌, length}
use Rattle.std.specs.List.{AllByRecursion, remove}
use Rattle.h5_bytes.specs.Bytes.{undefined_address}
use Rattle.h5_model.specs.Format.Rows.{Node, next_row, IsRow}
use Rattle.h5_model.specs.Format.Nodes.{Kind, IsNode, HasTree, entries_in, node_at, node_bytes, reading_of, tree_blocks}
use Rattle.h5_space.specs.Space.{Space}
use Rattle.h5_space.specs.Moves.{Moves}
use Rattle.h5_space.specs.Whole.{IsApart}
use Rattle.h5_btree.specs.Climb.{IsWay, IsOver}
use Rattle.h5_btree.specs.Insertion.{KeepsEntries}
use Rattle.h5_btree.specs.Totals.{total, over_total}
use Rattle.h5_btree.specs.declared.way.Step.{Step}

-- The image t, which a removal has made of s so far: the tree owned the nodes `owned`, and has these now; all of it is right but for
-- one child of p, which is too much.
pub record IsShrinking (s t : Space) (kind : Kind) (root m p : ℕ) (way : List Step) (i : ℕ) (list owned own : List ℕ) : Type 0 where
  pub over : IsOver (reading_of t.bytes kind own) m root p way i list
  pub counts : (w : ℕ → ℕ) → total w own ≡ over_total w (reading_of t.bytes kind own) m root p way i list over
  pub high : length way + m < 16
  pub formed : AllByRecursion (λ at. IsNode kind (node_bytes t.bytes kind at)) own
  pub filled : 1 ≤ length way + m → AllByRecursion (λ at. 1 ≤ entries_in (node_bytes t.bytes kind at)) own
  pub apart : IsApart (tree_blocks kind own) t.free (length t.bytes)
  pub short : length t.bytes < 2 ^ 64
  pub moves : Moves s t (tree_blocks kind owned) (tree_blocks kind own)
  pub entries : AllByRecursion (KeepsEntries s.bytes t.bytes kind) own

-- the node p has lost its child i and the key before it, and each other one has its keys and its children
abbrev pub LosesChild : ℕ → ℕ → ℕ → Node → Node → Type 0
LosesChild p i n old new =
    ((n ≡ p) × (new.keys ≡ remove old.keys i) × (new.children ≡ remove old.children i))
    ⊎ ((n ≢ p) × (new.keys ≡ old.keys) × (new.children ≡ old.children))

-- the node p has other children, and the tree is as high as it was; or p is the root, and is at level 0
abbrev pub StopsAt : Space → Kind → ℕ → ℕ → ℕ → Type 0
StopsAt s kind root level p =
    ((2 ≤ length (node_at s.bytes kind p).children) × (level ≡ (node_at s.bytes kind root).level))
    ⊎ ((length (node_at s.bytes kind p).children ≡ 1) × (p ≡ root) × (level ≡ 0))

-- What the removal makes: the child that stood at this place is not among those at the bottom. It stopped at the node p, which has lost
-- the child at place i and the key before it.
pub record IsChildTaken (s t : Space) (kind : Kind) (root level p i : ℕ) (list owned own : List ℕ) : Type 0 where
  pub tree : HasTree t.bytes kind root level own list
  pub moves : Moves s t (tree_blocks kind owned) (tree_blocks kind own)
  pub entries : AllByRecursion (λ n. LosesChild p i n (node_at s.bytes kind n) (node_at t.bytes kind n)) own
  pub stops : StopsAt s kind root level p

-- the same, where it stopped at one of these steps: each of those before had one child alone
abbrev pub IsTakenAlong : Space → Space → Kind → ℕ → List Step → List ℕ → List ℕ → Type 0
IsTakenAlong s t kind root steps list owned =
    (gone : List Step) × (step : Step) × (above : List Step) × (level : ℕ) × (own : List ℕ) × (steps ≡ gone ++ step ∷ above)
    × AllByRecursion (λ (g : Step). length (node_at s.bytes kind g.node).children ≡ 1) gone
    × IsChildTaken s t kind root level step.node step.place list owned own

-- a removal has come to this step, of those up to the root
pub record HasShrunk (t : Space) (kind : Kind) (step : Step) (above : List Step) : Type 0 where
  pub start : Space
  pub root : ℕ
  pub level : ℕ
  pub list : List ℕ
  pub owned : List ℕ
  pub own : List ℕ
  pub shrinks : IsShrinking start t kind root level step.node above step.place list owned own

-- The way ends in the tree at this root, at the child with the number k of those at its bottom; the tree's nodes and the free blocks are
-- apart.
pub record EndsInTree (s : Space) (kind : Kind) (root level : ℕ) (way : List Step) (owned list : List ℕ) (k : ℕ) : Type 0 where
  pub tree : HasTree s.bytes kind root level owned list
  pub apart : IsApart (tree_blocks kind owned) s.free (length s.bytes)
  pub short : length s.bytes < 2 ^ 64
  pub step : Step
  pub above : List Step
  pub way_is : way ≡ step ∷ above
  pub front : List ℕ
  pub back : List ℕ
  pub leads : IsWay (reading_of s.bytes kind owned) 0 root above step.node front back
  pub row : IsRow (reading_of s.bytes kind owned) 0 undefined_address (front ++ step.node ∷ back)
  pub place : step.place < length (reading_of s.bytes kind owned step.node).children
  pub number : k ≡ length (next_row (reading_of s.bytes kind owned) front) + step.place

-- it ends in some tree
abbrev pub EndsSomewhere : Space → Kind → List Step → Type 0
EndsSomewhere s kind way = (root : ℕ) × (level : ℕ) × (owned : List ℕ) × (list : List ℕ) × (k : ℕ) × EndsInTree s kind root level way owned list k

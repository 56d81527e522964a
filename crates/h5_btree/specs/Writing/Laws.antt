-- What is shown of trees in the plain layout: they read as their children, with the keys between them, and are in the order of these
-- (File Format Specification 3.0, section III.A.1).
use Rattle.std.specs.Prelude.{◌≡◌, ℕ, ◌+◌, ◌*◌, ◌^◌, ◌<◌, ◌≤◌, List, [], ◌∷◌, length}
use Rattle.std.specs.List.{AllByRecursion, Contains}
use Rattle.h5_bytes.specs.Bytes.{part}
use Rattle.h5_bytes.specs.Blocks.{Run}
use Rattle.h5_model.specs.Format.Limits.{highest_level}
use Rattle.h5_model.specs.Format.Superblock.{highest_k}
use Rattle.h5_model.specs.Format.Nodes.{Kind, HasTree, node_length, reading_of, tree_blocks}
use Rattle.h5_model.specs.Format.PlainLength.{nodes_over}
use Rattle.h5_model.specs.Format.Rows.{Node}
use Rattle.h5_laws.specs.Ladders.{Bottom, IsLadder, IsOrderedBy, Sides, IsOrderly}
use Rattle.h5_btree.specs.declared.write.child.Child.{Child}
use Rattle.h5_btree.specs.Writing.Written.{FitsKind, AllFit, keys_of, places_of, tree_bytes, root_level}

-- what stands at each of these children, which the key before a child and its address tell
abbrev pub lists_beside : {X : Type 0} → (List ℕ → ℕ → List X) → List (List ℕ) → List ℕ → List (List X)
lists_beside beside [] places = []
lists_beside beside (key ∷ keys) [] = []
lists_beside beside (key ∷ keys) (at ∷ places) = beside key at ∷ lists_beside beside keys places

-- so is what stands at each child of a node of level 0
abbrev pub IsBeside : {X : Type 0} → (List ℕ → ℕ → List X) → Bottom X → Type 0
IsBeside beside bottom = (node : Node) → length node.keys ≡ length node.children + 1 → bottom node ≡ lists_beside beside node.keys node.children

-- the keys of a node are among the first key and those behind these children
abbrev pub HasKeysOf : {K : Type 0} → (K → List ℕ) → K → List (Child K) → Node → Type 0
HasKeysOf bytes first children node = AllByRecursion (Contains (keys_of bytes first children)) node.keys

module _ {K : Type 0} (image : List ℕ) (kind : Kind) (bytes : K → List ℕ) (first : K) (at : ℕ) (children : List (Child K)) where
  -- The tree stands at this place, in consecutive nodes; its keys are the first key and those behind its children; and its nodes are
  -- ordered, by any sides of keys, wherever its children are.
  pub record HasPlainNodes : Type 1 where
    pub owned : List ℕ
    pub tree : HasTree image kind at (root_level kind.k (length children)) owned (places_of children)
    pub run : Run at (tree_blocks kind owned) (at + length (tree_bytes kind bytes first at children))
    pub keyed : AllByRecursion (λ n. HasKeysOf bytes first children (reading_of image kind owned n)) owned
    pub ordered : {X : Type 0} (sides : Sides (List ℕ) X) (beside : List ℕ → ℕ → List X) (bottom : Bottom X) → IsOrderly sides → IsBeside beside bottom
        → IsLadder sides (keys_of bytes first children) (lists_beside beside (keys_of bytes first children) (places_of children))
        → AllByRecursion (λ n. IsOrderedBy sides (reading_of image kind owned) bottom (reading_of image kind owned n)) owned

-- where its bytes stand, the tree does
abbrev pub TreeReads : Type 1
TreeReads = (K : Type 0) (image : List ℕ) (kind : Kind) (bytes : K → List ℕ) (first : K) (at : ℕ) (children : List (Child K))
    → 1 ≤ kind.k → kind.k ≤ highest_k → FitsKind kind bytes first → AllFit kind bytes children → AllByRecursion (λ n. n < 2 ^ 64) (places_of children)
    → root_level kind.k (length children) ≤ highest_level → at + length (tree_bytes kind bytes first at children) < 2 ^ 63
    → part at (length (tree_bytes kind bytes first at children)) image ≡ tree_bytes kind bytes first at children
    → HasPlainNodes image kind bytes first at children

-- it has as many bytes as its nodes
abbrev pub TreeLength : Type 1
TreeLength = (K : Type 0) (kind : Kind) (bytes : K → List ℕ) (first : K) (at : ℕ) (children : List (Child K))
    → 1 ≤ kind.k → FitsKind kind bytes first → AllFit kind bytes children
    → length (tree_bytes kind bytes first at children) ≡ nodes_over 64 (2 * kind.k) (length children) * node_length kind

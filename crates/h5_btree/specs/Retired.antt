-- Keys of a group's tree that give way to others: the first key of a node to the lowest one, and each other to the key of the last item
-- below the child before it, or, where there is none, to the key before it (File Format Specification 3.0, section III.A.1).
use Rattle.std.specs.Prelude.{◌≡◌, ◌⊎◌, ℕ, zero, suc, Bool, true, false, List, [], ◌∷◌, ◌++◌, Option, None, Some, length, map, slice_index_or, ⊤}
use Rattle.std.specs.List.{AllByRecursion, flat_map}
use Rattle.h5_model.specs.Format.Rows.{Reading}
use Rattle.h5_model.specs.Format.Nodes.{Kind, IsNode, HasTree, node_at, node_bytes, tree_blocks}
use Rattle.h5_laws.specs.KeyEdits.{Retires, RetiresKeys}
use Rattle.h5_space.specs.Space.{Space}
use Rattle.h5_space.specs.Moves.{Moves}
use Rattle.h5_space.specs.Whole.{IsApart}
use Rattle.h5_btree.specs.Held.{IsNodeThere}
use Rattle.h5_btree.specs.Insertion.{Owns}
use Rattle.h5_btree.specs.Keyed.{keys_from}
use Rattle.h5_btree.specs.Rewritten.{IsRewritten}

-- the key of the name at offset 0
abbrev pub lowest_key : List ℕ
lowest_key = 0 ∷ 0 ∷ 0 ∷ 0 ∷ 0 ∷ 0 ∷ 0 ∷ 0 ∷ []

-- the last of these keys, if there is one
abbrev pub IsLastOf : List (List ℕ) → Option (List ℕ) → Type 0
IsLastOf keys None = keys ≡ []
IsLastOf keys (Some key) = (front : List (List ℕ)) × (keys ≡ front ++ key ∷ [])

-- the keys of all items so many levels below an address, by those at each address of height 0
abbrev pub keys_below : Reading → (ℕ → List (List ℕ)) → ℕ → ℕ → List (List ℕ)
keys_below V keys zero at = keys at
keys_below V keys (suc height) at = flat_map (keys_below V keys height) (V at).children

-- nodes stand there and so many levels down, and below them what is over the bottom
abbrev pub StandsUnder : (ℕ → Type 0) → List ℕ → Kind → ℕ → ℕ → Type 0
StandsUnder stands image kind zero at = stands at
StandsUnder stands image kind (suc height) at =
    IsNodeThere image kind at × AllByRecursion (StandsUnder stands image kind height) (node_at image kind at).children

-- they are those of a tree that owns these nodes, with this list at its bottom
abbrev pub IsSubtree : Reading → List ℕ → List ℕ → ℕ → ℕ → Type 0
IsSubtree V owned list zero at = Owns list at
IsSubtree V owned list (suc height) at =
    Owns owned at × ((V at).level ≡ height) × AllByRecursion (IsSubtree V owned list height) (V at).children

-- ---- one node

-- the key to which the one at this place gives way, where these are the keys of the items below each child
abbrev pub IsKeyBefore : List (List (List ℕ)) → List (List ℕ) → ℕ → List ℕ → Type 0
IsKeyBefore lists keys zero key = key ≡ lowest_key
IsKeyBefore lists keys (suc i) key =
    ((slice_index_or lists i [] ≡ []) × (key ≡ slice_index_or keys i []))
    ⊎ ((y : List ℕ) × (front : List (List ℕ)) × (slice_index_or lists i [] ≡ front ++ y ∷ []) × (key ≡ y))

-- what the key at this place is then
abbrev pub IsKeyRetired : (List ℕ → Bool) → List (List (List ℕ)) → List (List ℕ) → ℕ → List ℕ → Type 0
IsKeyRetired hit lists keys i key =
    ((hit (slice_index_or keys i []) ≡ false) × (key ≡ slice_index_or keys i []))
    ⊎ ((hit (slice_index_or keys i []) ≡ true) × IsKeyBefore lists keys i key)

-- the keys of a node, one after another, from the first
abbrev pub AreKeysRetired : (List ℕ → Bool) → List (List (List ℕ)) → List (List ℕ) → List (List ℕ) → Type 0
AreKeysRetired hit lists keys new = RetiresKeys (λ (key : List ℕ). hit key ≡ true) (λ (key : List ℕ). key) lowest_key keys lists new

-- the node at this address was written, so that its keys are so
abbrev pub IsNodeRewritten : (List ℕ → Bool) → (List ℕ → ℕ → List (List ℕ)) → Space → Space → Kind → ℕ → ℕ → Type 0
IsNodeRewritten hit keys_at s t kind level at =
    (keys : List (List ℕ))
    × AreKeysRetired hit (map (keys_below (node_at s.bytes kind) (keys_at s.bytes) level) (node_at s.bytes kind at).children) (node_at s.bytes kind at).keys keys
    × IsRewritten s t kind at (record (node_at s.bytes kind at) { keys = keys })

-- ---- a tree

-- A tree of 8 bytes a key: no byte of it is free, what stands at its bottom stays where only nodes change, and neither the lowest key nor
-- one of an item is hit.
pub record IsRetirable (hit : List ℕ → Bool) (stands : List ℕ → ℕ → Type 0) (keys_at : List ℕ → ℕ → List (List ℕ)) (s : Space) (kind : Kind) (root level : ℕ)
    (owned list : List ℕ) : Type 0 where
  pub tree : HasTree s.bytes kind root level owned list
  pub apart : IsApart (tree_blocks kind owned) s.free (length s.bytes)
  pub width : kind.key_length ≡ 8
  pub lowest : hit lowest_key ≡ false
  pub named : AllByRecursion (λ at. AllByRecursion (λ (key : List ℕ). hit key ≡ false) (keys_at s.bytes at)) list
  pub stays : (t : Space) → Moves s t (tree_blocks kind owned) (tree_blocks kind owned)
      → AllByRecursion (λ at. stands t.bytes at × (keys_at t.bytes at ≡ keys_at s.bytes at)) list

-- it is a tree of some level, with some nodes
abbrev pub IsRetirableSomewhere : (List ℕ → Bool) → (List ℕ → ℕ → Type 0) → (List ℕ → ℕ → List (List ℕ)) → Space → Kind → ℕ → Type 0
IsRetirableSomewhere hit stands keys_at s kind root =
    (level : ℕ) × (owned : List ℕ) × (list : List ℕ) × IsRetirable hit stands keys_at s kind root level owned list

-- the keys of this node have given way, and it says what it said otherwise
abbrev pub IsNodeRetired : (List ℕ → Bool) → (List ℕ → ℕ → List (List ℕ)) → Space → Space → Kind → ℕ → Type 0
IsNodeRetired hit keys_at s t kind n =
    (keys : List (List ℕ)) × (node_at t.bytes kind n ≡ record (node_at s.bytes kind n) { keys = keys })
    × AreKeysRetired hit (map (keys_below (node_at s.bytes kind) (keys_at s.bytes) (node_at s.bytes kind n).level) (node_at s.bytes kind n).children) (node_at s.bytes kind n).keys keys

-- the keys of the node and of all below it have given way
abbrev pub AreRetiredBelow : (List ℕ → Bool) → (List ℕ → ℕ → List (List ℕ)) → Space → Space → Kind → ℕ → ℕ → Type 0
AreRetiredBelow hit keys_at s t kind zero at = ⊤
AreRetiredBelow hit keys_at s t kind (suc height) at =
    IsNodeRetired hit keys_at s t kind at × AllByRecursion (AreRetiredBelow hit keys_at s t kind height) (node_at s.bytes kind at).children

-- the same of a node of the tree, of some level
abbrev pub AreRetiredFrom : (List ℕ → Bool) → (List ℕ → ℕ → List (List ℕ)) → Space → Space → Kind → List ℕ → List ℕ → ℕ → Type 0
AreRetiredFrom hit keys_at s t kind owned list n =
    (level : ℕ) × IsSubtree (node_at s.bytes kind) owned list (suc level) n × AreRetiredBelow hit keys_at s t kind (suc level) n

-- The image t, which has been made of s so far: the keys of some nodes, and of those below them, have given way.
pub record IsRetiring (hit : List ℕ → Bool) (stands : List ℕ → ℕ → Type 0) (keys_at : List ℕ → ℕ → List (List ℕ)) (s t : Space) (kind : Kind) (root level : ℕ)
    (owned list : List ℕ) : Type 0 where
  pub start : IsRetirable hit stands keys_at s kind root level owned list
  pub nodes : AllByRecursion (λ n. (node_at t.bytes kind n ≡ node_at s.bytes kind n) ⊎ AreRetiredFrom hit keys_at s t kind owned list n) owned
  pub formed : AllByRecursion (λ n. IsNode kind (node_bytes t.bytes kind n)) owned
  pub moves : Moves s t (tree_blocks kind owned) (tree_blocks kind owned)

-- it has come to a node of this level
abbrev pub StandsSomewhere : (List ℕ → Bool) → (List ℕ → ℕ → Type 0) → (List ℕ → ℕ → List (List ℕ)) → Space → Kind → ℕ → ℕ → Type 0
StandsSomewhere hit stands keys_at t kind level at =
    (start : Space) × (root : ℕ) × (height : ℕ) × (owned : List ℕ) × (list : List ℕ) × IsRetiring hit stands keys_at start t kind root height owned list
    × IsSubtree (node_at start.bytes kind) owned list (suc level) at

-- so have those of each node whose keys had before
abbrev pub KeepsRetired : (List ℕ → Bool) → (List ℕ → ℕ → List (List ℕ)) → Space → Space → Space → Kind → List ℕ → Type 0
KeepsRetired hit keys_at s t u kind owned = (n : ℕ) → Owns owned n → IsNodeRetired hit keys_at s t kind n → IsNodeRetired hit keys_at s u kind n

-- What becomes of the tree: it has the same nodes and children, the keys of each node have given way, so those of the tree of keys have,
-- and none of them is hit.
pub record IsTreeRetired (hit : List ℕ → Bool) (keys_at : List ℕ → ℕ → List (List ℕ)) (s t : Space) (kind : Kind) (root level : ℕ) (owned list : List ℕ) : Type 0 where
  pub tree : HasTree t.bytes kind root level owned list
  pub moves : Moves s t (tree_blocks kind owned) (tree_blocks kind owned)
  pub nodes : AllByRecursion (IsNodeRetired hit keys_at s t kind) owned
  pub keys : Retires (λ (key : List ℕ). hit key ≡ true) (λ (key : List ℕ). key) lowest_key (λ (keys : List (List ℕ)). keys) (suc level)
      (keys_from (node_at s.bytes kind) (λ key at. keys_at s.bytes at) level root) (keys_from (node_at t.bytes kind) (λ key at. keys_at s.bytes at) level root)
  pub unhit : AllByRecursion (λ n. AllByRecursion (λ (key : List ℕ). hit key ≡ false) (node_at t.bytes kind n).keys) owned

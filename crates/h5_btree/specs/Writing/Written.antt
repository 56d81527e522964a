-- A tree in the plain layout: the root, and then its rows from the top, each node filled from the left; the last takes the rest (File
-- Format Specification 3.0, section III.A.1). Parameters are the kind of the tree, the bytes of its keys, and its first key.
use Rattle.std.specs.Prelude.{◌≡◌, ℕ, zero, suc, ◌+◌, ◌*◌, nat_le, if◌then◌else◌, List, [], ◌∷◌, ◌++◌, map, length, take, drop}
use Rattle.std.specs.List.{AllByRecursion}
use Rattle.h5_bytes.specs.Bytes.{undefined_address}
use Rattle.h5_model.specs.Format.Nodes.{Kind, node_length}
use Rattle.h5_model.specs.Format.Plain.{node_bytes_of}
use Rattle.h5_model.specs.Format.PlainLength.{rows_of, nodes_over}
use Rattle.h5_laws.specs.Ladders.{last_key}
use Rattle.h5_btree.specs.declared.write.child.Child.{Child}

-- lists of m from the left, the last of which takes the rest; the first number is as many cuts as there may be
abbrev pub cut_into_lists : {X : Type 0} → ℕ → ℕ → List X → List (List X)
cut_into_lists zero m xs = xs ∷ []
cut_into_lists (suc n) m xs = if nat_le (length xs) m then xs ∷ [] else take m xs ∷ cut_into_lists n m (drop m xs)

-- of nothing, one list without anything
abbrev pub chunks : {X : Type 0} → ℕ → List X → List (List X)
chunks m xs = cut_into_lists (length xs) m xs

-- ---- counts

-- where a row over so many children begins: behind the rows over it
abbrev pub row_place : ℕ → Kind → ℕ → ℕ → ℕ
row_place levels kind at n = at + nodes_over levels (2 * kind.k) (rows_of (2 * kind.k) n) * node_length kind

-- the level of the root over so many children
abbrev pub level_over : ℕ → ℕ → ℕ → ℕ
level_over zero m n = 0
level_over (suc levels) m n = if nat_le n m then 0 else 1 + level_over levels m (rows_of m n)

unfoldable pub root_level : ℕ → ℕ → ℕ
root_level k n = level_over 64 (2 * k) n

-- ---- nodes

module _ {K : Type 0} where
  -- the key behind these children, or the one before them
  abbrev pub last_below : K → List (Child K) → K
  last_below before cs = last_key (λ (c : Child K). c.key) before cs

  abbrev pub places_of : List (Child K) → List ℕ
  places_of cs = map (λ (c : Child K). c.at) cs

  -- the keys of a node over these children: the one before them, and the one behind each
  abbrev pub keys_of : (K → List ℕ) → K → List (Child K) → List (List ℕ)
  keys_of bytes before cs = bytes before ∷ map (λ (c : Child K). bytes c.key) cs

  -- a key has the length that keys of this kind have; and so have those behind children
  abbrev pub FitsKind : Kind → (K → List ℕ) → K → Type 0
  FitsKind kind bytes key = length (bytes key) ≡ kind.key_length

  abbrev pub AllFit : Kind → (K → List ℕ) → List (Child K) → Type 0
  AllFit kind bytes cs = AllByRecursion (λ (c : Child K). FitsKind kind bytes c.key) cs

-- ---- rows

module _ {K : Type 0} (kind : Kind) where
  -- the address of a node to the right
  abbrev pub right_of : ℕ → List (List (Child K)) → ℕ
  right_of at [] = undefined_address
  right_of at (c ∷ cs) = at + node_length kind

  -- these nodes, the first of them at this place, as the children of the next row
  abbrev pub as_children : ℕ → K → List (List (Child K)) → List (Child K)
  as_children at before [] = []
  as_children at before (c ∷ cs) = record { at = at; key = last_below before c } ∷ as_children (at + node_length kind) (last_below before c) cs

module _ {K : Type 0} (kind : Kind) (bytes : K → List ℕ) where
  -- the nodes of a row: their level, the left neighbour of the first, the key before it, and its place
  abbrev pub row_bytes : ℕ → ℕ → K → ℕ → List (List (Child K)) → List ℕ
  row_bytes level left before at [] = []
  row_bytes level left before at (c ∷ cs) =
      node_bytes_of kind level left (right_of kind at cs) (keys_of bytes before c) (places_of c)
      ++ row_bytes level at (last_below before c) (at + node_length kind) cs

  module _ (first : K) where
    -- the rows from this level up, over these children, with at most so many levels
    abbrev pub rows_bytes : ℕ → ℕ → ℕ → List (Child K) → List ℕ
    rows_bytes zero level at children = []
    rows_bytes (suc levels) level at children =
        if nat_le (length children) (2 * kind.k)
        then row_bytes level undefined_address first at (children ∷ [])
        else rows_bytes levels (level + 1) at (as_children kind (row_place levels kind at (length children)) first (chunks (2 * kind.k) children))
        ++ row_bytes level undefined_address first (row_place levels kind at (length children)) (chunks (2 * kind.k) children)

    -- the whole tree, with its root at this place
    unfoldable pub tree_bytes : ℕ → List (Child K) → List ℕ
    tree_bytes at children = rows_bytes 64 0 at children

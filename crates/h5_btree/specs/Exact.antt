-- Exact keys of a group's tree, as its nodes are read: the key behind a child is that of the last item below it (File Format Specification
-- 3.0, section III.A.1).
use Rattle.std.specs.Prelude.{◌≡◌, ◌⊎◌, ℕ, zero, suc, List, Option, None, Some, ⊤}
use Rattle.h5_model.specs.Format.Rows.{Reading}
use Rattle.h5_laws.specs.ExactKeys.{IsExact, on_edge}
use Rattle.h5_laws.specs.KeyTrees.{KeyTree}
use Rattle.h5_btree.specs.Keyed.{keys_from}
use Rattle.h5_btree.specs.Retired.{lowest_key}

-- The keys of the tree from the node of this level at an address down are exact, but for those that are spared. These are the keys of the
-- items at each address at the bottom.
abbrev pub AreKeysExact : (List ℕ → Type 0) → (ℕ → List (List ℕ)) → Reading → ℕ → ℕ → Type 0
AreKeysExact spared keys V level root =
    IsExact spared (λ (key : List ℕ). key) lowest_key (λ (b : List (List ℕ)). b) (suc level) None (keys_from V (λ key at. keys at) level root)

-- ---- each node by itself

-- what stands so many levels below an address
abbrev pub subtree_at : Reading → (ℕ → List (List ℕ)) → (height : ℕ) → ℕ → KeyTree (List ℕ) (List (List ℕ)) height
subtree_at V keys zero at = keys at
subtree_at V keys (suc level) at = keys_from V (λ key at. keys at) level at

-- its keys are exact, behind this key
abbrev pub IsExactBelow : Reading → (ℕ → List (List ℕ)) → ℕ → Option (List ℕ) → ℕ → Type 0
IsExactBelow V keys height before at =
    IsExact (λ (k : List ℕ). ⊥) (λ (key : List ℕ). key) lowest_key (λ (b : List (List ℕ)). b) height before (subtree_at V keys height at)

-- the first key of a node behind this key
abbrev pub IsKeyFirst : Option (List ℕ) → List ℕ → Type 0
IsKeyFirst None key = ⊤
IsKeyFirst (Some before) key = (key ≡ lowest_key) ⊎ (key ≡ before)

-- the key behind a child, which stands behind this key, and below which this is the key of the last item
abbrev pub IsBehindChild : List ℕ → Option (List ℕ) → List ℕ → Type 0
IsBehindChild before None key = key ≡ before
IsBehindChild before (Some last) key = key ≡ last

-- the key before child i of a node, which stands behind this key
abbrev pub key_before : Option (List ℕ) → ℕ → List ℕ → Option (List ℕ)
key_before before zero key = on_edge before key
key_before before (suc i) key = Some key

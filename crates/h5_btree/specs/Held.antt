-- The keys that come in along a way with a child: each is the key between the halves of the node below, held between the keys around its
-- place (File Format Specification 3.0, section III.A.1).
use Rattle.std.specs.Prelude.{◌≡◌, ℕ, ◌+◌, ◌*◌, ◌<◌, ◌≤◌, Bool, List, [], ◌∷◌, ⊤, drop, length, slice_index_or, take, if◌then◌else◌}
use Rattle.std.specs.List.{insert}
use Rattle.h5_model.specs.Format.Nodes.{Kind, IsNode, entries_in, node_at, node_bytes, node_length}
use Rattle.h5_btree.specs.Insertion.{left_count}
use Rattle.h5_btree.specs.declared.way.Step.{Step}

-- a node stands at this address
abbrev pub IsNodeThere : List ℕ → Kind → ℕ → Type 0
IsNodeThere image kind at = (at + node_length kind ≤ length image) × IsNode kind (node_bytes image kind at)

-- and it has a child at this place
abbrev pub IsStepThere : List ℕ → Kind → Step → Type 0
IsStepThere image kind step = IsNodeThere image kind step.node × (step.place < entries_in (node_bytes image kind step.node))

-- the first key of the right half of a full node, where a key comes in at place j
abbrev pub key_between : List ℕ → Kind → ℕ → ℕ → List ℕ → List ℕ
key_between image kind p j key = slice_index_or (insert (node_at image kind p).keys j key) (left_count kind.k j) []

-- a key held between two others, by which may follow which
abbrev pub held_key : (List ℕ → List ℕ → Bool) → List ℕ → List ℕ → List ℕ → List ℕ
held_key follows low key high = if follows low key then (if follows key high then key else high) else low

-- Behind the key that comes into the node p at place j there is, as far as nodes are full, the key for each level above.
abbrev pub AreHeldKeys : List ℕ → Kind → (List ℕ → List ℕ → Bool) → ℕ → List Step → ℕ → List ℕ → Type 0
AreHeldKeys image kind follows p [] j keys = ⊤
AreHeldKeys image kind follows p (next ∷ above) j keys =
    length (node_at image kind p).children ≡ 2 * kind.k
    → (take kind.key_length (drop kind.key_length keys)
    ≡ held_key follows (slice_index_or (node_at image kind next.node).keys next.place [])
    (key_between image kind p j (take kind.key_length keys)) (slice_index_or (node_at image kind next.node).keys (next.place + 1) []))
    × AreHeldKeys image kind follows next.node above (next.place + 1) (drop kind.key_length keys)

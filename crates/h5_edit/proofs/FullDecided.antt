-- Whether a tree of chunks has no room for a chunk is decided (File Format Specification 3.0, section III.A.1).
use Rattle.std.proofs.Common.{◌≡◌, ℕ, zero, suc, ◌+◌, ◌*◌, ◌<◌, ◌⊎◌, inl, inr, List, [], ◌∷◌, ◌++◌, Bool, true, false, Some, None, length, refl, subst, arith}
use Rattle.std.proofs.lemmas.Bool.{cases_order}
use Rattle.std.specs.Prelude.{slice_index, slice_index_or}
use Rattle.h5_model.specs.Format.Limits.{highest_level}
use Rattle.h5_model.specs.Format.Layout.{Layout, InMessage, InBlock, InChunks}
use Rattle.h5_model.specs.Format.Nodes.{Kind, node_at}
use Rattle.h5_model.specs.Format.Reached.{Shape, shape_kind}
use Rattle.h5_model.specs.Format.Rows.{Node}
use Rattle.h5_model.specs.Format.Described.{Described}
use Rattle.h5_btree.specs.Descent.{IsChildFor, IsWayTo}
use Rattle.h5_btree.specs.Insertion.{IsFullWay}
use Rattle.h5_btree.specs.declared.way.Step.{Step}
use Rattle.h5_layout.specs.Way.{chunk_behind}
use Rattle.h5_layout.specs.Edited.{IsFullAt}
use Rattle.h5_layout.specs.Storage.{IsDeepIn}

-- it holds, or it does not
abbrev pub IsDecided : Type 0 → Type 0
IsDecided P = P ⊎ (P → ⊥)

decide_less : (m n : ℕ) → IsDecided (m < n)
decide_less m n = elim (cases_order m n) [
  | inl same ↦ inr (λ less. omega (arith, same, less))
  | inr (inl less) ↦ inl less
  | inr (inr more) ↦ inr (λ less. omega (arith, more, less))
]

decide_same : (m n : ℕ) → IsDecided (m ≡ n)
decide_same m n = elim (cases_order m n) [
  | inl same ↦ inl same
  | inr (inl less) ↦ inr (λ same. omega (arith, same, less))
  | inr (inr more) ↦ inr (λ same. omega (arith, same, more))
]

decide_test : (b c : Bool) → IsDecided (b ≡ c)
decide_test true true = inl refl
decide_test true false = inr (λ same. absurd (cc))
decide_test false true = inr (λ same. absurd (cc))
decide_test false false = inl refl

decide_both : {P Q : Type 0} → IsDecided P → IsDecided Q → IsDecided (P × Q)
decide_both (inl p) (inl q) = inl (p, q)
decide_both (inl p) (inr not) = inr (λ h. not h.1)
decide_both (inr not) q = inr (λ h. not h.0)

decide_if : {P Q : Type 0} → IsDecided P → IsDecided Q → IsDecided (P → Q)
decide_if (inl p) (inl q) = inl (λ _. q)
decide_if (inl p) (inr not) = inr (λ h. not (h p))
decide_if (inr not) q = inl (λ p. absurd (not p))

decide_some : (P : ℕ → Type 0) → ((i : ℕ) → IsDecided (P i)) → (n : ℕ) → IsDecided ((i : ℕ) × (i < n) × P i)
decide_some P each zero = inr (λ h. omega (arith, h.1))
decide_some P each (suc n) = elim (decide_some P each n) [
  | inl found ↦ inl (found.0, omega (arith, found.1), found.2)
  | inr none ↦ elim (each n) [
    | inl here ↦ inl (n, omega arith, here)
    | inr not ↦ inr (λ h. elim (decide_less h.0 n) [
      | inl low ↦ none (h.0, low, h.2)
      | inr high ↦ let last : h.0 ≡ n = omega (arith, h.1, cases_order h.0 n) in not (subst P last h.2)
    ])
  ]
]

decide_child : (behind : List ℕ → Bool) (node : Node) (i : ℕ) → IsDecided (IsChildFor behind node i)
decide_child behind node i = elim (decide_both (decide_less i (length node.children))
    (decide_both (decide_if (decide_less 0 i) (decide_test (behind (slice_index_or node.keys i [])) true))
    (decide_if (decide_less (i + 1) (length node.children)) (decide_test (behind (slice_index_or node.keys (i + 1) [])) false)))) [
      | inl is ↦ inl (record { child = is.0; low = is.1.0; high = is.1.1 })
      | inr not ↦ inr (λ is. not (is.child, (is.low, is.high)))
    ]

module _ (image : List ℕ) (kind : Kind) (behind : List ℕ → Bool) where
  abbrev IsFull : ℕ → Type 0
  IsFull at = length (node_at image kind at).children ≡ 2 * kind.k

  -- a way from a node of this level, each node on which is full
  abbrev pub HasFullWay : ℕ → ℕ → Type 0
  HasFullWay level at = (way : List Step) × IsWayTo (node_at image kind) behind level at way × IsFullWay image kind way

  full_parts : (below : List Step) (s : Step) → IsFullWay image kind (below ++ s ∷ []) → IsFullWay image kind below × IsFull s.node
  full_parts [] s full = (tt, full.0)
  full_parts (b ∷ below) s full = let rest = full_parts below s full.1 in ((full.0, rest.0), rest.1)

  full_joined : (below : List Step) (s : Step) → IsFullWay image kind below → IsFull s.node → IsFullWay image kind (below ++ s ∷ [])
  full_joined [] s full own = (own, tt)
  full_joined (b ∷ below) s full own = (full.0, full_joined below s full.1 own)

  pub full_way_decided : (level at : ℕ) → IsDecided (HasFullWay level at)
  full_way_decided zero at =
      let node = node_at image kind at in
      elim (decide_both (decide_same (length node.children) (2 * kind.k)) (decide_some (IsChildFor behind node) (decide_child behind node) (length node.children))) [
        | inl is ↦ inl (record { node = at; place = is.1.0 } ∷ [], (is.1.0, is.1.2, refl), (is.0, tt))
        | inr not ↦ inr (λ h. not ((subst (IsFullWay image kind) h.1.2 h.2).0, (h.1.0, h.1.1.child, h.1.1)))
      ]
  full_way_decided (suc level) at =
      let node = node_at image kind at in
      let Goes = λ (i : ℕ). IsChildFor behind node i × HasFullWay level (slice_index node.children i) in
      elim (decide_both (decide_same (length node.children) (2 * kind.k))
      (decide_some Goes (λ i. decide_both (decide_child behind node i) (full_way_decided level (slice_index node.children i))) (length node.children))) [
        | inl is ↦
            let i = is.1.0 in
            let below = is.1.2.1 in
            let step : Step = record { node = at; place = i } in
            inl (below.0 ++ step ∷ [], (i, below.0, is.1.2.0, below.1, refl), full_joined below.0 step below.2 is.0)
        | inr not ↦ inr (λ h.
            let i = h.1.0 in
            let parts = full_parts h.1.1 (record { node = at; place = i }) (subst (IsFullWay image kind) h.1.4 h.2) in
            not (parts.1, (i, h.1.2.child, (h.1.2, (h.1.1, h.1.3, parts.0)))))
      ]

-- ---- a tree of chunks

full_at_decided : (image : List ℕ) (shape : Shape) (root : ℕ) (offsets : List ℕ) → IsDecided (IsFullAt image shape root offsets)
full_at_decided image shape root offsets =
    let kind = shape_kind image shape in
    elim (decide_both (decide_same (node_at image kind root).level highest_level) (full_way_decided image kind (chunk_behind offsets) highest_level root)) [
      | inl is ↦ inl (record { way = is.1.0; high = is.0; sought = is.1.1; nodes = is.1.2 })
      | inr not ↦ inr (λ is. not (is.high, (is.way, is.sought, is.nodes)))
    ]

-- whether the first missing chunk of an array finds no room
pub deep_first_decided : (image : List ℕ) (a : Described) (all : List (List ℕ)) (l : Layout) → IsDecided (IsDeepIn image a all 0 l)
deep_first_decided image a all (InMessage bytes) = inr (λ never. never)
deep_first_decided image a all (InBlock b) = inr (λ never. never)
deep_first_decided image a all (InChunks chunk None) = inr (λ never. never)
deep_first_decided image a all (InChunks chunk (Some root)) = decide_both (decide_less 0 (length all)) (full_at_decided image _ root _)

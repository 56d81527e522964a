-- Keys of a group's tree stay exact where they give way, and where an item or an empty child goes.
use Rattle.std.proofs.Common.{◌≡◌, ℕ, suc, ◌^◌, ◌<◌, inl, inr, Bool, true, List, [], ◌∷◌, length, get_or, refl, sym, ◌∙◌, subst}
use Rattle.std.specs.Prelude.{None}
use Rattle.std.specs.List.{AllByRecursion, remove}
use Rattle.h5_model.specs.Format.Nodes.{Kind, HasTree, node_at}
use Rattle.h5_laws.specs.ExactKeys.{IsExact}
use Rattle.h5_laws.specs.KeyEdits.{IsTaken, Removes}
use Rattle.h5_laws.specs.KeyTrees.{KeyTree}
use Rattle.h5_laws.proofs.ExactKeys.{taken_exact}
use Rattle.h5_laws.proofs.ExactKeysLess.{removes_exact, retires_exact}
use Rattle.h5_space.specs.Space.{Space}
use Rattle.h5_btree.specs.Exact.{AreKeysExact}
use Rattle.h5_btree.specs.Insertion.{KeepsEntries, Owns}
use Rattle.h5_btree.specs.Keyed.{keys_from}
use Rattle.h5_btree.specs.Removal.{EndsInTree, IsTakenAlong}
use Rattle.h5_btree.specs.Retired.{IsTreeRetired, lowest_key}
use Rattle.h5_btree.specs.declared.way.Step.{Step}
use Rattle.h5_btree.proofs.KeyedFills.{kept_trees, lessened_gone}
use Rattle.h5_btree.proofs.KeyedTakes.{along_gone}
use Rattle.h5_btree.proofs.RetiredTrees.{no_order, no_sides}

abbrev Keys : Type 0
Keys = List (List ℕ)

-- THE KEYS ARE EXACT once keys have given way: what was spared, and is not hit, is spared still.
pub retired_exact : (hit : List ℕ → Bool) (keys_at : List ℕ → ℕ → List (List ℕ)) (s t : Space) (kind : Kind) (root level : ℕ) (owned list : List ℕ)
    → IsTreeRetired hit keys_at s t kind root level owned list → (spared left : List ℕ → Type 0) → ((key : List ℕ) → spared key → (hit key ≡ true → ⊥) → left key)
    → AreKeysExact spared (keys_at s.bytes) (node_at s.bytes kind) level root → AreKeysExact left (keys_at s.bytes) (node_at t.bytes kind) level root
retired_exact hit keys_at s t kind root level owned list is spared left rest exact =
    retires_exact (λ (key : List ℕ). key) lowest_key (λ (b : Keys). b) (λ (key : List ℕ). hit key ≡ true) spared left rest (suc level) None None
    (keys_from (node_at s.bytes kind) (λ key at. keys_at s.bytes at) level root) (keys_from (node_at t.bytes kind) (λ key at. keys_at s.bytes at) level root) tt exact is.keys

module _ (was now : ℕ → List (List ℕ)) (spared : List ℕ → Type 0) where
  each_same : (list : List ℕ) → AllByRecursion (λ c. now c ≡ was c) list → AllByRecursion (λ c. (key : List ℕ) → now c ≡ was c) list
  each_same [] all = tt
  each_same (c ∷ list) all = (λ key. all.0, each_same list all.1)

  -- They are exact still where each node of a tree has its keys and children still, and the items at its bottom have the same keys.
  pub kept_exact : (old new : List ℕ) (kind : Kind) (root level : ℕ) (owned list : List ℕ) → HasTree old kind root level owned list
      → ((n : ℕ) → Owns owned n → KeepsEntries old new kind n) → AllByRecursion (λ c. now c ≡ was c) list
      → AreKeysExact spared was (node_at old kind) level root → AreKeysExact spared now (node_at new kind) level root
  kept_exact old new kind root level owned list has keep same exact =
      subst (IsExact spared (λ (key : List ℕ). key) lowest_key (λ (b : Keys). b) (suc level) None)
      (sym (kept_trees old new kind root level owned list has keep (λ key c. was c) (λ key c. now c) (each_same list same))) exact

  module _ (s : Space) (kind : Kind) (root level : ℕ) (way : List Step) (owned list : List ℕ) (k : ℕ) (e : EndsInTree s kind root level way owned list k)
      (same : AllByRecursion (λ c. now c ≡ was c) (remove list k)) where
    -- the child at the end of the way
    abbrev pub end_at : ℕ
    end_at = get_or (node_at s.bytes kind e.step.node).children e.step.place 0

    -- AN ITEM GOES from the child at the end of a way, and its key is spared: what was spared is so still.
    pub lessened_exact : (x : List ℕ) (left : List ℕ → Type 0) → ((key : List ℕ) → spared key → left key) → left x → IsTaken x (was end_at) (now end_at)
        → AreKeysExact spared was (node_at s.bytes kind) level root → AreKeysExact left now (node_at s.bytes kind) level root
    lessened_exact x left more own taken exact =
        let Takes : Keys → Keys → Type 0 = λ b c. IsTaken x b c in
        taken_exact (λ (key : List ℕ). key) lowest_key (λ (b : Keys). b) x Takes (λ (c : Keys). ⊥) (λ b none. none) (λ b c takes. takes) spared left more own (suc level) None
        (keys_from (node_at s.bytes kind) (λ key c. was c) level root) (keys_from (node_at s.bytes kind) (λ key c. now c) level root)
        (lessened_gone no_sides no_order (λ (b : Keys). b) (λ (b : Keys). b ≡ b) x s kind root level way owned list k e (λ key c. was c) (λ key c. now c)
        (each_same (remove list k) same) Takes taken) exact

    -- A CHILD AT WHICH NOTHING STANDS IS TAKEN OUT along a way.
    module _ (t : Space) (taken : IsTakenAlong s t kind root way (remove list k) owned) (short : length t.bytes < 2 ^ 64) where
      pub dropped_exact : was end_at ≡ [] → AreKeysExact spared was (node_at s.bytes kind) level root → AreKeysExact spared now (node_at t.bytes kind) taken.3 root
      dropped_exact none exact =
          let Takes : Keys → Keys → Type 0 = λ b c. (b ≡ []) × (c ≡ []) in
          let Empty : Keys → Type 0 = λ c. c ≡ [] in
          let Old = keys_from (node_at s.bytes kind) (λ key c. was c) level root in
          let E : (height : ℕ) → KeyTree (List ℕ) Keys (suc height) → Type 0
          = λ height. IsExact spared (λ (key : List ℕ). key) lowest_key (λ (b : Keys). b) (suc height) None in
          let less : (new : KeyTree (List ℕ) Keys (suc level)) → Removes (List ℕ) Takes Empty (suc level) Old new → E level new
          = λ new removes. (removes_exact (λ (key : List ℕ). key) lowest_key (λ (b : Keys). b) Takes Empty (λ b empty. empty) (λ b c takes. takes.1 ∙ sym takes.0) spared
          (suc level) None Old new removes exact).0 in
          let New : (height : ℕ) → KeyTree (List ℕ) Keys (suc height) = λ height. keys_from (node_at t.bytes kind) (λ key c. now c) height root in
          elim (along_gone [] Takes Empty s t kind root level way owned list k e taken short (λ key c. was c) (λ key c. now c) (each_same (remove list k) same) (none, refl) refl) [
            | inl high ↦ subst (λ (l : ℕ). E l (New l)) (sym high.0) (less (New level) high.1)
            | inr low ↦ subst (λ (l : ℕ). E l (New l)) (sym low.0) (subst (E 0) low.3 (at_bottom low.1 (less (low.1, []) low.2)))
          ]
        where
          at_bottom : (keys : Keys) → IsExact spared (λ (key : List ℕ). key) lowest_key (λ (b : Keys). b) (suc level) None (keys, [])
              → IsExact spared (λ (key : List ℕ). key) lowest_key (λ (b : Keys). b) 1 None (keys, [])
          at_bottom keys exact = exact

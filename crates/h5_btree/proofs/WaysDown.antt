-- Ways down a tree: their steps, and that there is one at most where what is behind a key is behind the keys before it.
use Rattle.std.proofs.Common.{◌≡◌, ℕ, zero, suc, ◌+◌, ◌-◌, ◌<◌, ◌≤◌, Bool, true, false, List, [], ◌∷◌, ◌++◌, length, slice_index, slice_index_or, inl, inr, refl, sym, ap, ap₂, ◌∙◌, subst, arith}
use Rattle.std.specs.List.{AllByRecursion}
use Rattle.std.proofs.lemmas.Bool.{cases_lt}
use Rattle.std.proofs.lemmas.List.{length-append}
use Rattle.h5_bytes.proofs.BlockLaws.{all_append, all_left, all_right}
use Rattle.h5_model.specs.Format.Rows.{Node, Reading}
use Rattle.h5_btree.specs.Descent.{EndsAt, IsChildFor, IsWayTo}
use Rattle.h5_btree.specs.declared.way.Step.{Step}

-- ---- the steps of a way

module _ (V : Reading) (behind : List ℕ → Bool) where
  way_first : (level at : ℕ) (way : List Step) → IsWayTo V behind level at way
      → (step : Step) × (above : List Step) × (way ≡ step ∷ above) × EndsAt V behind level at (V step.node) step.place
  way_first zero at way to = (record { node = at; place = to.0 }, [], to.2, (refl, to.1))
  way_first (suc level) at way to =
      let s : Step = record { node = at; place = to.0 } in
      let r = way_first level (slice_index (V at).children to.0) to.1 to.3 in
      (r.0, r.1 ++ s ∷ [], to.4 ∙ ap (λ (xs : List Step). xs ++ s ∷ []) r.2, (to.0, to.2, r.3))

  -- the first one ends the way down
  pub first_ends : (level at : ℕ) (step : Step) (above : List Step) → IsWayTo V behind level at (step ∷ above) → EndsAt V behind level at (V step.node) step.place
  first_ends level at step above to =
      let r = way_first level at (step ∷ above) to in
      let both : step ∷ above ≡ r.0 ∷ r.1 = r.2 in
      let first : r.0 ≡ step = cc in
      subst (λ (s : Step). EndsAt V behind level at (V s.node) s.place) first r.3

  abbrev pub IsChosen : Step → Type 0
  IsChosen step = IsChildFor behind (V step.node) step.place

  -- each goes on to the child for what is sought
  pub way_chosen : (level at : ℕ) (way : List Step) → IsWayTo V behind level at way → AllByRecursion IsChosen way
  way_chosen zero at way to = subst (AllByRecursion IsChosen) (sym to.2) (to.1, tt)
  way_chosen (suc level) at way to =
      subst (AllByRecursion IsChosen) (sym to.4)
      (all_append IsChosen to.1 (record { node = at; place = to.0 } ∷ []) (way_chosen level (slice_index (V at).children to.0) to.1 to.3) (to.2, tt))

  -- there is one for each level
  pub way_long : (level at : ℕ) (way : List Step) → IsWayTo V behind level at way → length way ≡ suc level
  way_long zero at way to = ap (λ (xs : List Step). length xs) to.2
  way_long (suc level) at way to =
      let below = way_long level (slice_index (V at).children to.0) to.1 to.3 in
      let both : length way ≡ length to.1 + 1 = ap (λ (xs : List Step). length xs) to.4 ∙ length-append to.1 (record { node = at; place = to.0 } ∷ []) in
      omega (arith, both, below)

-- ---- one child at most, and one way at most

module _ (behind : List ℕ → Bool) where
  -- what is behind a key of the node is behind the key before it
  abbrev pub Falls : Node → Type 0
  Falls node = (i : ℕ) → i < length node.children → behind (slice_index_or node.keys (i + 1) []) ≡ true → behind (slice_index_or node.keys i []) ≡ true

  module _ (node : Node) (falls : Falls node) where
    abbrev key : ℕ → List ℕ
    key i = slice_index_or node.keys i []

    earlier : (i d : ℕ) → i + d ≤ length node.children → behind (key (i + d)) ≡ true → behind (key i) ≡ true
    earlier i zero low on = let same : i + 0 ≡ i = omega arith in subst (λ (n : ℕ). behind (key n) ≡ true) same on
    earlier i (suc d) low on =
        let next : i + suc d ≡ i + d + 1 = omega arith in
        earlier i d (omega (arith, low)) (falls (i + d) (omega (arith, low)) (subst (λ (n : ℕ). behind (key n) ≡ true) next on))

    none_before : (i j : ℕ) → i < j → IsChildFor behind node i → IsChildFor behind node j → j ≡ i
    none_before i j less a b =
        let there : j ≡ i + 1 + (j - (i + 1)) = omega (arith, less) in
        let in_it = b.child in
        let at_j : behind (key (i + 1 + (j - (i + 1)))) ≡ true = subst (λ (n : ℕ). behind (key n) ≡ true) there (b.low (omega (arith, less))) in
        let yes : behind (key (i + 1)) ≡ true = earlier (i + 1) (j - (i + 1)) (omega (arith, less, in_it)) at_j in
        let no : behind (key (i + 1)) ≡ false = a.high (omega (arith, less, in_it)) in
        let bad : false ≡ true = sym no ∙ yes in absurd (cc)

    pub one_child : (i j : ℕ) → IsChildFor behind node i → IsChildFor behind node j → i ≡ j
    one_child i j a b = elim (cases_lt i j) [
      | inl less ↦ sym (none_before i j less a b)
      | inr most ↦ elim (cases_lt j i) [
        | inl more ↦ none_before j i more b a
        | inr least ↦ omega (arith, most, least)
      ]
    ]

  module _ (V : Reading) where
    abbrev pub FallsAt : Step → Type 0
    FallsAt step = Falls (V step.node)

    pub one_way : (level at : ℕ) (way way' : List Step) → IsWayTo V behind level at way → IsWayTo V behind level at way' → AllByRecursion FallsAt way → way ≡ way'
    one_way zero at way way' to to' all =
        let same : to.0 ≡ to'.0 = one_child (V at) (subst (AllByRecursion FallsAt) to.2 all).0 to.0 to'.0 to.1 to'.1 in
        to.2 ∙ ap (λ (n : ℕ). record { node = at; place = n } ∷ []) same ∙ sym to'.2
    one_way (suc level) at way way' to to' all =
        let last : List Step = record { node = at; place = to.0 } ∷ [] in
        let parts : AllByRecursion FallsAt (to.1 ++ last) = subst (AllByRecursion FallsAt) to.4 all in
        let same : to.0 ≡ to'.0 = one_child (V at) (all_right FallsAt to.1 last parts).0 to.0 to'.0 to.2 to'.2 in
        let there : IsWayTo V behind level (slice_index (V at).children to.0) to'.1
        = subst (λ (n : ℕ). IsWayTo V behind level (slice_index (V at).children n) to'.1) (sym same) to'.3 in
        let below : to.1 ≡ to'.1 = one_way level (slice_index (V at).children to.0) to.1 to'.1 to.3 there (all_left FallsAt to.1 last parts) in
        to.4 ∙ ap₂ (λ (xs : List Step) (n : ℕ). xs ++ record { node = at; place = n } ∷ []) below same ∙ sym to'.4

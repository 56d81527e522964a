-- Keys give way where they are looked for, and no key is hit elsewhere: so all have given way.
use Rattle.std.proofs.Common.{◌≡◌, ◌⊎◌, inl, inr, ℕ, zero, suc, ◌+◌, ◌==◌, ◌&&◌, ◌||◌, Bool, true, false, List, [], ◌∷◌, Option, Some, map, take, refl, sym, ap, ◌∙◌, subst, arith}
use Rattle.std.specs.List.{AllByRecursion, list_any, slice_get}
use Rattle.std.proofs.lemmas.List.{length-map}
use Rattle.h5_model.specs.Format.Rows.{Node, Reading}
use Rattle.h5_model.specs.Format.Nodes.{Kind, node_at}
use Rattle.h5_model.proofs.RowLaws.{at_listed}
use Rattle.h5_space.specs.Space.{Space}
use Rattle.h5_btree.specs.Looked.{AreHitsLooked, IsLookedBelow, IsUnhitBelow, looks_below}
use Rattle.h5_btree.specs.Retired.{AreRetiredBelow, AreRetiredFrom, IsRetiring, IsSubtree, KeepsRetired, keys_below}
use Rattle.h5_btree.specs.declared.way.Step.{Step}
use Rattle.h5_btree.proofs.KeyedOwn.{keys_count}
use Rattle.h5_btree.proofs.RetiredKeys.{none_retired}
use Rattle.h5_btree.proofs.RetiredReads.{all_got}
use Rattle.h5_btree.proofs.RetiredSteps.{all_two, below_kept, below_more}

none_hit : (hit : List ℕ → Bool) (keys : List (List ℕ)) → AllByRecursion (λ (key : List ℕ). hit key ≡ false) keys → list_any hit keys ≡ false
none_hit hit [] all = refl
none_hit hit (key ∷ keys) all = ap (λ (b : Bool). b || list_any hit keys) all.0 ∙ none_hit hit keys all.1

module _ (hit : List ℕ → Bool) (way : Option (List Step)) where
  -- where no key is hit, it may look anywhere
  unhit_looked : (V : Reading) (height : ℕ) (edge : Bool) (at : ℕ) → IsUnhitBelow hit V height at → AreHitsLooked hit V way height edge at
  unhit_looked V zero edge at is = tt
  unhit_looked V (suc height) edge at is = λ i child got. inr (all_got (IsUnhitBelow hit V height) (V at).children i child got is.1)

module _ (hit : List ℕ → Bool) (stands : List ℕ → ℕ → Type 0) (keys_at : List ℕ → ℕ → List (List ℕ)) (s t : Space) (kind : Kind) (root top : ℕ) (owned list : List ℕ) where
  abbrev V : Reading
  V = node_at s.bytes kind

  abbrev Below : ℕ → ℕ → Type 0
  Below = AreRetiredBelow hit keys_at s t kind

  module _ (r : IsRetiring hit stands keys_at s t kind root top owned list) where
    -- where no key is hit, all have given way
    unhit_retired : (height at : ℕ) → IsSubtree V owned list height at → IsUnhitBelow hit V height at → Below height at
    unhit_retired zero at under is = tt
    unhit_retired (suc height) at under is = (
      elim (at_listed (λ n. (node_at t.bytes kind n ≡ V n) ⊎ AreRetiredFrom hit keys_at s t kind owned list n) owned at r.nodes under.0) [
        | inl same ↦
            let lists = map (keys_below V (keys_at s.bytes) (V at).level) (V at).children in
            let count = keys_count s.bytes kind at in
            let long = length-map (V at).children (keys_below V (keys_at s.bytes) (V at).level) in
            ((V at).keys, same, none_retired hit lists (V at).keys (omega (arith, count, long)) (none_hit hit (V at).keys is.0))
        | inr from ↦ from.2.0
      ],
      all_two (IsSubtree V owned list height) (IsUnhitBelow hit V height) (Below height) (unhit_retired height) (V at).children under.2 is.1,
    )

    module _ (way : Option (List Step)) (level at : ℕ) (edge : Bool) (under : IsSubtree V owned list (suc level) at) (looked : IsLookedBelow hit keys_at s t kind way (suc level) edge at)
        (i child : ℕ) (got : slice_get (V at).children i ≡ Some child) where
      -- so it is below a child that is looked at
      pub child_looked : (low : ℕ) → level ≡ suc low → IsLookedBelow hit keys_at s t kind way (suc low) (edge && (i == 0)) child
      child_looked low more = subst (λ (h : ℕ). IsLookedBelow hit keys_at s t kind way h (edge && (i == 0)) child) more (elim looked [
        | inl hits ↦ elim (hits i child got) [ inl on ↦ inl on.1 | inr unhit ↦ inl (unhit_looked hit way V level (edge && (i == 0)) child unhit) ]
        | inr done ↦ inr (all_got (Below level) (V at).children i child got done.1)
      ])

      -- below one that is not, all keys have given way
      pub child_done : ((edge && (i == 0)) || looks_below hit way level at (node_at t.bytes kind at).keys i) ≡ false → Below level child
      child_done off = elim looked [
        | inl hits ↦ elim (at_listed (λ n. (node_at t.bytes kind n ≡ V n) ⊎ AreRetiredFrom hit keys_at s t kind owned list n) owned at r.nodes under.0) [
          | inl same ↦ elim (hits i child got) [
            | inl on ↦
                let clash : true ≡ false = sym on.0 ∙ ap (λ (o : Node). (edge && (i == 0)) || looks_below hit way level at o.keys i) (sym same) ∙ off in cc
            | inr unhit ↦ unhit_retired level child (all_got (IsSubtree V owned list level) (V at).children i child got under.2) unhit
          ]
          | inr from ↦
              let same : from.0 ≡ level = sym from.1.1 ∙ under.1 in
              all_got (Below level) (V at).children i child got (subst (λ (h : ℕ). AllByRecursion (Below h) (V at).children) same from.2.1)
        ]
        | inr done ↦ all_got (Below level) (V at).children i child got done.1
      ]

-- it is so still while keys give way
pub looked_kept : (hit : List ℕ → Bool) (stands : List ℕ → ℕ → Type 0) (keys_at : List ℕ → ℕ → List (List ℕ)) (s t u : Space) (kind : Kind) (owned list : List ℕ)
    → KeepsRetired hit keys_at s t u kind owned → (way : Option (List Step)) (height at : ℕ) (edge : Bool) → IsSubtree (node_at s.bytes kind) owned list height at
    → IsLookedBelow hit keys_at s t kind way height edge at → IsLookedBelow hit keys_at s u kind way height edge at
looked_kept hit stands keys_at s t u kind owned list keep way height at edge under looked = elim looked [
  | inl hits ↦ inl hits
  | inr done ↦ inr (below_kept hit stands keys_at s t u kind owned list keep height at under done)
]

-- ---- one child more of a node

module _ (hit : List ℕ → Bool) (stands : List ℕ → ℕ → Type 0) (keys_at : List ℕ → ℕ → List (List ℕ)) (s t : Space) (kind : Kind) (root top : ℕ) (owned list : List ℕ)
    (r : IsRetiring hit stands keys_at s t kind root top owned list) (way : Option (List Step)) (level at : ℕ) (edge : Bool)
    (under : IsSubtree (node_at s.bytes kind) owned list (suc level) at) (looked : IsLookedBelow hit keys_at s t kind way (suc level) edge at)
    (i child low : ℕ) (more : level ≡ suc low) (got : slice_get (node_at s.bytes kind at).children i ≡ Some child)
    (done : AllByRecursion (AreRetiredBelow hit keys_at s t kind level) (take i (node_at s.bytes kind at).children)) where
  -- in the image u that is made of t
  abbrev pub HasGoneOn : Space → Type 0
  HasGoneOn u =
      IsRetiring hit stands keys_at s u kind root top owned list × KeepsRetired hit keys_at s t u kind owned
      × AllByRecursion (AreRetiredBelow hit keys_at s u kind level) (take (i + 1) (node_at s.bytes kind at).children)

  pub goes_below : (u : Space) → IsRetiring hit stands keys_at s u kind root top owned list → KeepsRetired hit keys_at s t u kind owned
      → AreRetiredBelow hit keys_at s u kind (suc low) child → HasGoneOn u
  goes_below u retiring keep below = (retiring, keep, below_more hit keys_at stands s t u kind owned list level low at i child more under got keep below done)

  pub passes_by : ((edge && (i == 0)) || looks_below hit way level at (node_at t.bytes kind at).keys i) ≡ false → HasGoneOn t
  passes_by off = goes_below t r (λ n is retired. retired)
      (subst (λ (h : ℕ). AreRetiredBelow hit keys_at s t kind h child) more
      (child_done hit stands keys_at s t kind root top owned list r way level at edge under looked i child got off))

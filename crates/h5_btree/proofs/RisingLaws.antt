-- What rises from item to item, over several nodes of a row.
use Rattle.std.proofs.Common.{◌≡◌, ℕ, ◌+◌, ◌<◌, List, [], ◌∷◌, ◌++◌, length, take, drop, get_or, refl, sym, ap, ◌∙◌, subst, arith, inl, inr}
use Rattle.std.specs.Prelude.{◌⊎◌, Option, Some, None}
use Rattle.std.specs.List.{Contains, flat_map}
use Rattle.std.proofs.lemmas.List.{take_more, take-append-drop, drop_more, flat_map_more}
use Rattle.std.proofs.lemmas.List.Elements.{Contains-append_right}
use Rattle.h5_btree.specs.Rising.{FallAt, FallFrom, IsAbove, RiseFrom, last_value}

module _ {X Y : Type 0} (value : X → Y) (Below : Y → Y → Type 0) where
  last_append : (last : Option Y) (xs ys : List X) → last_value value last (xs ++ ys) ≡ last_value value (last_value value last xs) ys
  last_append last [] ys = refl
  last_append last (x ∷ xs) ys = last_append (Some (value x)) xs ys

  rise_append : (last : Option Y) (xs ys : List X) → RiseFrom value Below last xs → RiseFrom value Below (last_value value last xs) ys
      → RiseFrom value Below last (xs ++ ys)
  rise_append last [] ys first then = then
  rise_append last (x ∷ xs) ys first then = (first.0, rise_append (Some (value x)) xs ys first.1 then)

  -- the last value is that of an item, or the one before them
  last_among : (last : Option Y) (xs : List X) (y : Y) → last_value value last xs ≡ Some y
      → (last ≡ Some y) ⊎ ((x : X) × Contains xs x × (value x ≡ y))
  last_among last [] y is = inl is
  last_among last (x ∷ xs) y is = elim (last_among (Some (value x)) xs y is) [
    | inl here ↦ inr (x, (0, omega arith, refl), cc)
    | inr later ↦ inr (later.0, Contains-append_right (x ∷ []) xs later.0 later.1, later.2)
  ]

  last_of : (xs : List X) (y : Y) → last_value value None xs ≡ Some y → (x : X) × Contains xs x × (value x ≡ y)
  last_of xs y is = elim (last_among None xs y is) [ inl none ↦ cc | inr some ↦ some ]

  -- ---- the items of one node

  module _ (last : Option Y) (xs : List X) (k : ℕ) (x : X) (low : k < length xs) (is : get_or xs k x ≡ x) where
    more : take (k + 1) xs ≡ take k xs ++ x ∷ []
    more = take_more xs k x low ∙ ap (λ (y : X). take k xs ++ y ∷ []) is

    pub last_more : last_value value last (take (k + 1) xs) ≡ Some (value x)
    last_more = ap (last_value value last) more ∙ last_append last (take k xs) (x ∷ [])

    pub rise_more : RiseFrom value Below last (take k xs) → IsAbove Below (last_value value last (take k xs)) (value x) → RiseFrom value Below last (take (k + 1) xs)
    rise_more rise above = rw more (rise_append last (take k xs) (x ∷ []) rise (above, tt))

  -- ---- several nodes

  module _ (items : ℕ → List X) (row : List ℕ) (k at : ℕ) (low : k < length row) (is : get_or row k at ≡ at) where
    abbrev before : List X
    before = flat_map items (take k row)

    all_more : flat_map items (take (k + 1) row) ≡ before ++ items at
    all_more =
        ap (flat_map items) (take_more row k at low ∙ ap (λ (n : ℕ). take k row ++ n ∷ []) is)
        ∙ sym (flat_map_more items [] (take k row) at)

    pub last_next : last_value value None (flat_map items (take (k + 1) row)) ≡ last_value value (last_value value None before) (items at)
    last_next = ap (last_value value None) all_more ∙ last_append None before (items at)

    pub rise_next : RiseFrom value Below None before → RiseFrom value Below (last_value value None before) (items at)
        → RiseFrom value Below None (flat_map items (take (k + 1) row))
    rise_next first then = rw all_more (rise_append None before (items at) first then)

    pub fall_next : FallFrom value Below (last_value value None before) (items at) → FallAt value Below items row at
    fall_next fall =
        let i : ℕ = fall.0 in
        let last : last_value value None (before ++ take i (items at)) ≡ Some fall.2 = last_append None before (take i (items at)) ∙ fall.5 in
        let x = last_of (before ++ take i (items at)) fall.2 last in
        let split : row ≡ take k row ++ at ∷ drop (k + 1) row
        = sym (take-append-drop k row)
        ∙ ap (λ (rest : List ℕ). take k row ++ rest) (drop_more row k at low ∙ ap (λ (n : ℕ). n ∷ drop (k + 1) row) is) in (
          take k row,
          drop (k + 1) row,
          split,
          (i, x.0, fall.1, fall.3, fall.4, x.1, λ rises. fall.6 (subst (λ (y : Y). Below y (value fall.1)) x.2 rises)),
        )

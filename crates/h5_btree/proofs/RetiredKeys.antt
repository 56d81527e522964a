-- The keys of one node, which give way one after another.
use Rattle.std.proofs.Common.{◌≡◌, ◌≢◌, ◌⊎◌, inl, inr, ℕ, zero, suc, ◌<◌, ◌≤◌, Bool, true, false, List, [], ◌∷◌, length, get_or, refl, sym, ap, ap₂, ◌∙◌, subst, arith}
use Rattle.std.specs.Prelude.{slice_set}
use Rattle.std.specs.List.{AllByRecursion, list_any}
use Rattle.std.proofs.lemmas.List.Folds.{list_any_at}
use Rattle.h5_bytes.proofs.BlockLaws.{all_right}
use Rattle.h5_laws.specs.KeyEdits.{AreRetired}
use Rattle.h5_btree.specs.Retired.{AreKeysRetired, IsKeyBefore, IsKeyRetired, lowest_key}

-- ---- another key at a place

pub length-set : (keys : List (List ℕ)) (i : ℕ) (key : List ℕ) → length (slice_set keys i key) ≡ length keys
length-set [] zero key = refl
length-set [] (suc i) key = refl
length-set (k ∷ keys) zero key = refl
length-set (k ∷ keys) (suc i) key = ap suc (length-set keys i key)

set_here : (keys : List (List ℕ)) (i : ℕ) (key : List ℕ) → i < length keys → get_or (slice_set keys i key) i [] ≡ key
set_here [] i key low = absurd (omega (arith, low))
set_here (k ∷ keys) zero key low = refl
set_here (k ∷ keys) (suc i) key low = set_here keys i key (omega (arith, low))

set_other : (keys : List (List ℕ)) (i j : ℕ) (key : List ℕ) → j ≢ i → get_or (slice_set keys i key) j [] ≡ get_or keys j []
set_other [] zero j key other = refl
set_other [] (suc i) j key other = refl
set_other (k ∷ keys) zero zero key other = absurd (other refl)
set_other (k ∷ keys) zero (suc j) key other = refl
set_other (k ∷ keys) (suc i) zero key other = refl
set_other (k ∷ keys) (suc i) (suc j) key other = set_other keys i j key (λ same. other (ap suc same))

module _ (hit : List ℕ → Bool) (lists : List (List (List ℕ))) where
  -- the key at this place has given way, as the key before it is now
  abbrev pub IsRetiredAt : List (List ℕ) → List (List ℕ) → ℕ → Type 0
  IsRetiredAt old new j =
      ((hit (get_or old j []) ≡ false) × (get_or new j [] ≡ get_or old j []))
      ⊎ ((hit (get_or old j []) ≡ true) × IsKeyBefore lists new j (get_or new j []))

  -- so have those at the first places; the others stay
  pub record ArePartly (old new : List (List ℕ)) (n : ℕ) : Type 0 where
    pub long : length new ≡ length old
    pub done : (j : ℕ) → j < n → IsRetiredAt old new j
    pub rest : (j : ℕ) → n ≤ j → get_or new j [] ≡ get_or old j []

  pub partly_none : (keys : List (List ℕ)) → ArePartly keys keys 0
  partly_none keys = record { long = refl; done = λ j low. absurd (omega (arith, low)); rest = λ j low. refl }

  -- the key before one does not change where another does
  before_set : (keys : List (List ℕ)) (i j : ℕ) (key k : List ℕ) → j ≤ i → IsKeyBefore lists keys j k → IsKeyBefore lists (slice_set keys i key) j k
  before_set keys i zero key k low is = is
  before_set keys i (suc j) key k low is = elim is [
    | inl none ↦ inl (none.0, none.1 ∙ sym (set_other keys i j key (λ same. omega (arith, same, low))))
    | inr some ↦ inr some
  ]

  -- one more
  module _ (old new : List (List ℕ)) (n : ℕ) (key : List ℕ) (low : n < length old) (p : ArePartly old new n) (is : IsKeyRetired hit lists new n key) where
    now : get_or (slice_set new n key) n [] ≡ key
    now = set_here new n key (let l = p.long in omega (arith, l, low))

    was : get_or new n [] ≡ get_or old n []
    was = p.rest n (omega arith)

    here : IsRetiredAt old (slice_set new n key) n
    here = elim is [
      | inl kept ↦ inl (ap hit (sym was) ∙ kept.0, now ∙ kept.1 ∙ was)
      | inr gone ↦ inr (
        ap hit (sym was) ∙ gone.0,
        subst (IsKeyBefore lists (slice_set new n key) n) (sym now) (before_set new n n key key (omega arith) gone.1),
      )
    ]

    before : (j : ℕ) → j < n → IsRetiredAt old (slice_set new n key) j
    before j less =
        let same : get_or (slice_set new n key) j [] ≡ get_or new j [] = set_other new n j key (λ e. omega (arith, e, less)) in
        elim (p.done j less) [
          | inl kept ↦ inl (kept.0, same ∙ kept.1)
          | inr gone ↦ inr (gone.0, subst (IsKeyBefore lists (slice_set new n key) j) (sym same) (before_set new n j key (get_or new j []) (omega (arith, less)) gone.1))
        ]

    pub partly_more : ArePartly old (slice_set new n key) (suc n)
    partly_more = record {
      long = length-set new n key ∙ p.long;
      done = λ j less. by_place j (nat_cases j n) less;
      rest = λ j more. set_other new n j key (λ e. omega (arith, e, more)) ∙ p.rest j (omega (arith, more));
    } where
      nat_cases : (a b : ℕ) → (a ≡ b) ⊎ (a ≢ b)
      nat_cases zero zero = inl refl
      nat_cases zero (suc b) = inr (λ e. omega (arith, e))
      nat_cases (suc a) zero = inr (λ e. omega (arith, e))
      nat_cases (suc a) (suc b) = elim (nat_cases a b) [ inl e ↦ inl (ap suc e) | inr other ↦ inr (λ e. other (omega (arith, e))) ]

      by_place : (j : ℕ) → (j ≡ n) ⊎ (j ≢ n) → j < suc n → IsRetiredAt old (slice_set new n key) j
      by_place j (inl e) less = subst (IsRetiredAt old (slice_set new n key)) (sym e) here
      by_place j (inr other) less = before j (let ne = other in omega (arith, ne, less))

  -- ---- all of them

  abbrev Hit : List ℕ → Type 0
  Hit key = hit key ≡ true

  not_hit : (key : List ℕ) → hit key ≡ false → Hit key → ⊥
  not_hit key off is = let both : false ≡ true = sym off ∙ is in absurd (cc)

-- the key of a row of keys behind another
abbrev IsNext : (List ℕ → Bool) → List ℕ → List (List ℕ) → List (List (List ℕ)) → List (List ℕ) → ℕ → Type 0
IsNext hit before keys lists new j =
    ((hit (get_or keys j []) ≡ false) × (get_or new j [] ≡ get_or keys j []))
    ⊎ ((hit (get_or keys j []) ≡ true) × IsKeyBefore lists (before ∷ new) (suc j) (get_or new j []))

module _ (hit : List ℕ → Bool) where
  retired_from : (before : List ℕ) (keys : List (List ℕ)) (lists : List (List (List ℕ))) (new : List (List ℕ)) → length lists ≡ length keys → length new ≡ length keys
      → ((j : ℕ) → j < length keys → IsNext hit before keys lists new j) → AreRetired (λ (key : List ℕ). hit key ≡ true) (λ (key : List ℕ). key) before keys lists new
  retired_from before [] lists [] a b each = refl
  retired_from before [] lists (k' ∷ new) a b each = absurd (omega (arith, b))
  retired_from before (k ∷ keys) [] new a b each = absurd (omega (arith, a))
  retired_from before (k ∷ keys) (xs ∷ lists) [] a b each = absurd (omega (arith, b))
  retired_from before (k ∷ keys) (xs ∷ lists) (k' ∷ new) a b each = (
    elim (each 0 (omega arith)) [
      | inl kept ↦ inl (not_hit hit [] k kept.0, kept.1)
      | inr gone ↦ elim gone.1 [
        | inl none ↦ inr (inl (gone.0, none.0, none.1))
        | inr some ↦ inr (inr (gone.0, (some.0, some.1, some.2, some.3)))
      ]
    ],
    retired_from k' keys lists new (omega (arith, a)) (omega (arith, b)) (λ j low. each (suc j) (omega (arith, low))),
  )

  pub partly_all : (lists : List (List (List ℕ))) (old new : List (List ℕ)) → length old ≡ suc (length lists) → ArePartly hit lists old new (length old) → AreKeysRetired hit lists old new
  partly_all lists [] new long p = absurd (omega (arith, long))
  partly_all lists (k ∷ keys) [] long p = absurd (let l = p.long in omega (arith, l))
  partly_all lists (k ∷ keys) (k' ∷ new) long p = (
    elim (p.done 0 (omega arith)) [ inl kept ↦ inl (not_hit hit lists k kept.0, kept.1) | inr gone ↦ inr gone ],
    retired_from k' keys lists new (omega (arith, long)) (let l = p.long in omega (arith, l)) (λ j low. p.done (suc j) (omega (arith, low))),
  )

  -- ---- none of them is hit then, and so they stay

  abbrev pub Unhit : List (List ℕ) → Type 0
  Unhit keys = AllByRecursion (λ (key : List ℕ). hit key ≡ false) keys

  by_hit : (key : List ℕ) → ((hit key ≡ true) → ⊥) → hit key ≡ false
  by_hit key is = go (hit key) refl where
    go : (b : Bool) → hit key ≡ b → hit key ≡ false
    go false e = e
    go true e = absurd (is e)

  unhit_from : (before : List ℕ) (keys : List (List ℕ)) (lists : List (List (List ℕ))) (new : List (List ℕ)) → hit before ≡ false → AllByRecursion Unhit lists
      → AreRetired (λ (key : List ℕ). hit key ≡ true) (λ (key : List ℕ). key) before keys lists new → Unhit new
  unhit_from before [] lists new low named is = subst Unhit (sym is) tt
  unhit_from before (k ∷ keys) [] new low named is = absurd is
  unhit_from before (k ∷ keys) (xs ∷ lists) [] low named is = absurd is
  unhit_from before (k ∷ keys) (xs ∷ lists) (k' ∷ new) low named is =
      let here : hit k' ≡ false = elim is.0 [
        | inl kept ↦ ap hit kept.1 ∙ by_hit k kept.0
        | inr (inl none) ↦ ap hit none.2 ∙ low
        | inr (inr some) ↦ ap hit some.1.3 ∙ (all_right (λ (key : List ℕ). hit key ≡ false) some.1.1 (some.1.0 ∷ []) (subst Unhit some.1.2 named.0)).0
      ] in
      (here, unhit_from k' keys lists new here named.1 is.1)

  pub retired_unhit : (lists : List (List (List ℕ))) (old new : List (List ℕ)) → hit lowest_key ≡ false → AllByRecursion Unhit lists → AreKeysRetired hit lists old new → Unhit new
  retired_unhit lists [] new low named is = subst Unhit (sym is) tt
  retired_unhit lists (k ∷ keys) [] low named is = absurd is
  retired_unhit lists (k ∷ keys) (k' ∷ new) low named is =
      let here : hit k' ≡ false = elim is.0 [ inl kept ↦ ap hit kept.1 ∙ by_hit k kept.0 | inr gone ↦ ap hit gone.1 ∙ low ] in
      (here, unhit_from k' keys lists new here named is.1)

  same_from : (before : List ℕ) (keys : List (List ℕ)) (lists : List (List (List ℕ))) (new : List (List ℕ)) → Unhit keys
      → AreRetired (λ (key : List ℕ). hit key ≡ true) (λ (key : List ℕ). key) before keys lists new → new ≡ keys
  same_from before [] lists new none is = is
  same_from before (k ∷ keys) [] new none is = absurd is
  same_from before (k ∷ keys) (xs ∷ lists) [] none is = absurd is
  same_from before (k ∷ keys) (xs ∷ lists) (k' ∷ new) none is =
      let here : k' ≡ k = elim is.0 [
        | inl kept ↦ kept.1
        | inr (inl gone) ↦ absurd (not_hit hit lists k none.0 gone.0)
        | inr (inr gone) ↦ absurd (not_hit hit lists k none.0 gone.0)
      ] in
      ap₂ (λ (a : List ℕ) (b : List (List ℕ)). a ∷ b) here (same_from k' keys lists new none.1 is.1)

  pub unhit_same : (lists : List (List (List ℕ))) (old new : List (List ℕ)) → Unhit old → AreKeysRetired hit lists old new → new ≡ old
  unhit_same lists [] new none is = is
  unhit_same lists (k ∷ keys) [] none is = absurd is
  unhit_same lists (k ∷ keys) (k' ∷ new) none is =
      let here : k' ≡ k = elim is.0 [ inl kept ↦ kept.1 | inr gone ↦ absurd (not_hit hit lists k none.0 gone.0) ] in
      ap₂ (λ (a : List ℕ) (b : List (List ℕ)). a ∷ b) here (same_from k' keys lists new none.1 is.1)

  unhit_at : (keys : List (List ℕ)) (j : ℕ) → list_any hit keys ≡ false → j < length keys → hit (get_or keys j []) ≡ false
  unhit_at keys j none low = by_hit (get_or keys j []) (λ is. let both : false ≡ true = sym none ∙ list_any_at hit keys j [] low is in absurd (cc))

  pub none_retired : (lists : List (List (List ℕ))) (keys : List (List ℕ)) → length keys ≡ suc (length lists) → list_any hit keys ≡ false → AreKeysRetired hit lists keys keys
  none_retired lists keys long none =
      partly_all lists keys keys long (record { long = refl; done = λ j low. inl (unhit_at keys j none low, refl); rest = λ j more. refl })

  -- ---- each is the lowest one, or an item's, or was there and stays

  module _ (P : List ℕ → Type 0) where
    all_from : (before : List ℕ) (keys : List (List ℕ)) (lists : List (List (List ℕ))) (new : List (List ℕ)) → P before → AllByRecursion (AllByRecursion P) lists
        → AllByRecursion (λ key. hit key ≡ false → P key) keys → AreRetired (λ (key : List ℕ). hit key ≡ true) (λ (key : List ℕ). key) before keys lists new → AllByRecursion P new
    all_from before [] lists new low named old is = subst (AllByRecursion P) (sym is) tt
    all_from before (k ∷ keys) [] new low named old is = absurd is
    all_from before (k ∷ keys) (xs ∷ lists) [] low named old is = absurd is
    all_from before (k ∷ keys) (xs ∷ lists) (k' ∷ new) low named old is =
        let here : P k' = elim is.0 [
          | inl kept ↦ subst P (sym kept.1) (old.0 (by_hit k kept.0))
          | inr (inl none) ↦ subst P (sym none.2) low
          | inr (inr some) ↦ subst P (sym some.1.3) (all_right P some.1.1 (some.1.0 ∷ []) (subst (AllByRecursion P) some.1.2 named.0)).0
        ] in
        (here, all_from k' keys lists new here named.1 old.1 is.1)

    pub retired_all : (lists : List (List (List ℕ))) (old new : List (List ℕ)) → P lowest_key → AllByRecursion (AllByRecursion P) lists → AllByRecursion (λ key. hit key ≡ false → P key) old
        → AreKeysRetired hit lists old new → AllByRecursion P new
    retired_all lists [] new low named each is = subst (AllByRecursion P) (sym is) tt
    retired_all lists (k ∷ keys) [] low named each is = absurd is
    retired_all lists (k ∷ keys) (k' ∷ new) low named each is =
        let here : P k' = elim is.0 [ inl kept ↦ subst P (sym kept.1) (each.0 (by_hit k kept.0)) | inr gone ↦ subst P (sym gone.1) low ] in
        (here, all_from k' keys lists new here named each.1 is.1)

-- Places of which two exchanged what they have, and where it stood before.
use Rattle.std.proofs.Common.{◌≡◌, inl, inr, ℕ, zero, suc, ◌<◌, List, [], ◌∷◌, length, get_or, refl, sym, ap, ◌∙◌, arith, Option, Some, true, false}
use Rattle.std.specs.Prelude.{◌==◌, if◌then◌else◌, option_map, slice_get}
use Rattle.std.specs.Option.{option_flatten}
use Rattle.std.specs.FinMap.{get}
use Rattle.std.specs.List.{SwappedAt}
use Rattle.std.proofs.lemmas.Bool.{cases_eq}
use Rattle.std.proofs.lemmas.Bool.Decides.{nat_tests}
use Rattle.std.proofs.lemmas.Option.{slice_get-get_or}
use Rattle.h5_open.specs.declared.opened.object.OpenedObject.{OpenedObject}
use Rattle.h5_open.specs.Opened.Objects.{header_of, table_of}
use Rattle.h5_open.specs.Renumbered.Exchanged.{IsExchanged}
use Rattle.h5_open.proofs.OpenedLaws.Entries.{get_table}

-- ---- lists

same_places : {X : Type 0} (xs ys : List X) (a b : ℕ) (d : X) → a < length xs → b < length ys → get_or ys b d ≡ get_or xs a d → slice_get ys b ≡ slice_get xs a
same_places {X = X} xs ys a b d low low' e = slice_get-get_or ys b d low' ∙ ap (λ (x : X). Some x) e ∙ sym (slice_get-get_or xs a d low)

same_place : {X : Type 0} (xs ys : List X) (k : ℕ) (d : X) → length ys ≡ length xs → get_or ys k d ≡ get_or xs k d → slice_get ys k ≡ slice_get xs k
same_place [] [] k d long e = refl
same_place [] (y ∷ ys) k d long e = absurd (omega (arith, long))
same_place (x ∷ xs) [] k d long e = absurd (omega (arith, long))
same_place {X = X} (x ∷ xs) (y ∷ ys) zero d long e = ap (λ (z : X). Some z) e
same_place (x ∷ xs) (y ∷ ys) (suc k) d long e = same_place xs ys k d (omega (arith, long)) e

-- what `swap` of a `Vec` leaves
pub exchanged : {X : Type 0} (xs ys : List X) (i j : ℕ) (d : X) → i < length xs → j < length xs → length ys ≡ length xs → SwappedAt xs ys i j
    → IsExchanged (slice_get xs) (slice_get ys) i j
exchanged xs ys i j d low low' long swapped = record {
  first = same_places xs ys j i d low' (omega (arith, low, long)) (swapped.0 d);
  second = same_places xs ys i j d low (omega (arith, low', long)) (swapped.1 d);
  others = λ k a b. same_place xs ys k d long (swapped.2 k d a b);
}

-- ---- places

-- where what is at a place stood before
pub moved : ℕ → ℕ → ℕ → ℕ
moved i j k = if k == i then j else if k == j then i else k

-- and that is all told of it
module _ (i j : ℕ) where
  moved_first : (k : ℕ) → k ≡ i → moved i j k ≡ j
  unfolding moved
  moved_first k same = let here : (k == i) ≡ true = grind (arith, nat_tests, same) in rw here refl

  moved_second : (k : ℕ) → (k ≡ i → ⊥) → k ≡ j → moved i j k ≡ i
  unfolding moved
  moved_second k other same =
      let not_here : (k == i) ≡ false = grind (arith, nat_tests, other) in
      let here : (k == j) ≡ true = grind (arith, nat_tests, same) in
      rw (not_here, here) refl

  moved_else : (k : ℕ) → (k ≡ i → ⊥) → (k ≡ j → ⊥) → moved i j k ≡ k
  unfolding moved
  moved_else k not_first not_second =
      let here : (k == i) ≡ false = grind (arith, nat_tests, not_first) in
      let there : (k == j) ≡ false = grind (arith, nat_tests, not_second) in
      rw (here, there) refl

  -- twice is back
  moved_back : (k : ℕ) → moved i j (moved i j k) ≡ k
  moved_back k = elim (cases_eq k i) [
    | inl first ↦ ap (moved i j) (moved_first k first) ∙ elim (cases_eq j i) [
      | inl same ↦ moved_first j same ∙ same ∙ sym first
      | inr other ↦ moved_second j other refl ∙ sym first
    ]
    | inr not_first ↦ elim (cases_eq k j) [
      | inl second ↦ ap (moved i j) (moved_second k not_first second) ∙ moved_first i refl ∙ sym second
      | inr not_second ↦ ap (moved i j) (moved_else k not_first not_second) ∙ moved_else k not_first not_second
    ]
  ]

module _ {X : Type 0} (before after : ℕ → Option X) (i j : ℕ) (e : IsExchanged before after i j) where
  pub was : (k : ℕ) → after k ≡ before (moved i j k)
  was k = elim (cases_eq k i) [
    | inl first ↦ ap after first ∙ e.first ∙ ap before (sym (moved_first i j k first))
    | inr not_first ↦ elim (cases_eq k j) [
      | inl second ↦ ap after second ∙ e.second ∙ ap before (sym (moved_second i j k not_first second))
      | inr not_second ↦ e.others k not_first not_second ∙ ap before (sym (moved_else i j k not_first not_second))
    ]
  ]

  -- what was at a place is at one still
  pub still : (k : ℕ) → after (moved i j k) ≡ before k
  still k = was (moved i j k) ∙ ap before (moved_back i j k)

  -- where no two places had the same, none have now
  pub own_exchanged : ((a b : ℕ) (x : X) → before a ≡ Some x → before b ≡ Some x → a ≡ b) → (a b : ℕ) (x : X) → after a ≡ Some x → after b ≡ Some x → a ≡ b
  own_exchanged own a b x p q =
      sym (moved_back i j a) ∙ ap (moved i j) (own (moved i j a) (moved i j b) x (sym (was a) ∙ p) (sym (was b) ∙ q)) ∙ moved_back i j b

-- ---- headers

-- the headers of objects in slots are exchanged as these are
module _ (before after : List (Option OpenedObject)) (i j : ℕ) (e : IsExchanged (slice_get before) (slice_get after) i j) where
  header_got : (k m : ℕ) → slice_get after k ≡ slice_get before m → get (table_of after) k ≡ get (table_of before) m
  header_got k m same =
      get_table after k ∙ ap (λ (slot : Option (Option OpenedObject)). option_map header_of (option_flatten slot)) same ∙ sym (get_table before m)

  pub exchanged_headers : IsExchanged (get (table_of before)) (get (table_of after)) i j
  exchanged_headers = record { first = header_got i j e.first; second = header_got j i e.second; others = λ k a b. header_got k k (e.others k a b) }

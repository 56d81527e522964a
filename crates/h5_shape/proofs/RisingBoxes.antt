-- Lists of indexes that rise in row-major order: two with the same members are one.
use Rattle.std.proofs.Common.{◌≡◌, ℕ, suc, inl, inr, List, [], ◌∷◌, refl, sym, ap₂, ◌∙◌, subst, arith, Bool, true, false, cond}
use Rattle.std.specs.List.{AllPairs, filter}
use Rattle.h5_model.specs.Format.Links.{Before}
use Rattle.h5_model.proofs.Members.{In, contains_in, filter_in}
use Rattle.h5_model.proofs.TextOrder.{after_trans, before_itself, before_le}

-- each is before all behind it
abbrev pub Rises : List (List ℕ) → Type 0
Rises [] = Unit {0}
Rises (x ∷ xs) = ((y : List ℕ) → In y xs → Before x y) × Rises xs

-- ---- some of them

pub filter_rises : (test : List ℕ → Bool) (xs : List (List ℕ)) → Rises xs → Rises (filter test xs)
filter_rises test [] h = tt
filter_rises test (x ∷ xs) h = by_test (filter_rises test xs h.1) (test x) where
  by_test : Rises (filter test xs) → (b : Bool) → Rises (cond b (x ∷ filter test xs) (filter test xs))
  by_test below true = ((λ y at. h.0 y (filter_in test y xs at).0), below)
  by_test below false = below

-- ---- each before each later one

pub pairs_rise : (xs : List (List ℕ)) → AllPairs Before xs → Rises xs
pairs_rise [] h = tt
pairs_rise (x ∷ xs) h = (above, pairs_rise xs (λ i j d order low. h (suc i) (suc j) d (omega arith) (omega arith))) where
  above : (y : List ℕ) → In y xs → Before x y
  above y at = let there = contains_in y xs at in subst (Before x) there.2 (h 0 (suc there.0) y (omega arith) (omega (arith, there.1)))

-- ---- the same members

no_member : (xs : List (List ℕ)) → ((x : List ℕ) → In x xs → ⊥) → xs ≡ []
no_member [] none = refl
no_member (x ∷ xs) none = absurd (none x (inl refl))

first_same : (x y : List ℕ) (xs ys : List (List ℕ)) → Rises (x ∷ xs) → Rises (y ∷ ys) → In x (y ∷ ys) → In y (x ∷ xs) → x ≡ y
first_same x y xs ys h k (inl e) there = sym e
first_same x y xs ys h k (inr at) (inl e) = e
first_same x y xs ys h k (inr at) (inr there) = absurd (before_itself x (after_trans x y x (before_le x y (h.0 y there)) (k.0 x at)))

others_in : (x y : List ℕ) (xs ys : List (List ℕ)) → Rises (x ∷ xs) → x ≡ y → ((z : List ℕ) → In z (x ∷ xs) → In z (y ∷ ys)) → (z : List ℕ) → In z xs → In z ys
others_in x y xs ys h e to z at = elim (to z (inr at)) [
  | inl same ↦ absurd (before_itself z (subst (λ (w : List ℕ). Before w z) (e ∙ same) (h.0 z at)))
  | inr there ↦ there
]

pub same_members : (xs ys : List (List ℕ)) → Rises xs → Rises ys → ((x : List ℕ) → In x xs → In x ys) → ((y : List ℕ) → In y ys → In y xs) → xs ≡ ys
same_members [] ys h k to from = sym (no_member ys from)
same_members (x ∷ xs) [] h k to from = no_member (x ∷ xs) to
same_members (x ∷ xs) (y ∷ ys) h k to from =
    let e : x ≡ y = first_same x y xs ys h k (to x (inl refl)) (from y (inl refl)) in
    let others : xs ≡ ys = same_members xs ys h.1 k.1 (others_in x y xs ys h e to) (others_in y x ys xs k (sym e) from) in
    ap₂ (λ (z : List ℕ) (zs : List (List ℕ)). z ∷ zs) e others

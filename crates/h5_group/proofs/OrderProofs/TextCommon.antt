-- Two texts in one segment are in the order of the first bytes that differ, or of the zero that ends one of them.
use Rattle.std.proofs.Common.{Ordering, Less, Equal, Greater, ◌≡◌, ◌≢◌, ℕ, zero, suc, ◌+◌, ◌-◌, ◌<◌, ◌⊎◌, inl, inr, refl, sym, arith}
use Rattle.std.proofs.Common.{List, [], ◌∷◌, Bool, true, false, not, cond, length, drop, get_or, length-drop, get_or-drop}
use Rattle.std.specs.Prelude.{◌==◌, if◌then◌else◌, nat_lt}
use Rattle.std.specs.Cmp.Lexicographic.{slice_cmp}
use Rattle.std.specs.Ordering.{is_le, is_lt, nat_cmp, ordering_reverse, ordering_then}
use Rattle.std.proofs.lemmas.Bool.{cases_lt}
use Rattle.std.proofs.lemmas.Bool.Decides.{nat_tests}
use Rattle.h5_bytes.specs.Texts.{text_at, until_zero}
use Rattle.h5_group.specs.Order.Common.{HaveCommon}

-- what is not behind another is before it or the same
pub turned : (r : Ordering) → not (is_lt (ordering_reverse r)) ≡ is_le r
turned Less = refl
turned Equal = refl
turned Greater = refl

-- the bytes that differ decide
apart_decide : (x y : ℕ) (r : Ordering) → x ≢ y → (b : Bool) → nat_lt x y ≡ b → is_lt (ordering_then (cond b Less (cond (x == y) Equal Greater)) r) ≡ b
apart_decide x y r differ true e = refl
apart_decide x y r differ false e = let other : (x == y) ≡ false = grind (arith, nat_tests) in rw other refl

first_decides : (x y : ℕ) (us vs : List ℕ) → (x ≢ y) ⊎ (x ≡ 0) → (p q : Bool) → (x == 0) ≡ p → (y == 0) ≡ q
    → is_lt (slice_cmp nat_cmp (if p then [] else x ∷ us) (if q then [] else y ∷ vs)) ≡ nat_lt x y
first_decides x y us vs apart true true e f = grind (arith, nat_tests, e, f)
first_decides x y us vs apart true false e f = grind (arith, nat_tests, e, f)
first_decides x y us vs apart false true e f = grind (arith, nat_tests, e, f)
first_decides x y us vs (inl differ) false false e f = apart_decide x y (slice_cmp nat_cmp us vs) differ (nat_lt x y) refl
first_decides x y us vs (inr none) false false e f = absurd (grind (arith, nat_tests, e, none))

lists_decide : (k : ℕ) (xs ys : List ℕ) → k < length xs → k < length ys
    → ((j : ℕ) → j < k → (get_or xs j 0 ≡ get_or ys j 0) × (get_or xs j 0 ≢ 0))
    → (get_or xs k 0 ≢ get_or ys k 0) ⊎ (get_or xs k 0 ≡ 0) → is_lt (slice_cmp nat_cmp (until_zero xs) (until_zero ys)) ≡ nat_lt (get_or xs k 0) (get_or ys k 0)
lists_decide k [] ys low high common apart = absurd (omega (arith, low))
lists_decide k (x ∷ xs) [] low high common apart = absurd (omega (arith, high))
lists_decide zero (x ∷ xs) (y ∷ ys) low high common apart = first_decides x y (until_zero xs) (until_zero ys) apart (x == 0) (y == 0) refl refl
lists_decide (suc k) (x ∷ xs) (y ∷ ys) low high common apart =
    let first = common 0 (omega arith) in
    let some : (x == 0) ≡ false = grind (arith, nat_tests, first.1) in
    let other : (y == 0) ≡ false = grind (arith, nat_tests, first.0, first.1) in
    let less : nat_lt x y ≡ false = grind (arith, nat_tests, first.0) in
    let same : (x == y) ≡ true = grind (arith, nat_tests, first.0) in
    rw (some, other, less, same) (lists_decide k xs ys (omega (arith, low)) (omega (arith, high)) (λ j below. common (suc j) (omega arith)) apart)

module _ (segment : List ℕ) (at other k : ℕ) (low : at + k < length segment) (high : other + k < length segment) (common : HaveCommon segment at other k)
    (apart : (get_or segment (at + k) 0 ≢ get_or segment (other + k) 0) ⊎ (get_or segment (at + k) 0 ≡ 0)) where
  pub texts_decide : is_lt (slice_cmp nat_cmp (text_at segment at) (text_at segment other)) ≡ nat_lt (get_or segment (at + k) 0) (get_or segment (other + k) 0)
  unfolding text_at
  texts_decide =
      let at_is : (j : ℕ) → get_or (drop at segment) j 0 ≡ get_or segment (at + j) 0 = λ j. get_or-drop at segment j 0 in
      let other_is : (j : ℕ) → get_or (drop other segment) j 0 ≡ get_or segment (other + j) 0 = λ j. get_or-drop other segment j 0 in
      let decide = lists_decide k (drop at segment) (drop other segment) (omega (arith, length-drop at segment)) (omega (arith, length-drop other segment))
      (λ j below. rw (at_is j, other_is j) (common j below)) (rw (at_is k, other_is k) apart) in
      rw (at_is k, other_is k) at decide

-- the same where some bytes before them were found in common
module _ (segment : List ℕ) (offset other at at_other n : ℕ) (at_is : at ≡ offset + n) (other_is : at_other ≡ other + n) (first : HaveCommon segment offset other n)
    (k : ℕ) (second : HaveCommon segment at at_other k) where
  pub common_more : HaveCommon segment offset other (n + k)
  common_more j below = elim (cases_lt j n) [
    | inl less ↦ first j less
    | inr more ↦
        let i = j - n in
        let here : at + i ≡ offset + j = omega arith in
        let there : at_other + i ≡ other + j = omega arith in
        rw (here, there) at (second i (omega arith))
  ]

  pub texts_decide_on : at + k < length segment → at_other + k < length segment
      → (get_or segment (at + k) 0 ≢ get_or segment (at_other + k) 0) ⊎ (get_or segment (at + k) 0 ≡ 0)
      → nat_lt (get_or segment (at + k) 0) (get_or segment (at_other + k) 0) ≡ is_lt (slice_cmp nat_cmp (text_at segment offset) (text_at segment other))
  texts_decide_on low high apart =
      let here : at + k ≡ offset + (n + k) = omega arith in
      let there : at_other + k ≡ other + (n + k) = omega arith in
      let apart_on = rw (here, there) at apart in
      rw (here, there) (sym (texts_decide segment offset other (n + k) (omega arith) (omega arith) common_more apart_on))

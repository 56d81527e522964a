-- What sixteen bytes from one place and from another have in common: the bits of the masks that comparisons of them give.
use Rattle.std.proofs.Common.{◌≡◌, ◌≢◌, ℕ, ◌+◌, ◌%◌, ◌^◌, ◌<◌, ◌≤◌, ◌⊎◌, inl, inr, refl, sym, ap, ◌∙◌, arith, w8, w64}
use Rattle.std.proofs.Common.{List, Bool, true, false, not, cond, eqb, map, max, length, get_or, bit_or, replicate}
use native.Mathlib.Nat.{zero-div}
use Rattle.std.specs.Int.{bit_at}
use Rattle.std.proofs.lemmas.Bool.{cases_lt, eqb-true, eqb-false}
use Rattle.std.proofs.lemmas.List.{get_or-map, get_or_past, length-map}
use Rattle.std.proofs.lemmas.Nat.{or_lt}
use Rattle.std.proofs.lemmas.Nat.Bits.{bit_at_or, bit_at-trailing_zeros}
use Rattle.std.proofs.lemmas.Simd.{length-chunk, get_or-chunk, length-zip2, get_or-zip2, bit_mask_l, mask_l-lt, mask_l-mod, tops_compared, bitmask_splat}
use lib.Count.{count_trailing_zeros}
use lib.Lanes.{chunk, mask_l, top, zip2}
use Rattle.h5_group.specs.Order.Common.{HaveCommon}

-- the bit that two tests give, of which the first says that bytes differ and the second that a byte is zero
is_clear : (p q : Bool) → max (cond {A = ℕ} (not p) 1 0) (cond q 1 0) ≡ 0 → (p ≡ true) × (q ≡ false)
is_clear true true e = absurd (omega (arith, e))
is_clear true false e = (refl, refl)
is_clear false true e = absurd (omega (arith, e))
is_clear false false e = absurd (omega (arith, e))

is_set : (p q : Bool) → max (cond {A = ℕ} (not p) 1 0) (cond q 1 0) ≡ 1 → (p ≡ false) ⊎ (q ≡ true)
is_set p true e = inr refl
is_set true false e = absurd (omega (arith, e))
is_set false false e = inl refl

module _ (segment : List ℕ) (at other : ℕ) (low : at + 16 ≤ length segment) (high : other + 16 ≤ length segment) where
  abbrev differ : List Bool
  differ = zip2 (λ a b. not (eqb a b)) (chunk at 16 segment) (chunk other 16 segment)

  abbrev zeros : List Bool
  zeros = map (λ x. eqb x 0) (chunk at 16 segment)

  abbrev apart_in : ℕ
  apart_in = bit_or (mask_l differ) (mask_l zeros)

  long : length (chunk at 16 segment) ≡ 16
  long = length-chunk at 16 segment low

  other_long : length (chunk other 16 segment) ≡ 16
  other_long = length-chunk other 16 segment high

  differ_long : length differ ≡ 16
  differ_long = length-zip2 (λ a b. not (eqb a b)) (chunk at 16 segment) (chunk other 16 segment) (long ∙ sym other_long) ∙ long

  zeros_long : length zeros ≡ 16
  zeros_long = length-map (chunk at 16 segment) (λ x. eqb x 0) ∙ long

  -- the same mask, as the comparisons of vectors give it
  abbrev pub compared : ℕ
  compared = bit_or (mask_l (map (top 7) (zip2 (λ a b. cond (not (eqb a b)) 255 0) (chunk at 16 segment) (chunk other 16 segment))) % 2 ^ 64)
      (mask_l (map (top 7) (zip2 (λ a b. cond (eqb a b) 255 0) (chunk at 16 segment) (replicate 16 0))) % 2 ^ 64)

  compared_is : compared ≡ apart_in
  compared_is =
      let first : mask_l (map (top 7) (zip2 (λ a b. cond (not (eqb a b)) 255 0) (chunk at 16 segment) (chunk other 16 segment))) % 2 ^ 64 ≡ mask_l differ
      = ap (λ ms. mask_l ms % 2 ^ 64) (tops_compared w8 (λ a b. not (eqb a b)) (chunk at 16 segment) (chunk other 16 segment))
      ∙ mask_l-mod differ 64 (omega (arith, differ_long)) in
      let second = bitmask_splat w8 eqb (chunk at 16 segment) 16 0 long (omega arith) in
      λ i. bit_or (first i) (second i)

  lane : (k : ℕ) → k < 16 → bit_at apart_in k
      ≡ max (cond (not (eqb (get_or segment (at + k) 0) (get_or segment (other + k) 0))) 1 0) (cond (eqb (get_or segment (at + k) 0) 0) 1 0)
  lane k below =
      let first : bit_at (mask_l differ) k ≡ cond (not (eqb (get_or segment (at + k) 0) (get_or segment (other + k) 0))) 1 0
      = bit_mask_l differ k ∙ ap (λ b. cond b 1 0) (get_or-zip2 (λ a b. not (eqb a b)) (chunk at 16 segment) (chunk other 16 segment) k 0 0 false
      (omega (arith, long)) (omega (arith, other_long)) ∙ (λ i. not (eqb (get_or-chunk at 16 segment k 0 below i) (get_or-chunk other 16 segment k 0 below i)))) in
      let second : bit_at (mask_l zeros) k ≡ cond (eqb (get_or segment (at + k) 0) 0) 1 0
      = bit_mask_l zeros k ∙ ap (λ b. cond b 1 0) (get_or-map (λ x. eqb x 0) (chunk at 16 segment) k 0 false (omega (arith, long))
      ∙ ap (λ x. eqb x 0) (get_or-chunk at 16 segment k 0 below)) in
      bit_at_or (mask_l differ) (mask_l zeros) k ∙ (λ i. max (first i) (second i))

  past : (k : ℕ) → 16 ≤ k → bit_at apart_in k ≡ 0
  past k beyond =
      let first : bit_at (mask_l differ) k ≡ 0 = bit_mask_l differ k ∙ ap (λ b. cond b 1 0) (get_or_past differ k false (omega (arith, differ_long))) in
      let second : bit_at (mask_l zeros) k ≡ 0 = bit_mask_l zeros k ∙ ap (λ b. cond b 1 0) (get_or_past zeros k false (omega (arith, zeros_long))) in
      bit_at_or (mask_l differ) (mask_l zeros) k ∙ omega (arith, first, second)

  common_lane : (k : ℕ) → k < 16 → bit_at apart_in k ≡ 0
      → (get_or segment (at + k) 0 ≡ get_or segment (other + k) 0) × (get_or segment (at + k) 0 ≢ 0)
  common_lane k below clear =
      let both = is_clear (eqb (get_or segment (at + k) 0) (get_or segment (other + k) 0)) (eqb (get_or segment (at + k) 0) 0) (sym (lane k below) ∙ clear) in
      (eqb-true _ _ both.0, eqb-false _ _ both.1)

  -- no bit is set
  pub all_common : compared ≡ 0 → HaveCommon segment at other 16
  all_common none k below = common_lane k below (ap (λ m. bit_at m k) (sym compared_is ∙ none) ∙ ap (λ n. n % 2) (zero-div (2 ^ k)))

  module _ (some : compared ≢ 0) where
    -- where the lowest bit is set
    abbrev pub lowest : ℕ
    lowest = count_trailing_zeros 64 compared

    small : compared < 2 ^ 64
    small =
        let first : mask_l differ < 2 ^ 16 = omega (arith, mask_l-lt differ, ap (λ n. 2 ^ n) differ_long) in
        let second : mask_l zeros < 2 ^ 16 = omega (arith, mask_l-lt zeros, ap (λ n. 2 ^ n) zeros_long) in
        omega (arith, compared_is, or_lt 16 (mask_l differ) (mask_l zeros) first second)

    facts : (lowest < 64) × (bit_at compared lowest ≡ 1) × ((i : ℕ) → i < lowest → bit_at compared i ≡ 0)
    facts = bit_at-trailing_zeros w64 compared (omega arith) small

    pub lowest_few : lowest < 16
    lowest_few = elim (cases_lt lowest 16) [ inl below ↦ below | inr beyond ↦ absurd (omega (arith, ap (λ m. bit_at m lowest) compared_is, past lowest beyond, facts.1)) ]

    pub lowest_common : HaveCommon segment at other lowest
    lowest_common k below = common_lane k (omega (arith, lowest_few)) (ap (λ m. bit_at m k) (sym compared_is) ∙ facts.2 k below)

    pub lowest_apart : (get_or segment (at + lowest) 0 ≢ get_or segment (other + lowest) 0) ⊎ (get_or segment (at + lowest) 0 ≡ 0)
    lowest_apart =
        let bit = sym (lane lowest lowest_few) ∙ ap (λ m. bit_at m lowest) (sym compared_is) ∙ facts.1 in
        elim (is_set (eqb (get_or segment (at + lowest) 0) (get_or segment (other + lowest) 0)) (eqb (get_or segment (at + lowest) 0) 0) bit) [
          | inl differs ↦ inl (eqb-false _ _ differs)
          | inr none ↦ inr (eqb-true _ _ none)
        ]

-- Where the first zero is among sixteen bytes that are compared at once: the lowest bit of the mask that the comparison gives.
use Rattle.std.proofs.Common.{◌≡◌, ◌≢◌, ℕ, ◌+◌, ◌-◌, ◌^◌, ◌<◌, ◌≤◌, List, Bool, true, false, cond, eqb, map, length, get_or, refl, sym, ap, ◌∙◌, inl, inr, arith, w64}
use Rattle.std.specs.Int.{bit_at}
use Rattle.std.proofs.lemmas.Bool.{cases_lt, eqb-true, eqb-false}
use Rattle.std.proofs.lemmas.List.{get_or-map, get_or_past, length-map}
use Rattle.std.proofs.lemmas.Nat.Bits.{bit_at-trailing_zeros}
use Rattle.std.proofs.lemmas.Simd.{length-chunk, get_or-chunk, bit_mask_l, mask_l-lt, none_from_empty_mask}
use lib.Count.{count_trailing_zeros}
use lib.Lanes.{chunk, mask_l}

abbrev is_zero : ℕ → Bool
is_zero x = eqb x 0

-- the mask of the sixteen bytes from a place on
abbrev pub zeros_from : List ℕ → ℕ → ℕ
zeros_from bytes from = mask_l (map is_zero (chunk from 16 bytes))

set_lane : (b : Bool) → cond {A = ℕ} b 1 0 ≡ 1 → b ≡ true
set_lane true e = refl
set_lane false e = absurd (omega arith)

clear_lane : (b : Bool) → cond {A = ℕ} b 1 0 ≡ 0 → b ≡ false
clear_lane true e = absurd (omega arith)
clear_lane false e = refl

module _ (bytes : List ℕ) (from : ℕ) (room : from + 16 ≤ length bytes) where
  long : length (map is_zero (chunk from 16 bytes)) ≡ 16
  long = length-map (chunk from 16 bytes) is_zero ∙ length-chunk from 16 bytes room

  -- bit k says whether byte k of them is zero
  lane : (k : ℕ) → k < 16 → bit_at (zeros_from bytes from) k ≡ cond (is_zero (get_or bytes (from + k) 0)) 1 0
  lane k low =
      bit_mask_l (map is_zero (chunk from 16 bytes)) k
      ∙ ap (λ b. cond b 1 0) (get_or-map is_zero (chunk from 16 bytes) k 0 false (omega (arith, length-chunk from 16 bytes room)) ∙ ap is_zero (get_or-chunk from 16 bytes k 0 low))

  -- no other bit is set
  past : (k : ℕ) → 16 ≤ k → bit_at (zeros_from bytes from) k ≡ 0
  past k high = bit_mask_l (map is_zero (chunk from 16 bytes)) k ∙ ap (λ b. cond b 1 0) (get_or_past (map is_zero (chunk from 16 bytes)) k false (omega (arith, long)))

  -- no bit is set
  pub none_zero : zeros_from bytes from ≡ 0 → (k : ℕ) → from ≤ k → k < from + 16 → get_or bytes k 0 ≢ 0
  none_zero none k low high = λ here. eqb-false (get_or bytes k 0) 0 (none_from_empty_mask is_zero bytes from 16 0 room none k low high) here

  module _ (mask : ℕ) (is : mask ≡ zeros_from bytes from) (some : mask ≢ 0) where
    -- where the lowest bit is set
    abbrev pub lowest : ℕ
    lowest = count_trailing_zeros 64 mask

    facts : (lowest < 64) × (bit_at mask lowest ≡ 1) × ((i : ℕ) → i < lowest → bit_at mask i ≡ 0)
    facts = bit_at-trailing_zeros w64 mask (omega arith) (omega (arith, mask_l-lt (map is_zero (chunk from 16 bytes)), ap (λ n. 2 ^ n) long))

    pub lowest_low : lowest < 16
    lowest_low = elim (cases_lt lowest 16) [ inl low ↦ low | inr high ↦ absurd (omega (arith, ap (λ m. bit_at m lowest) is, past lowest high, facts.1)) ]

    pub lowest_zero : get_or bytes (from + lowest) 0 ≡ 0
    lowest_zero = eqb-true (get_or bytes (from + lowest) 0) 0 (set_lane _ (sym (ap (λ m. bit_at m lowest) is ∙ lane lowest lowest_low) ∙ facts.1))

    pub lowest_first : (k : ℕ) → from ≤ k → k < from + lowest → get_or bytes k 0 ≢ 0
    lowest_first k low high =
        let i = k - from in
        let back : from + i ≡ k = omega arith in
        let below : i < 16 = omega (arith, lowest_low) in
        let clear : is_zero (get_or bytes (from + i) 0) ≡ false = clear_lane _ (sym (ap (λ m. bit_at m i) is ∙ lane i below) ∙ facts.2 i (omega arith)) in
        λ here. eqb-false (get_or bytes (from + i) 0) 0 clear (ap (λ j. get_or bytes j 0) back ∙ here)

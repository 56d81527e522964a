-- The numbers that an axis selects, by their positions.
use Rattle.std.proofs.Common.{◌≡◌, ℕ, zero, suc, ◌+◌, ◌-◌, ◌*◌, ◌/◌, ◌%◌, ◌^◌, ◌<◌, ◌≤◌, ◌⊎◌, inl, inr, ◌++◌, length, get_or, max, refl, ap, ◌∙◌, arith, true, false}
use Rattle.std.proofs.lemmas.Bool.Decides.{nat_tests}
use Rattle.std.proofs.lemmas.Bool.{cases_lt, cases_order}
use Rattle.std.proofs.lemmas.Nat.{div-add-mod', div-mul-add, mod-mul-add, div_below, mod_below, mul-lt}
use Rattle.std.proofs.lemmas.List.{get_or_append_left, get_or-append_right, length-append}
use Rattle.std.proofs.Math.Nat.{mul-le-mul_left, mul-le-mul_right}
use Rattle.std.specs.List.{flat_map}
use Rattle.h5_model.specs.declared.Axis.{Axis}
use Rattle.h5_model.specs.Views.Selection.{has_no_cell, overlaps, fits_along}
use Rattle.h5_shape.specs.SpacedPlaces.{spaced_places}
use Rattle.h5_shape.specs.Parts.{numbers_along}
use Rattle.h5_shape.specs.PartsLeft.{IsBoxed}

length-spaced : (n step p : ℕ) → length (spaced_places n step p) ≡ n
length-spaced zero step p = refl
length-spaced (suc n) step p = ap suc (length-spaced n step (p + step))

get_or-spaced : (n step p i : ℕ) → i < n → get_or (spaced_places n step p) i 0 ≡ p + i * step
get_or-spaced zero step p i low = absurd (omega arith)
get_or-spaced (suc n) step p zero low = omega arith
get_or-spaced (suc n) step p (suc i) low = get_or-spaced n step (p + step) i (omega arith) ∙ omega arith

pub length-rows : (b e st n p : ℕ) → length (flat_map (spaced_places b e) (spaced_places n st p)) ≡ n * b
length-rows b e st zero p = omega arith
length-rows b e st (suc n) p =
    length-append (spaced_places b e p) (flat_map (spaced_places b e) (spaced_places n st (p + st)))
    ∙ omega (arith, length-spaced b e p, length-rows b e st n (p + st))

-- a position by its block, and its place there
abbrev pub offset_at : ℕ → ℕ → ℕ → ℕ
offset_at block stride t = t / block * stride + t % block

pub quotient-low : (b t : ℕ) → t < b → (t / b ≡ 0) × (t % b ≡ t)
quotient-low b t low =
    let none : 0 * b + t ≡ t = omega arith in
    (rw none at (div-mul-add 0 b t low), rw none at (mod-mul-add 0 b t low))

quotient-next : (b t : ℕ) → 0 < b → ((b + t) / b ≡ t / b + 1) × ((b + t) % b ≡ t % b)
quotient-next b t some =
    let whole : t / b * b + t % b ≡ t = div-add-mod' t b in
    let rest : t % b < b = mod_below t b some in
    let same : (t / b + 1) * b + t % b ≡ b + t = omega arith in
    (rw same at (div-mul-add (t / b + 1) b (t % b) rest), rw same at (mod-mul-add (t / b + 1) b (t % b) rest))

-- the place at a position: so far into a row, so many rows on
pub get_or-rows : (b e st n p t : ℕ) → 0 < b → t < n * b → get_or (flat_map (spaced_places b e) (spaced_places n st p)) t 0 ≡ p + t / b * st + t % b * e
get_or-rows b e st zero p t some low = absurd (omega arith)
get_or-rows b e st (suc n) p t some low =
    let rest = flat_map (spaced_places b e) (spaced_places n st (p + st)) in
    elim (cases_lt t b) [
      | inl here ↦
          let long : t < length (spaced_places b e p) = omega (arith, length-spaced b e p) in
          let parts = quotient-low b t here in
          let first : get_or (spaced_places b e p ++ rest) t 0 ≡ p + t * e = get_or_append_left (spaced_places b e p) rest 0 t long ∙ get_or-spaced b e p t here in
          rw (parts.0, parts.1) (first ∙ omega arith)
      | inr past ↦
          let back : b + (t - b) ≡ t = omega arith in
          let parts : (t / b ≡ (t - b) / b + 1) × (t % b ≡ (t - b) % b) = rw back at (quotient-next b (t - b) some) in
          let one : get_or (spaced_places b e p ++ rest) t 0 ≡ get_or rest (t - b) 0 = get_or-append_right (spaced_places b e p) rest b t 0 (length-spaced b e p) past in
          let two : get_or rest (t - b) 0 ≡ p + st + (t - b) / b * st + (t - b) % b * e = get_or-rows b e st n (p + st) (t - b) some (omega arith) in
          rw (parts.0, parts.1) (one ∙ two ∙ omega arith)
    ]

-- ---- order

pub offset_rises : (b st s t : ℕ) → 0 < b → b ≤ st → s < t → offset_at b st s < offset_at b st t
offset_rises b st s t some wide less =
    let first : s / b * b + s % b ≡ s = div-add-mod' s b in
    let second : t / b * b + t % b ≡ t = div-add-mod' t b in
    let low : s % b < b = mod_below s b some in
    elim (cases_order (s / b) (t / b)) [
      | inl same ↦ let equal : s / b * b ≡ t / b * b = ap (λ (q : ℕ). q * b) same in
          let apart : s / b * st ≡ t / b * st = ap (λ (q : ℕ). q * st) same in omega arith
      | inr other ↦ elim other [
        | inl before ↦ let steps : (s / b + 1) * st ≤ t / b * st = mul-le-mul_right st (omega arith) in omega arith
        | inr behind ↦ let steps : (t / b + 1) * b ≤ s / b * b = mul-le-mul_right b (omega arith) in absurd (omega (arith, mod_below t b some))
      ]
    ]

-- by at least one for each position
pub offset_grows : (b st k s : ℕ) → 0 < b → b ≤ st → offset_at b st s + k ≤ offset_at b st (s + k)
offset_grows b st zero s some wide = let none : s + 0 ≡ s = omega arith in rw none (omega arith)
offset_grows b st (suc k) s some wide =
    let next : s + suc k ≡ suc (s + k) = omega arith in
    rw next (omega (arith, offset_grows b st k s some wide, offset_rises b st (s + k) (suc (s + k)) some wide (omega arith)))

-- the last position of which the offset is at most r, in blocks without end
abbrev pub reached : ℕ → ℕ → ℕ → ℕ → ℕ
reached b st r m = r / st * b + m

-- positions up to there have an offset of at most r, and those behind it have more
pub within_reach : (b st r m t : ℕ) → 0 < b → b ≤ st → m < b → m ≤ r % st → (b ≤ m + 1) ⊎ (r % st ≤ m)
    → ((t ≤ reached b st r m) × (offset_at b st t ≤ r)) ⊎ ((reached b st r m < t) × (r < offset_at b st t))
within_reach b st r m t some wide inner low full =
    let whole : r / st * st + r % st ≡ r = div-add-mod' r st in
    let under : r % st < st = mod_below r st (omega arith) in
    let place : t / b * b + t % b ≡ t = div-add-mod' t b in
    let rest : t % b < b = mod_below t b some in
    elim (cases_order (t / b) (r / st)) [
      | inl same ↦
          let equal : t / b * b ≡ r / st * b = ap (λ (q : ℕ). q * b) same in
          let apart : t / b * st ≡ r / st * st = ap (λ (q : ℕ). q * st) same in
          elim (cases_lt m (t % b)) [
            | inl more ↦ elim full [ inl last ↦ absurd (omega arith) | inr all ↦ inr (omega arith, omega arith) ]
            | inr less ↦ inl (omega arith, omega arith)
          ]
      | inr other ↦ elim other [
        | inl before ↦
            let steps : (t / b + 1) * st ≤ r / st * st = mul-le-mul_right st (omega arith) in
            let blocks : (t / b + 1) * b ≤ r / st * b = mul-le-mul_right b (omega arith) in
            inl (omega arith, omega arith)
        | inr behind ↦
            let steps : (r / st + 1) * st ≤ t / b * st = mul-le-mul_right st (omega arith) in
            let blocks : (r / st + 1) * b ≤ t / b * b = mul-le-mul_right b (omega arith) in
            inr (omega arith, omega arith)
      ]
    ]

-- ---- an axis

-- what a selected axis keeps to
pub axis_facts : (a : Axis) (box : ℕ) → IsBoxed a box
    → (0 < a.count) × (0 < a.block) × ((a.block ≤ a.stride) ⊎ (a.count ≤ 1)) × (a.start + (a.count - 1) * a.stride + a.block ≤ 2 ^ 64)
axis_facts a box h =
    let some : has_no_cell a ≡ false = h.some in
    let apart : overlaps a ≡ false = h.apart in
    let top : fits_along (2 ^ 64) a ≡ true = h.top in
    (grind (arith, nat_tests), grind (arith, nat_tests), grind (arith, nat_tests), grind (arith, nat_tests))

pub length-numbers : (a : Axis) → length (numbers_along a) ≡ a.count * a.block
length-numbers a = length-rows a.block 1 a.stride a.count a.start

-- a stride of at least a block serves as well
pub number_at : (a : Axis) (box st t : ℕ) → IsBoxed a box → ((a.block ≤ a.stride) → st ≡ a.stride) → t < a.count * a.block
    → (get_or (numbers_along a) t 0 ≡ a.start + offset_at a.block st t) × (a.start + offset_at a.block st t < 2 ^ 64)
number_at a box st t h same low =
    let f = axis_facts a box h in
    let here : t / a.block < a.count = div_below t a.block a.count f.1 low in
    let rest : t % a.block < a.block = mod_below t a.block f.1 in
    let steps : t / a.block * a.stride ≤ (a.count - 1) * a.stride = mul-le-mul_right a.stride (omega arith) in
    let offsets : offset_at a.block a.stride t ≡ offset_at a.block st t = elim f.2 [
      | inl wide ↦ rw (same wide) refl
      | inr lone ↦ let first : t / a.block ≡ 0 = omega arith in rw first (omega arith)
    ] in
    let value : get_or (numbers_along a) t 0 ≡ a.start + offset_at a.block a.stride t = get_or-rows a.block 1 a.stride a.count a.start t f.1 low ∙ omega arith in
    (value ∙ ap (λ (n : ℕ). a.start + n) offsets, omega (arith, f.3, offsets))

pub few_numbers : (a : Axis) (box : ℕ) → IsBoxed a box → a.count * a.block ≤ 2 ^ 64
few_numbers a box h =
    let f = axis_facts a box h in
    let whole : (a.count - 1) + 1 ≡ a.count = omega (arith, f.0) in
    let total : ((a.count - 1) + 1) * a.block ≡ (a.count - 1) * a.block + a.block = omega arith in
    let blocks : (a.count - 1) * a.block ≤ (a.count - 1) * a.stride = elim f.2 [
      | inl wide ↦ mul-le-mul_left (a.count - 1) wide
      | inr lone ↦ let none : a.count - 1 ≡ 0 = omega arith in rw none (omega arith)
    ] in
    rw whole at (let room : ((a.count - 1) + 1) * a.block ≤ 2 ^ 64 = omega (arith, f.3) in room)

pub some_numbers : (a : Axis) (box : ℕ) → IsBoxed a box → 0 < a.count * a.block
some_numbers a box h = let f = axis_facts a box h in mul-lt 0 0 a.count a.block f.0 f.1

pub number_is : (a : Axis) (box t : ℕ) → IsBoxed a box → t < a.count * a.block → get_or (numbers_along a) t 0 ≡ a.start + t / a.block * a.stride + t % a.block
number_is a box t h low =
    let f = axis_facts a box h in
    get_or-rows a.block 1 a.stride a.count a.start t f.1 low ∙ omega arith

pub numbers_rise : (a : Axis) (box i j : ℕ) → IsBoxed a box → i ≤ j → j < length (numbers_along a) → get_or (numbers_along a) i 0 ≤ get_or (numbers_along a) j 0
numbers_rise a box i j h order low =
    let f = axis_facts a box h in
    let st = max a.stride a.block in
    let high : j < a.count * a.block = omega (arith, length-numbers a) in
    let first = number_at a box st i h (λ (wide : a.block ≤ a.stride). omega arith) (omega arith) in
    let second = number_at a box st j h (λ (wide : a.block ≤ a.stride). omega arith) high in
    let back : i + (j - i) ≡ j = omega arith in
    let grows : offset_at a.block st i + (j - i) ≤ offset_at a.block st j = rw back at (offset_grows a.block st (j - i) i f.1 (omega arith)) in
    rw (first.0, second.0) (omega arith)

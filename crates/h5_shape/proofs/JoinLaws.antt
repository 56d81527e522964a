-- Runs at the numbers that an axis selects: they are one run where they follow one another without a gap, and otherwise none.
use Rattle.std.proofs.Common.{◌≡◌, ℕ, zero, suc, ◌+◌, ◌-◌, ◌*◌, ◌<◌, ◌≤◌, ◌≢◌, ◌⊎◌, inl, inr, List, [], ◌∷◌, ◌++◌, refl, ap, ◌∙◌, arith, true, false, ◌&&◌, ◌||◌}
use Rattle.std.proofs.lemmas.Bool.Decides.{nat_tests}
use Rattle.std.proofs.lemmas.Grind.{flat_map-append}
use Rattle.std.proofs.lemmas.List.{append-nil}
use Rattle.std.proofs.Math.Nat.{mul-le-mul_right}
use Rattle.std.specs.Prelude.{◌==◌}
use Rattle.std.specs.List.{flat_map}
use Rattle.h5_model.specs.declared.Axis.{Axis}
use Rattle.h5_model.specs.Views.Selection.{rises_by_one, is_run}
use Rattle.h5_shape.specs.SpacedPlaces.{spaced_places}
use Rattle.h5_shape.specs.InnerRuns.{follow_on, selects_along}
use Rattle.h5_shape.proofs.SpacedLaws.{same_flat, spaced_rows, spaced_join}

-- ---- lists that are no run

rises_front : (p : ℕ) (xs ys : List ℕ) → rises_by_one p xs ≡ false → rises_by_one p (xs ++ ys) ≡ false
rises_front p [] ys h = absurd (cc)
rises_front p (x ∷ xs) ys h = elim (x == p) as (λ b. (b && rises_by_one (p + 1) xs) ≡ false → (b && rises_by_one (p + 1) (xs ++ ys)) ≡ false) [
  | true ↦ λ rest. rises_front (p + 1) xs ys rest
  | false ↦ λ _. refl
] h

-- what begins with places that are no run is none
pub run_front : (p : ℕ) (xs ys : List ℕ) → is_run (p ∷ xs) ≡ false → is_run ((p ∷ xs) ++ ys) ≡ false
run_front p xs ys h = rises_front (p + 1) xs ys h

rises_broken : (n p q : ℕ) (ys : List ℕ) → q ≢ p + n → rises_by_one p (spaced_places n 1 p ++ q ∷ ys) ≡ false
rises_broken zero p q ys else = let test : (q == p) ≡ false = grind (arith, nat_tests) in rw test refl
rises_broken (suc n) p q ys else =
    let here : (p == p) ≡ true = grind (arith, nat_tests) in
    rw here (rises_broken n (p + 1) q ys (λ same. else (omega arith)))

-- consecutive places with one behind them that is not the next
pub run_broken : (n p q : ℕ) (ys : List ℕ) → 0 < n → q ≢ p + n → is_run (spaced_places n 1 p ++ q ∷ ys) ≡ false
run_broken zero p q ys some else = absurd (omega arith)
run_broken (suc n) p q ys some else = rises_broken n (p + 1) q ys (λ same. else (omega arith))

-- ---- an axis that selects

-- what the test of an axis says
pub record IsFree (size : ℕ) (a : Axis) : Type 0 where
  pub stride : 0 < a.stride
  pub count : 0 < a.count
  pub block : 0 < a.block
  pub apart : (a.block ≤ a.stride) ⊎ (a.count ≤ 1)
  pub room : a.start + (a.count - 1) * a.stride + a.block ≤ size

pub free_axis : (size : ℕ) (a : Axis) → selects_along size a ≡ true → IsFree size a
free_axis size a h = record {
  stride = grind (arith, nat_tests);
  count = grind (arith, nat_tests);
  block = grind (arith, nat_tests);
  apart = grind (arith, nat_tests);
  room = grind (arith, nat_tests);
}

-- the places of the numbers that an axis selects, of which the first stands here
abbrev pub numbers_from : Axis → ℕ → ℕ → List ℕ
numbers_from a step p = flat_map (spaced_places a.block step) (spaced_places a.count (a.stride * step) p)

-- ---- without a gap

-- one number, or whole runs at numbers that follow one another
pub follow_cases : (a : Axis) (m step : ℕ) → follow_on a m step ≡ true → ((a.count ≡ 1) × (a.block ≡ 1)) ⊎ ((m ≡ step) × ((a.count ≡ 1) ⊎ (a.stride ≡ a.block)))
follow_cases a m step h = grind (arith, nat_tests)

row_of : (a : Axis) (step p : ℕ) → (a.count ≡ 1) ⊎ (a.stride ≡ a.block) → numbers_from a step p ≡ spaced_places (a.count * a.block) step p
row_of a step p (inl one) =
    let all : 1 * a.block ≡ a.block = omega arith in
    rw one (rw all (append-nil (spaced_places a.block step p)))
row_of a step p (inr same) = rw same (spaced_rows a.count a.block step p)

pub joined : (a : Axis) (m step : ℕ) (f : ℕ → List ℕ) → ((q : ℕ) → f q ≡ spaced_places m 1 q) → follow_on a m step ≡ true
    → (p : ℕ) → flat_map f (numbers_from a step p) ≡ spaced_places (a.count * a.block * m) 1 p
joined a m step f inner h p = elim (follow_cases a m step h) [
  | inl one ↦
      let all : 1 * 1 * m ≡ m = omega arith in
      rw (one.0, one.1) (rw all (append-nil (f p) ∙ inner p))
  | inr row ↦
      ap (flat_map f) (row_of a step p row.1)
      ∙ same_flat f (spaced_places m 1) inner (spaced_places (a.count * a.block) step p)
      ∙ rw row.0 (spaced_join (a.count * a.block) step p)
]

-- ---- with a gap

broken_behind : (f : ℕ → List ℕ) (m : ℕ) → 0 < m → ((q : ℕ) → f q ≡ spaced_places m 1 q) → (xs zs : List ℕ) (n p q : ℕ) → flat_map f xs ≡ spaced_places n 1 p
    → 0 < n → q ≢ p + n → is_run (flat_map f (xs ++ q ∷ zs)) ≡ false
broken_behind f zero some inner xs zs n p q front long else = absurd (omega arith)
broken_behind f (suc m) some inner xs zs n p q front long else =
    rw (flat_map-append f xs (q ∷ zs), front, inner q) (run_broken n p q (spaced_places m 1 (q + 1) ++ flat_map f zs) long else)

pub unjoined : (size : ℕ) (a : Axis) (m step : ℕ) (f : ℕ → List ℕ) → 0 < m → m ≤ step → ((q : ℕ) → f q ≡ spaced_places m 1 q) → IsFree size a
    → follow_on a m step ≡ false → (p : ℕ) → is_run (flat_map f (numbers_from a step p)) ≡ false
unjoined size a m step f some short inner free h p = by_numbers a.count a.block free.count free.block free.apart h where
  first : (q : ℕ) → flat_map f (q ∷ []) ≡ spaced_places m 1 q
  first q = append-nil (f q) ∙ inner q

  by_numbers : (n b : ℕ) → 0 < n → 0 < b → (b ≤ a.stride) ⊎ (n ≤ 1) → (n == 1 && b == 1 || m == step && (n == 1 || a.stride == b)) ≡ false
      → is_run (flat_map f (flat_map (spaced_places b step) (spaced_places n (a.stride * step) p))) ≡ false
  by_numbers zero b blocks cells apart h = absurd (omega arith)
  by_numbers (suc n) zero blocks cells apart h = absurd (omega arith)
  by_numbers (suc zero) (suc zero) blocks cells apart h = absurd (cc)
  by_numbers (suc zero) (suc (suc b)) blocks cells apart h =
      let part : m ≢ step = λ same. grind (arith, nat_tests) in
      broken_behind f m some inner (p ∷ []) _ m p (p + step) (first p) some (λ same. part (omega arith))
  by_numbers (suc (suc n)) (suc zero) blocks cells apart h =
      broken_behind f m some inner (p ∷ []) _ m p (p + a.stride * step) (first p) some (λ same.
      let far : 1 * step ≤ a.stride * step = mul-le-mul_right step (omega (arith, free.stride)) in
      let whole : m ≡ step = omega arith in
      let other : 2 ≤ a.stride = grind (arith, nat_tests) in
      let farther : 2 * step ≤ a.stride * step = mul-le-mul_right step other in
      omega arith)
  by_numbers (suc (suc n)) (suc (suc b)) blocks cells apart h = elim (m == step) as (λ v. (m == step) ≡ v
      → is_run (flat_map f (flat_map (spaced_places (suc (suc b)) step) (spaced_places (suc (suc n)) (a.stride * step) p))) ≡ false) [
        | false ↦ λ part. broken_behind f m some inner (p ∷ []) _ m p (p + step) (first p) some (λ same. grind (arith, nat_tests))
        | true ↦ λ whole.
            let row : m ≡ step = grind (arith, nat_tests) in
            let other : suc (suc (suc b)) ≤ a.stride = grind (arith, nat_tests) in
            let far : suc (suc (suc b)) * step ≤ a.stride * step = mul-le-mul_right step other in
            let q = p + a.stride * step in
            broken_behind f m some inner (spaced_places (suc (suc b)) step p) (spaced_places (suc b) step (q + step) ++ flat_map (spaced_places (suc (suc b)) step) (spaced_places n (a.stride * step) (q + a.stride * step)))
            (suc (suc b) * step) p q
            (same_flat f (spaced_places m 1) inner (spaced_places (suc (suc b)) step p) ∙ ap (λ (n : ℕ). flat_map (spaced_places n 1) (spaced_places (suc (suc b)) step p)) row ∙ spaced_join (suc (suc b)) step p)
            (omega arith) (λ same. omega arith)
      ] refl

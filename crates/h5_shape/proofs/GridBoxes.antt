-- The boxes of a grid by their first indexes, and what they hold.
use Rattle.std.proofs.Common.{◌≡◌, ℕ, zero, suc, ◌+◌, ◌-◌, ◌*◌, ◌/◌, ◌%◌, ◌<◌, ◌≤◌, inl, inr, List, [], ◌∷◌, length, get_or, map, refl, sym, ap, ap₂, ◌∙◌, subst, arith, Bool, true}
use Rattle.std.proofs.lemmas.Bool.{cases_order, and_parts}
use Rattle.std.proofs.lemmas.Bool.Decides.{nat_tests}
use Rattle.std.proofs.lemmas.List.Folds.{Any-from_list_any, list_any_at}
use Rattle.std.proofs.lemmas.List.FromFn.{get_or-range_with_len, length-range_with_len}
use Rattle.std.proofs.lemmas.List.Kept.{AllPairs-filter}
use Rattle.std.proofs.lemmas.Nat.{div-add-mod', div-mul-add, mod_below, le-div}
use Rattle.std.proofs.Math.Nat.{mul-le-mul_right}
use Rattle.std.specs.List.{AllPairs, filter, range_with_len}
use Rattle.h5_model.specs.Format.Links.{Before}
use Rattle.h5_model.specs.Tree.Grid.{boxes_along, boxes_of, corner_of, first_of_box, grid_of, in_box, inner_of, some_in_box}
use Rattle.h5_model.specs.Tree.Places.{IsInside, cells, index_of, is_inside, place_of}
use Rattle.h5_model.proofs.Members.{In, from_map, in_map, in_range}
use Rattle.h5_model.proofs.PlaceLaws.{index-place, inside-index, place_below, positive}
use Rattle.h5_shape.proofs.PartedLaws.{before_less, before_same, pairs_map}
use Rattle.h5_shape.proofs.RisingBoxes.{Rises, pairs_rise}

-- ---- sizes

pub factors : (b c : ℕ) → 0 < b * c → (0 < b) × (0 < c)
factors zero c some = absurd (omega (arith, some))
factors (suc b) c some = (omega arith, positive 0 (suc b) c some)

pub product : (b c : ℕ) → 0 < b → 0 < c → 0 < b * c
product b c some more = let one : 1 * c ≤ b * c = mul-le-mul_right c (omega (arith, some)) in omega (arith, one, more)

-- ---- the indexes that a box holds

-- an inner index
pub corner-in_box : (box at inner : List ℕ) → length at ≡ length box → IsInside box inner
    → (corner_of box (in_box at box inner) ≡ first_of_box box at) × (length (in_box at box inner) ≡ length box)
corner-in_box [] [] [] long inside = (refl, refl)
corner-in_box [] [] (i ∷ is) long inside = absurd inside
corner-in_box [] (n ∷ ns) inner long inside = absurd (omega (arith, long))
corner-in_box (b ∷ bs) [] inner long inside = absurd (omega (arith, long))
corner-in_box (b ∷ bs) (n ∷ ns) [] long inside = absurd inside
corner-in_box (b ∷ bs) (n ∷ ns) (i ∷ is) long inside =
    let rest = corner-in_box bs ns is (omega (arith, long)) inside.1 in
    let here : (n * b + i) / b * b ≡ n * b = ap (λ q. q * b) (div-mul-add n b i inside.0) in
    (ap₂ (λ (x : ℕ) (xs : List ℕ). x ∷ xs) here rest.0, ap suc rest.1)

-- an index of it
pub in_box-inner : (box at index : List ℕ) → 0 < cells box → length at ≡ length box → length index ≡ length box → corner_of box index ≡ first_of_box box at
    → IsInside box (inner_of box index) × (in_box at box (inner_of box index) ≡ index)
in_box-inner [] [] [] some long same corner = (tt, refl)
in_box-inner [] [] (x ∷ xs) some long same corner = absurd (omega (arith, same))
in_box-inner [] (n ∷ ns) index some long same corner = absurd (omega (arith, long))
in_box-inner (b ∷ bs) [] index some long same corner = absurd (omega (arith, long))
in_box-inner (b ∷ bs) (n ∷ ns) [] some long same corner = absurd (omega (arith, same))
in_box-inner (b ∷ bs) (n ∷ ns) (x ∷ xs) some long same corner =
    let parts = factors b (cells bs) some in
    let first : x / b * b ≡ n * b = cc in
    let others : corner_of bs xs ≡ first_of_box bs ns = cc in
    let rest = in_box-inner bs ns xs parts.1 (omega (arith, long)) (omega (arith, same)) others in
    let number : n * b + x % b ≡ x = omega (arith, first, div-add-mod' x b) in
    ((mod_below x b parts.0, rest.0), ap₂ (λ (y : ℕ) (ys : List ℕ). y ∷ ys) number rest.1)

-- an index of the box passes
pub record IsHeldIn (box first : List ℕ) (test : List ℕ → Bool) : Type 0 where
  pub index : List ℕ
  pub long : length index ≡ length box
  pub corner : corner_of box index ≡ first
  pub passes : test index ≡ true

pub some_held : (box : List ℕ) (test : List ℕ → Bool) (at : List ℕ) → length at ≡ length box → some_in_box box test at ≡ true → IsHeldIn box (first_of_box box at) test
some_held box test at long some =
    let at_place = λ (place : ℕ). test (in_box at box (index_of box place)) in
    let found = Any-from_list_any at_place (range_with_len 0 (cells box)) some in
    let low : found.0 < cells box = omega (arith, found.2, length-range_with_len 0 (cells box)) in
    let is : found.1 ≡ found.0 = sym found.3 ∙ get_or-range_with_len 0 (cells box) found.0 found.1 low ∙ omega arith in
    let inner = corner-in_box box at (index_of box found.1) long (inside-index box found.1 (omega (arith, is, low))) in
    record { index = in_box at box (index_of box found.1); long = inner.1; corner = inner.0; passes = found.4 }

pub held_some : (box : List ℕ) (test : List ℕ → Bool) (at : List ℕ) → 0 < cells box → length at ≡ length box → IsHeldIn box (first_of_box box at) test → some_in_box box test at ≡ true
held_some box test at some long held =
    let inner = in_box-inner box at held.index some long held.long held.corner in
    let place = place_of box (inner_of box held.index) in
    let low : place < cells box = place_below box (inner_of box held.index) inner.0 in
    let is : get_or (range_with_len 0 (cells box)) place 0 ≡ place = get_or-range_with_len 0 (cells box) place 0 low ∙ omega arith in
    list_any_at (λ (p : ℕ). test (in_box at box (index_of box p))) (range_with_len 0 (cells box)) place 0 (omega (arith, low, length-range_with_len 0 (cells box)))
    (ap (λ p. test (in_box at box (index_of box p))) is ∙ ap (λ inner. test (in_box at box inner)) (index-place box (inner_of box held.index) inner.0) ∙ ap test inner.1 ∙ held.passes)

-- ---- the grid

pub length-index_of : (ds : List ℕ) (p : ℕ) → length (index_of ds p) ≡ length ds
length-index_of [] p = refl
length-index_of (d ∷ ds) p = ap suc (length-index_of ds (p % cells ds))

pub length-grid_of : (sizes box : List ℕ) → length box ≡ length sizes → length (grid_of sizes box) ≡ length sizes
length-grid_of [] box long = refl
length-grid_of (d ∷ ds) [] long = absurd (omega (arith, long))
length-grid_of (d ∷ ds) (b ∷ bs) long = ap suc (length-grid_of ds bs (omega (arith, long)))

-- the place of an index's box in the grid
abbrev pub box_place : List ℕ → List ℕ → List ℕ
box_place [] index = []
box_place (b ∷ bs) [] = []
box_place (b ∷ bs) (x ∷ xs) = x / b ∷ box_place bs xs

first-box_place : (box index : List ℕ) → length index ≡ length box → (first_of_box box (box_place box index) ≡ corner_of box index) × (length (box_place box index) ≡ length box)
first-box_place [] index long = (refl, refl)
first-box_place (b ∷ bs) [] long = absurd (omega (arith, long))
first-box_place (b ∷ bs) (x ∷ xs) long =
    let rest = first-box_place bs xs (omega (arith, long)) in
    (ap (λ (ys : List ℕ). x / b * b ∷ ys) rest.0, ap suc rest.1)

along : (d b x : ℕ) → 0 < b → x < d → x / b < boxes_along d b
along d b x some low =
    let whole : x / b * b + x % b ≡ x = div-add-mod' x b in
    let more : (x / b + 1) * b ≤ d + b - 1 = omega (arith, whole, low, some) in
    let next : x / b + 1 ≤ (d + b - 1) / b = le-div (x / b + 1) (d + b - 1) b some more in
    omega (arith, next)

place-inside : (sizes box index : List ℕ) → 0 < cells box → length box ≡ length sizes → is_inside sizes index ≡ true → IsInside (grid_of sizes box) (box_place box index)
place-inside [] [] [] some long inside = tt
place-inside [] [] (x ∷ xs) some long inside = absurd (cc)
place-inside [] (b ∷ bs) index some long inside = absurd (omega (arith, long))
place-inside (d ∷ ds) [] index some long inside = absurd (omega (arith, long))
place-inside (d ∷ ds) (b ∷ bs) [] some long inside = absurd (cc)
place-inside (d ∷ ds) (b ∷ bs) (x ∷ xs) some long inside =
    let parts = factors b (cells bs) some in
    let split = and_parts _ (is_inside ds xs) inside in
    let low : x < d = grind (arith, nat_tests, split.0) in
    (along d b x parts.0 low, place-inside ds bs xs parts.1 (omega (arith, long)) split.1)

-- the box of an index inside is among the boxes
pub box_among : (sizes box index : List ℕ) → 0 < cells box → length box ≡ length sizes → length index ≡ length box → is_inside sizes index ≡ true
    → (at : List ℕ) × In at (boxes_of sizes box) × (length at ≡ length box) × (first_of_box box at ≡ corner_of box index)
box_among sizes box index some long same inside =
    let grid = grid_of sizes box in
    let at = box_place box index in
    let within : IsInside grid at = place-inside sizes box index some long inside in
    let place = place_of grid at in
    let low : place < cells grid = place_below grid at within in
    let there : In (index_of grid (0 + place)) (boxes_of sizes box) = in_map (index_of grid) (0 + place) (range_with_len 0 (cells grid)) (in_range 0 (cells grid) place low) in
    let is : index_of grid (0 + place) ≡ at = ap (index_of grid) (let none : 0 + place ≡ place = omega arith in none) ∙ index-place grid at within in
    let first = first-box_place box index same in
    (at, subst (λ (x : List ℕ). In x (boxes_of sizes box)) is there, first.1, first.0)

pub box_long : (sizes box at : List ℕ) → length box ≡ length sizes → In at (boxes_of sizes box) → length at ≡ length box
box_long sizes box at long there =
    let found = from_map (index_of (grid_of sizes box)) at (range_with_len 0 (cells (grid_of sizes box))) there in
    ap length (sym found.2) ∙ length-index_of (grid_of sizes box) found.0 ∙ length-grid_of sizes box long ∙ sym long

-- ---- their order

grid_before : (grid box : List ℕ) (p q : ℕ) → length grid ≡ length box → 0 < cells box → p < q → q < cells grid
    → Before (first_of_box box (index_of grid p)) (first_of_box box (index_of grid q))
grid_before [] [] p q long some order low = absurd (omega (arith, order, low))
grid_before [] (b ∷ bs) p q long some order low = absurd (omega (arith, long))
grid_before (g ∷ gs) [] p q long some order low = absurd (omega (arith, long))
grid_before (g ∷ gs) (b ∷ bs) p q long some order low =
    let parts = factors b (cells bs) some in
    let c = cells gs in
    let wide : 0 < c = positive q g c low in
    let left : p / c * c + p % c ≡ p = div-add-mod' p c in
    let right : q / c * c + q % c ≡ q = div-add-mod' q c in
    let small : p % c < c = mod_below p c wide in
    let tiny : q % c < c = mod_below q c wide in
    elim (cases_order (p / c) (q / c)) [
      | inl same ↦
          let heads : p / c * c ≡ q / c * c = ap (λ n. n * c) same in
          let rest = grid_before gs bs (p % c) (q % c) (omega (arith, long)) parts.1 (omega (arith, heads, left, right, order)) tiny in
          subst (λ n. Before (n * b ∷ first_of_box bs (index_of gs (p % c))) (q / c * b ∷ first_of_box bs (index_of gs (q % c)))) (sym same)
          (before_same (q / c * b) (first_of_box bs (index_of gs (p % c))) (first_of_box bs (index_of gs (q % c))) rest)
      | inr (inl less) ↦
          let step : (p / c + 1) * b ≤ q / c * b = mul-le-mul_right b (omega (arith, less)) in
          before_less (p / c * b) (q / c * b) (first_of_box bs (index_of gs (p % c))) (first_of_box bs (index_of gs (q % c))) (omega (arith, step, parts.0))
      | inr (inr more) ↦
          let step : (q / c + 1) * c ≤ p / c * c = mul-le-mul_right c (omega (arith, more)) in
          absurd (omega (arith, step, left, right, tiny, order))
    ]

pub boxes_rise : (sizes box : List ℕ) (test : List ℕ → Bool) → length box ≡ length sizes → 0 < cells box → Rises (map (first_of_box box) (filter test (boxes_of sizes box)))
boxes_rise sizes box test long some =
    let grid = grid_of sizes box in
    let R = λ (x y : List ℕ). Before (first_of_box box x) (first_of_box box y) in
    let places = range_with_len 0 (cells grid) in
    let firsts : AllPairs (λ (p q : ℕ). R (index_of grid p) (index_of grid q)) places = λ i j d order low.
    let high : j < cells grid = omega (arith, low, length-range_with_len 0 (cells grid)) in
    let one : get_or places i d ≡ i = get_or-range_with_len 0 (cells grid) i d (omega (arith, order, high)) ∙ omega arith in
    let two : get_or places j d ≡ j = get_or-range_with_len 0 (cells grid) j d high ∙ omega arith in
    subst (λ p. R (index_of grid p) (index_of grid (get_or places j d))) (sym one)
    (subst (λ q. R (index_of grid i) (index_of grid q)) (sym two) (grid_before grid box i j (length-grid_of sizes box long ∙ sym long) some order high)) in
    pairs_rise (map (first_of_box box) (filter test (boxes_of sizes box)))
    (pairs_map Before (first_of_box box) (filter test (boxes_of sizes box)) (AllPairs-filter R test (boxes_of sizes box) (pairs_map R (index_of grid) places firsts)))

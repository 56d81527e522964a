-- The selected cells by their positions.
use Rattle.std.proofs.Common.{◌≡◌, ℕ, zero, suc, ◌+◌, ◌-◌, ◌*◌, ◌/◌, ◌%◌, ◌<◌, ◌≤◌, ◌⊎◌, inl, inr, List, [], ◌∷◌, length, get_or, refl, sym, ap, ◌∙◌, arith, false}
use Rattle.std.proofs.lemmas.Bool.{cases_order, or_parts}
use Rattle.std.proofs.lemmas.Bool.Decides.{nat_tests}
use Rattle.std.proofs.lemmas.Nat.{div-mul-add, mod-mul-add, div_below, mod_below, mul-add-lt, div-add-mod'}
use Rattle.std.proofs.lemmas.List.{get_or_append_left, get_or-append_right, length-append}
use Rattle.std.specs.List.{flat_map, list_any}
use Rattle.h5_model.specs.declared.Axis.{Axis}
use Rattle.h5_model.specs.Tree.Places.{cells, place_of, IsInside}
use Rattle.h5_model.specs.Views.Selection.{Slab, Selected, Within, selection_of, overlaps, selects_none}
use Rattle.h5_model.proofs.PlaceLaws.{positive, place_below}
use Rattle.h5_shape.specs.SpacedPlaces.{spaced_places, selected_from, first_place}
use Rattle.h5_shape.specs.PartCells.{selection_shape, selected_index}
use Rattle.h5_shape.proofs.AlongLaws.{get_or-rows, length-rows, offset_rises}
use Rattle.h5_shape.proofs.SelectedPlaces.{selection-from}
use Rattle.h5_shape.proofs.SlabRuns.{within_fits}

-- ---- selected indexes

pub position-selected : (slab : Slab) (at : List ℕ) → IsInside (selection_shape slab) at → Selected slab (selected_index slab at)
position-selected [] [] h = tt
position-selected [] (t ∷ ts) h = absurd h
position-selected (a ∷ rest) [] h = absurd h
position-selected (a ∷ rest) (t ∷ ts) h =
    let some : 0 < a.block = positive t a.count a.block h.0 in
    ((t / a.block, t % a.block, div_below t a.block a.count some h.0, mod_below t a.block some, refl), position-selected rest ts h.1)

pub selected-position : (slab : Slab) (index : List ℕ) → Selected slab index → (at : List ℕ) × IsInside (selection_shape slab) at × (selected_index slab at ≡ index)
selected-position [] [] h = ([], tt, refl)
selected-position [] (x ∷ xs) h = absurd h
selected-position (a ∷ rest) [] h = absurd h
selected-position (a ∷ rest) (x ∷ xs) h =
    let i = h.0.0 in
    let j = h.0.1 in
    let below = selected-position rest xs h.1 in
    let low : j < a.block = h.0.3 in
    let inside : i * a.block + j < a.block * a.count = mul-add-lt i a.block j a.count h.0.2 low in
    let quotient : (i * a.block + j) / a.block ≡ i = div-mul-add i a.block j low in
    let remainder : (i * a.block + j) % a.block ≡ j = mod-mul-add i a.block j low in
    let number : a.start + (i * a.block + j) / a.block * a.stride + (i * a.block + j) % a.block ≡ x = rw (quotient, remainder) (sym h.0.4) in
    ((i * a.block + j) ∷ below.0, (omega arith, below.1), rw (number, below.2) refl)

-- ---- the place of a value

-- pieces of one length
get_or-pieces : (f : ℕ → List ℕ) (m : ℕ) → ((x : ℕ) → length (f x) ≡ m) → (xs : List ℕ) (i j : ℕ) → i < length xs → j < m
    → get_or (flat_map f xs) (i * m + j) 0 ≡ get_or (f (get_or xs i 0)) j 0
get_or-pieces f m long [] i j low small = absurd (omega arith)
get_or-pieces f m long (x ∷ xs) zero j low small =
    let first : zero * m + j ≡ j = omega arith in
    let within : j < length (f x) = omega (arith, long x) in
    rw first (get_or_append_left (f x) (flat_map f xs) 0 j within)
get_or-pieces f m long (x ∷ xs) (suc i) j low small =
    let past : m ≤ suc i * m + j = omega arith in
    let less : (suc i * m + j) - m ≡ i * m + j = omega arith in
    get_or-append_right (f x) (flat_map f xs) m (suc i * m + j) 0 (long x) past
    ∙ ap (λ (n : ℕ). get_or (flat_map f xs) n 0) less ∙ get_or-pieces f m long xs i j (omega arith) small

length-pieces : (f : ℕ → List ℕ) (m : ℕ) → ((x : ℕ) → length (f x) ≡ m) → (xs : List ℕ) → length (flat_map f xs) ≡ length xs * m
length-pieces f m long [] = omega arith
length-pieces f m long (x ∷ xs) = length-append (f x) (flat_map f xs) ∙ omega (arith, long x, length-pieces f m long xs)

pub length-selected_from : (sizes : List ℕ) (slab : Slab) → length sizes ≡ length slab → (p : ℕ) → length (selected_from sizes slab p) ≡ cells (selection_shape slab)
length-selected_from [] [] rank p = refl
length-selected_from [] (a ∷ rest) rank p = absurd (omega arith)
length-selected_from (d ∷ ds) [] rank p = absurd (omega arith)
length-selected_from (d ∷ ds) (a ∷ rest) rank p =
    let c = cells ds in
    let starts = flat_map (spaced_places a.block c) (spaced_places a.count (a.stride * c) p) in
    length-pieces (selected_from ds rest) (cells (selection_shape rest)) (length-selected_from ds rest (omega arith)) starts
    ∙ ap (λ (n : ℕ). n * cells (selection_shape rest)) (length-rows a.block c (a.stride * c) a.count p)

pub get_or-selected_from : (sizes : List ℕ) (slab : Slab) (at : List ℕ) (q : ℕ) → length sizes ≡ length slab → IsInside (selection_shape slab) at
    → get_or (selected_from sizes slab (q + first_place sizes slab)) (place_of (selection_shape slab) at) 0 ≡ q + place_of sizes (selected_index slab at)
get_or-selected_from [] [] [] q rank h = refl
get_or-selected_from [] [] (t ∷ ts) q rank h = absurd h
get_or-selected_from [] (a ∷ rest) at q rank h = absurd (omega arith)
get_or-selected_from (d ∷ ds) [] at q rank h = absurd (omega arith)
get_or-selected_from (d ∷ ds) (a ∷ rest) [] q rank h = absurd h
get_or-selected_from (d ∷ ds) (a ∷ rest) (t ∷ ts) q rank h =
    let c = cells ds in
    let o = first_place ds rest in
    let p = q + (a.start * c + o) in
    let starts = flat_map (spaced_places a.block c) (spaced_places a.count (a.stride * c) p) in
    let some : 0 < a.block = positive t a.count a.block h.0 in
    let low : t < length starts = omega (arith, length-rows a.block c (a.stride * c) a.count p, h.0) in
    let x = a.start + t / a.block * a.stride + t % a.block in
    let start : get_or starts t 0 ≡ (q + x * c) + o = get_or-rows a.block c (a.stride * c) a.count p t some h.0 ∙ omega arith in
    get_or-pieces (selected_from ds rest) (cells (selection_shape rest)) (length-selected_from ds rest (omega arith)) starts t (place_of (selection_shape rest) ts) low (place_below (selection_shape rest) ts h.1)
    ∙ ap (λ (n : ℕ). get_or (selected_from ds rest n) (place_of (selection_shape rest) ts) 0) start
    ∙ get_or-selected_from ds rest ts (q + x * c) (omega arith) h.1 ∙ omega arith

-- the value of the cell at a position is the one at its row-major place among those selected
pub selection-position : (sizes : List ℕ) (slab : Slab) (at : List ℕ) → length sizes ≡ length slab → Within sizes slab → selects_none slab ≡ false → list_any overlaps slab ≡ false
    → IsInside (selection_shape slab) at → get_or (selection_of sizes slab) (place_of (selection_shape slab) at) 0 ≡ place_of sizes (selected_index slab at)
selection-position sizes slab at rank within some apart h =
    let zero_add : 0 + first_place sizes slab ≡ first_place sizes slab = omega arith in
    let none : 0 + place_of sizes (selected_index slab at) ≡ place_of sizes (selected_index slab at) = omega arith in
    ap (λ (places : List ℕ). get_or places (place_of (selection_shape slab) at) 0) (selection-from sizes slab rank (within_fits sizes slab within some) apart
    ∙ ap (selected_from sizes slab) (sym zero_add)) ∙ get_or-selected_from sizes slab at 0 rank h ∙ none

-- ---- no two positions have one index

same_number : (a : Axis) (t u : ℕ) → overlaps a ≡ false → t < a.count * a.block → u < a.count * a.block
    → a.start + t / a.block * a.stride + t % a.block ≡ a.start + u / a.block * a.stride + u % a.block → t ≡ u
same_number a t u apart low high same =
    let some : 0 < a.block = positive t a.count a.block low in
    let wide : (a.block ≤ a.stride) ⊎ (a.count ≤ 1) = grind (arith, nat_tests) in
    let first : t / a.block * a.block + t % a.block ≡ t = div-add-mod' t a.block in
    let second : u / a.block * a.block + u % a.block ≡ u = div-add-mod' u a.block in
    elim wide [
      | inl far ↦ elim (cases_order t u) [
        | inl equal ↦ equal
        | inr other ↦ elim other [
          | inl less ↦ absurd (omega (arith, offset_rises a.block a.stride t u some far less))
          | inr more ↦ absurd (omega (arith, offset_rises a.block a.stride u t some far more))
        ]
      ]
      | inr lone ↦
          let one : t / a.block < a.count = div_below t a.block a.count some low in
          let two : u / a.block < a.count = div_below u a.block a.count some high in
          let left : t / a.block ≡ 0 = omega arith in
          let right : u / a.block ≡ 0 = omega arith in
          let start : 0 * a.block + t % a.block ≡ t = rw left at first in
          let end : 0 * a.block + u % a.block ≡ u = rw right at second in
          let plain : a.start + 0 * a.stride + t % a.block ≡ a.start + 0 * a.stride + u % a.block = rw (left, right) at same in
          omega arith
    ]

pub position-once : (slab : Slab) (at other : List ℕ) → list_any overlaps slab ≡ false → IsInside (selection_shape slab) at → IsInside (selection_shape slab) other
    → selected_index slab at ≡ selected_index slab other → at ≡ other
position-once [] [] [] apart one two same = refl
position-once [] [] (u ∷ us) apart one two same = absurd two
position-once [] (t ∷ ts) other apart one two same = absurd one
position-once (a ∷ rest) [] other apart one two same = absurd one
position-once (a ∷ rest) (t ∷ ts) [] apart one two same = absurd two
position-once (a ∷ rest) (t ∷ ts) (u ∷ us) apart one two same =
    let free : (overlaps a ≡ false) × (list_any overlaps rest ≡ false) = or_parts (overlaps a) (list_any overlaps rest) apart in
    let number : a.start + t / a.block * a.stride + t % a.block ≡ a.start + u / a.block * a.stride + u % a.block = cc in
    let others : selected_index rest ts ≡ selected_index rest us = cc in
    let here : t ≡ u = same_number a t u free.0 one.0 two.0 number in
    let below : ts ≡ us = position-once rest ts us free.1 one.1 two.1 others in
    rw (here, below) refl

-- A selection's places are what its axes list.
use Rattle.std.proofs.Common.{◌≡◌, ℕ, zero, suc, ◌+◌, ◌-◌, ◌*◌, ◌/◌, ◌%◌, ◌<◌, ◌≤◌, ◌⊎◌, inl, inr, List, [], ◌∷◌, ◌++◌, length, map, refl, sym, ap, ◌∙◌, arith, Bool, true, false, cond, ◌&&◌}
use Rattle.std.proofs.lemmas.Bool.Decides.{nat_tests}
use Rattle.std.proofs.lemmas.Bool.{cases_lt, and_parts, or_parts}
use Rattle.std.proofs.lemmas.Nat.{div-mul-add, mod-mul-add}
use Rattle.std.proofs.lemmas.List.Elements.{filter-append}
use Rattle.std.proofs.lemmas.Grind.{flat_map-append}
use Rattle.std.proofs.lemmas.List.{append-nil, map-append}
use Rattle.std.proofs.lemmas.List.Folds.{flat_map-map}
use Rattle.std.proofs.Math.Nat.{mul-le-mul_right}
use Rattle.std.specs.List.{flat_map, filter, range_with_len, list_any}
use Rattle.h5_model.specs.Tree.Places.{cells, index_of}
use Rattle.h5_model.specs.declared.Axis.{Axis}
use Rattle.h5_model.specs.Views.Selection.{Slab, in_block, is_selected_along, is_selected, selection_of, fits_along, fits_all, overlaps}
use Rattle.h5_model.proofs.SelectionLaws.{from_some_below, range-append, to_some_below}
use Rattle.h5_shape.specs.SpacedPlaces.{spaced_places, selected_from, first_place}
use Rattle.h5_shape.proofs.SpacedLaws.{same_flat}

-- ---- ranges

pub filter_none : (p : ℕ → Bool) (a n : ℕ) → ((x : ℕ) → a ≤ x → x < a + n → p x ≡ false) → filter p (range_with_len a n) ≡ []
filter_none p a zero none = refl
filter_none p a (suc n) none =
    let here : p a ≡ false = none a (omega arith) (omega arith) in
    rw here (filter_none p (a + 1) n (λ x low high. none x (omega arith) (omega arith)))

filter_all : (p : ℕ → Bool) (a n : ℕ) → ((x : ℕ) → a ≤ x → x < a + n → p x ≡ true) → filter p (range_with_len a n) ≡ spaced_places n 1 a
filter_all p a zero all = refl
filter_all p a (suc n) all =
    let here : p a ≡ true = all a (omega arith) (omega arith) in
    rw here (ap (λ (xs : List ℕ). a ∷ xs) (filter_all p (a + 1) n (λ x low high. all x (omega arith) (omega arith))))

filter_agree : (p q : ℕ → Bool) (a n : ℕ) → ((x : ℕ) → a ≤ x → x < a + n → p x ≡ q x) → filter p (range_with_len a n) ≡ filter q (range_with_len a n)
filter_agree p q a zero same = refl
filter_agree p q a (suc n) same =
    let here : p a ≡ q a = same a (omega arith) (omega arith) in
    let rest : filter p (range_with_len (a + 1) n) ≡ filter q (range_with_len (a + 1) n) = filter_agree p q (a + 1) n (λ x low high. same x (omega arith) (omega arith)) in
    rw (here, rest) refl

filter_shift : (p : ℕ → Bool) (a b n : ℕ) → filter p (range_with_len (a + b) n) ≡ map (λ x. a + x) (filter (λ x. p (a + x)) (range_with_len b n))
filter_shift p a b zero = refl
filter_shift p a b (suc n) =
    let next : (a + b) + 1 ≡ a + (b + 1) = omega arith in
    let rest : filter p (range_with_len ((a + b) + 1) n) ≡ map (λ x. a + x) (filter (λ x. p (a + x)) (range_with_len (b + 1) n)) = rw next (filter_shift p a (b + 1) n) in
    rw rest (elim (p (a + b)) as (λ v. cond v ((a + b) ∷ map (λ x. a + x) (filter (λ x. p (a + x)) (range_with_len (b + 1) n))) (map (λ x. a + x) (filter (λ x. p (a + x)) (range_with_len (b + 1) n)))
    ≡ map (λ x. a + x) (cond v (b ∷ filter (λ x. p (a + x)) (range_with_len (b + 1) n)) (filter (λ x. p (a + x)) (range_with_len (b + 1) n)))) [ true ↦ refl | false ↦ refl ])

-- ---- an axis

-- what a selected number is
in_some : (a : Axis) (x : ℕ) → is_selected_along a x ≡ true
    → (i : ℕ) × (i < a.count) × (a.start + i * a.stride ≤ x) × (x < a.start + i * a.stride + a.block)
in_some a x h =
    let found : (i : ℕ) × (i < a.count) × (in_block a x i ≡ true) = from_some_below a.count (in_block a x) h in
    let low : a.start + found.0 * a.stride ≤ x = grind (arith, nat_tests, found.2) in
    let high : x < a.start + found.0 * a.stride + a.block = grind (arith, nat_tests, found.2) in
    (found.0, found.1, low, high)

not_selected : (a : Axis) (x : ℕ) → ((i : ℕ) → i < a.count → a.start + i * a.stride ≤ x → a.start + i * a.stride + a.block ≤ x) → is_selected_along a x ≡ false
not_selected a x none = elim (is_selected_along a x) as (λ b. is_selected_along a x ≡ b → b ≡ false) [
  | false ↦ λ _. refl
  | true ↦ λ e. let found : (i : ℕ) × (i < a.count) × (a.start + i * a.stride ≤ x) × (x < a.start + i * a.stride + a.block) = in_some a x e in
      let past : a.start + found.0 * a.stride + a.block ≤ x = none found.0 found.1 found.2 in
      absurd (omega (arith, found.3))
] refl

-- from x on stand the blocks from i on
blocks : (a : Axis) (d : ℕ) → (a.block ≤ a.stride) ⊎ (a.count ≤ 1) → ((i : ℕ) → i < a.count → a.start + i * a.stride + a.block ≤ d)
    → (k i x n : ℕ) → i + k ≡ a.count → x + n ≡ d → ((j : ℕ) → j < i → a.start + j * a.stride + a.block ≤ x)
    → ((j : ℕ) → i ≤ j → j < a.count → x ≤ a.start + j * a.stride)
    → filter (is_selected_along a) (range_with_len x n) ≡ flat_map (spaced_places a.block 1) (spaced_places k a.stride (a.start + i * a.stride))
blocks a d apart ends zero i x n all size before after =
    filter_none (is_selected_along a) x n (λ y low high. not_selected a y (λ j below _.
    let past : a.start + j * a.stride + a.block ≤ x = before j (omega arith) in omega arith))
blocks a d apart ends (suc k) i x n all size before after =
    let s = a.start + i * a.stride in
    let first : x ≤ a.start + i * a.stride = after i (omega arith) (omega arith) in
    let last : a.start + i * a.stride + a.block ≤ d = ends i (omega arith) in
    let gap : x + ((a.start + i * a.stride) - x) ≡ a.start + i * a.stride = omega arith in
    let n' = d - (s + a.block) in
    let parts : n ≡ (s - x) + (a.block + n') = omega arith in
    let one : filter (is_selected_along a) (range_with_len x (s - x)) ≡ [] = filter_none (is_selected_along a) x (s - x) (λ y low high. not_selected a y (λ j below started.
    elim (cases_lt j i) [
      | inl early ↦ let past : a.start + j * a.stride + a.block ≤ x = before j early in omega arith
      | inr late ↦ let steps : i * a.stride ≤ j * a.stride = mul-le-mul_right a.stride late in absurd (omega arith)
    ])) in
    let two : filter (is_selected_along a) (range_with_len s a.block) ≡ spaced_places a.block 1 s = filter_all (is_selected_along a) s a.block (λ y low high.
    let here : in_block a y i ≡ true = grind (arith, nat_tests) in
    to_some_below a.count (in_block a y) i (omega arith) here) in
    let next : a.start + suc i * a.stride ≡ s + a.stride = omega arith in
    let three : filter (is_selected_along a) (range_with_len (s + a.block) n') ≡ flat_map (spaced_places a.block 1) (spaced_places k a.stride (a.start + suc i * a.stride)) =
    blocks a d apart ends k (suc i) (s + a.block) n' (omega arith) (omega arith)
    (λ j below. let steps : j * a.stride ≤ i * a.stride = mul-le-mul_right a.stride (omega arith) in omega arith)
    (λ j from below. let steps : suc i * a.stride ≤ j * a.stride = mul-le-mul_right a.stride from in
    elim apart [ inl wide ↦ omega arith | inr lone ↦ absurd (omega arith) ]) in
    let split : range_with_len x n ≡ range_with_len x (s - x) ++ (range_with_len s a.block ++ range_with_len (s + a.block) n') =
    ap (range_with_len x) parts ∙ range-append x (s - x) (a.block + n')
    ∙ ap (λ (from : ℕ). range_with_len x (s - x) ++ range_with_len from (a.block + n')) gap
    ∙ ap (λ (xs : List ℕ). range_with_len x (s - x) ++ xs) (range-append s a.block n') in
    ap (filter (is_selected_along a)) split
    ∙ filter-append (is_selected_along a) (range_with_len x (s - x)) (range_with_len s a.block ++ range_with_len (s + a.block) n')
    ∙ ap (λ (xs : List ℕ). xs ++ filter (is_selected_along a) (range_with_len s a.block ++ range_with_len (s + a.block) n')) one
    ∙ filter-append (is_selected_along a) (range_with_len s a.block) (range_with_len (s + a.block) n')
    ∙ ap (λ (xs : List ℕ). xs ++ filter (is_selected_along a) (range_with_len (s + a.block) n')) two
    ∙ ap (λ (xs : List ℕ). spaced_places a.block 1 s ++ xs) (three ∙ ap (λ (from : ℕ). flat_map (spaced_places a.block 1) (spaced_places k a.stride from)) next)

along : (a : Axis) (d : ℕ) → overlaps a ≡ false → fits_along d a ≡ true
    → filter (is_selected_along a) (range_with_len 0 d) ≡ flat_map (spaced_places a.block 1) (spaced_places a.count a.stride a.start)
along a d apart fits =
    let wide : (a.block ≤ a.stride) ⊎ (a.count ≤ 1) = grind (arith, nat_tests) in
    let room : a.start + (a.count - 1) * a.stride + a.block ≤ d = grind (arith, nat_tests) in
    let zero_add : a.start + 0 * a.stride ≡ a.start = omega arith in
    blocks a d wide
    (λ i low. let steps : i * a.stride ≤ (a.count - 1) * a.stride = mul-le-mul_right a.stride (omega arith) in omega arith)
    a.count 0 0 d (omega arith) (omega arith) (λ j low. absurd (omega arith)) (λ j low high. omega arith)
    ∙ ap (λ (from : ℕ). flat_map (spaced_places a.block 1) (spaced_places a.count a.stride from)) zero_add

-- ---- rows of a grid

grid : (f g : ℕ → Bool) (d c : ℕ)
    → filter (λ p. f (p / c) && g (p % c)) (range_with_len 0 (d * c)) ≡ flat_map (λ x. map (λ y. x * c + y) (filter g (range_with_len 0 c))) (filter f (range_with_len 0 d))
grid f g zero c = let none : zero * c ≡ 0 = omega arith in rw none refl
grid f g (suc d) c =
    let t = λ (p : ℕ). f (p / c) && g (p % c) in
    let h = λ (x : ℕ). map (λ y. x * c + y) (filter g (range_with_len 0 c)) in
    let grown : suc d * c ≡ d * c + c = omega arith in
    let one_more : suc d ≡ d + 1 = omega arith in
    let start : 0 + d * c ≡ d * c + 0 = omega arith in
    let zero_add : 0 + d ≡ d = omega arith in
    let row_here : filter t (range_with_len (0 + d * c) c) ≡ map (λ y. d * c + y) (filter (λ r. f d && g r) (range_with_len 0 c)) =
    ap (λ (from : ℕ). filter t (range_with_len from c)) start ∙ filter_shift t (d * c) 0 c
    ∙ ap (map (λ y. d * c + y)) (filter_agree (λ r. t (d * c + r)) (λ r. f d && g r) 0 c
    (λ r low high. ap (λ (q : ℕ). f q && g ((d * c + r) % c)) (div-mul-add d c r (omega arith)) ∙ ap (λ (q : ℕ). f d && g q) (mod-mul-add d c r (omega arith)))) in
    let upper : filter t (range_with_len 0 (d * c + c)) ≡ filter t (range_with_len 0 (d * c)) ++ filter t (range_with_len (0 + d * c) c) =
    ap (filter t) (range-append 0 (d * c) c) ∙ filter-append t (range_with_len 0 (d * c)) (range_with_len (0 + d * c) c) in
    let firsts : filter f (range_with_len 0 (d + 1)) ≡ filter f (range_with_len 0 d) ++ filter f (range_with_len (0 + d) 1) =
    ap (filter f) (range-append 0 d 1) ∙ filter-append f (range_with_len 0 d) (range_with_len (0 + d) 1) in
    let last : map (λ y. d * c + y) (filter (λ r. f d && g r) (range_with_len 0 c)) ≡ flat_map h (filter f (range_with_len (0 + d) 1)) =
    rw zero_add (chosen (f d) g d c) in
    ap (λ (n : ℕ). filter t (range_with_len 0 n)) grown ∙ upper
    ∙ ap (λ (xs : List ℕ). xs ++ filter t (range_with_len (0 + d * c) c)) (grid f g d c)
    ∙ ap (λ (xs : List ℕ). flat_map h (filter f (range_with_len 0 d)) ++ xs) (row_here ∙ last)
    ∙ sym (flat_map-append h (filter f (range_with_len 0 d)) (filter f (range_with_len (0 + d) 1)))
    ∙ ap (flat_map h) (sym firsts) ∙ ap (λ (n : ℕ). flat_map h (filter f (range_with_len 0 n))) (sym one_more) where
      none_chosen : (n a : ℕ) → filter (λ (r : ℕ). false) (range_with_len a n) ≡ []
      none_chosen zero a = refl
      none_chosen (suc n) a = none_chosen n (a + 1)

      chosen : (b : Bool) (g : ℕ → Bool) (d c : ℕ) → map (λ y. d * c + y) (filter (λ r. b && g r) (range_with_len 0 c))
          ≡ flat_map (λ x. map (λ y. x * c + y) (filter g (range_with_len 0 c))) (cond b (d ∷ []) [])
      chosen true g d c = sym (append-nil (map (λ y. d * c + y) (filter g (range_with_len 0 c))))
      chosen false g d c = ap (map (λ y. d * c + y)) (none_chosen c 0)

-- ---- shifts

pub map_flat : {X Y Z : Type 0} (h : Y → Z) (f : X → List Y) (xs : List X) → map h (flat_map f xs) ≡ flat_map (λ x. map h (f x)) xs
map_flat h f [] = refl
map_flat {X} {Y} {Z} h f (x ∷ xs) = map-append h (f x) (flat_map f xs) ∙ ap (λ (zs : List Z). map h (f x) ++ zs) (map_flat h f xs)

pub spaced_shift : (o n s p : ℕ) → spaced_places n s (o + p) ≡ map (λ x. o + x) (spaced_places n s p)
spaced_shift o zero s p = refl
spaced_shift o (suc n) s p =
    let next : (o + p) + s ≡ o + (p + s) = omega arith in
    rw next (ap (λ (xs : List ℕ). (o + p) ∷ xs) (spaced_shift o n s (p + s)))

spaced_scale : (c o n s p : ℕ) → map (λ x. x * c + o) (spaced_places n s p) ≡ spaced_places n (s * c) (p * c + o)
spaced_scale c o zero s p = refl
spaced_scale c o (suc n) s p =
    let next : (p + s) * c + o ≡ (p * c + o) + s * c = omega arith in
    let rest : map (λ x. x * c + o) (spaced_places n s (p + s)) ≡ spaced_places n (s * c) ((p * c + o) + s * c) = spaced_scale c o n s (p + s) ∙ ap (spaced_places n (s * c)) next in
    rw rest refl

pub selected_from_shift : (o : ℕ) (sizes : List ℕ) (slab : Slab) (p : ℕ) → selected_from sizes slab (o + p) ≡ map (λ x. o + x) (selected_from sizes slab p)
selected_from_shift o [] slab p = refl
selected_from_shift o (d ∷ ds) [] p = refl
selected_from_shift o (d ∷ ds) (a ∷ rest) p =
    let c = cells ds in
    let outer = spaced_places a.count (a.stride * c) p in
    ap (λ (xs : List ℕ). flat_map (selected_from ds rest) (flat_map (spaced_places a.block c) xs)) (spaced_shift o a.count (a.stride * c) p)
    ∙ ap (flat_map (selected_from ds rest)) (flat_map-map (spaced_places a.block c) (λ x. o + x) outer
    ∙ same_flat (λ x. spaced_places a.block c (o + x)) (λ x. map (λ y. o + y) (spaced_places a.block c x)) (λ x. spaced_shift o a.block c x) outer
    ∙ sym (map_flat (λ y. o + y) (spaced_places a.block c) outer))
    ∙ flat_map-map (selected_from ds rest) (λ x. o + x) (flat_map (spaced_places a.block c) outer)
    ∙ same_flat (λ x. selected_from ds rest (o + x)) (λ x. map (λ y. o + y) (selected_from ds rest x)) (λ x. selected_from_shift o ds rest x) (flat_map (spaced_places a.block c) outer)
    ∙ sym (map_flat (λ y. o + y) (selected_from ds rest) (flat_map (spaced_places a.block c) outer))

-- ---- the selection

chosen_cells : (sizes : List ℕ) (slab : Slab) → length sizes ≡ length slab → fits_all sizes slab ≡ true → list_any overlaps slab ≡ false
    → filter (λ place. is_selected slab (index_of sizes place)) (range_with_len 0 (cells sizes)) ≡ selected_from sizes slab (first_place sizes slab)
chosen_cells [] [] same fits apart = refl
chosen_cells [] (a ∷ rest) same fits apart = absurd (omega arith)
chosen_cells (d ∷ ds) [] same fits apart = absurd (omega arith)
chosen_cells (d ∷ ds) (a ∷ rest) same fits apart =
    let c = cells ds in
    let o = first_place ds rest in
    let split : (fits_along d a ≡ true) × (fits_all ds rest ≡ true) = and_parts (fits_along d a) (fits_all ds rest) fits in
    let free : (overlaps a ≡ false) × (list_any overlaps rest ≡ false) = or_parts (overlaps a) (list_any overlaps rest) apart in
    let g = λ (r : ℕ). is_selected rest (index_of ds r) in
    let below : filter g (range_with_len 0 c) ≡ selected_from ds rest o = chosen_cells ds rest (omega arith) split.1 free.1 in
    let axis : filter (is_selected_along a) (range_with_len 0 d) ≡ flat_map (spaced_places a.block 1) (spaced_places a.count a.stride a.start) = along a d free.0 split.0 in
    let blocks_of = flat_map (spaced_places a.block 1) (spaced_places a.count a.stride a.start) in
    let unit : 1 * c ≡ c = omega arith in
    let scaled : map (λ x. x * c + o) blocks_of ≡ flat_map (spaced_places a.block c) (spaced_places a.count (a.stride * c) (a.start * c + o)) =
    map_flat (λ x. x * c + o) (spaced_places a.block 1) (spaced_places a.count a.stride a.start)
    ∙ same_flat (λ x. map (λ y. y * c + o) (spaced_places a.block 1 x)) (λ x. spaced_places a.block c (x * c + o)) (λ x. spaced_scale c o a.block 1 x ∙ ap (λ (s : ℕ). spaced_places a.block s (x * c + o)) unit) (spaced_places a.count a.stride a.start)
    ∙ sym (flat_map-map (spaced_places a.block c) (λ x. x * c + o) (spaced_places a.count a.stride a.start))
    ∙ ap (flat_map (spaced_places a.block c)) (spaced_scale c o a.count a.stride a.start) in
    grid (is_selected_along a) g d c
    ∙ ap (flat_map (λ x. map (λ y. x * c + y) (filter g (range_with_len 0 c)))) axis
    ∙ same_flat (λ x. map (λ y. x * c + y) (filter g (range_with_len 0 c))) (λ x. selected_from ds rest (x * c + o))
    (λ x. ap (map (λ y. x * c + y)) below ∙ sym (selected_from_shift (x * c) ds rest o)) blocks_of
    ∙ sym (flat_map-map (selected_from ds rest) (λ x. x * c + o) blocks_of)
    ∙ ap (flat_map (selected_from ds rest)) scaled

pub selection-from : (sizes : List ℕ) (slab : Slab) → length sizes ≡ length slab → fits_all sizes slab ≡ true → list_any overlaps slab ≡ false
    → selection_of sizes slab ≡ selected_from sizes slab (first_place sizes slab)
unfolding selection_of
selection-from sizes slab same fits apart = chosen_cells sizes slab same fits apart

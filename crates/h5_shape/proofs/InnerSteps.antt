-- One more dimension around the selected cells of the inner ones.
use Rattle.std.proofs.Common.{◌≡◌, ℕ, zero, suc, ◌+◌, ◌-◌, ◌*◌, ◌<◌, ◌≤◌, ◌⊎◌, inl, inr, List, [], ◌∷◌, ◌++◌, length, drop, get_or, refl, sym, ap, ◌∙◌, arith, true, false, not, ◌||◌}
use Rattle.std.proofs.lemmas.List.{drop_all, drop_more}
use Rattle.std.proofs.Math.Nat.{mul-le-mul_right}
use Rattle.std.specs.List.{flat_map, list_any}
use Rattle.std.proofs.lemmas.Bool.{not-true, and_parts, or_parts}
use Rattle.h5_model.specs.Tree.Places.{cells}
use Rattle.h5_model.specs.declared.Axis.{Axis}
use Rattle.h5_model.specs.Views.Selection.{Slab, fits_along, fits_all, has_no_cell, has_no_stride, is_run, overlaps, selects_none}
use Rattle.h5_shape.specs.declared.single_run.InnerRun.{InnerRun}
use Rattle.h5_shape.specs.SpacedPlaces.{spaced_places, selected_from}
use Rattle.h5_shape.specs.InnerRuns.{HasNoInnerRun, IsInnerRun, IsSelecting, follow_on, selects_along}
use Rattle.h5_shape.proofs.JoinLaws.{IsFree, free_axis, follow_cases, numbers_from, joined, run_front, unjoined}

-- the axis of a dimension, and those of the dimensions behind it
pub axis_here : (slab : Slab) (k : ℕ) (a : Axis) → k < length slab → a ≡ get_or slab k a → drop k slab ≡ a ∷ drop (k + 1) slab
axis_here slab k a there is = drop_more slab k a there ∙ ap (λ (b : Axis). b ∷ drop (k + 1) slab) (sym is)

-- ---- what the axes keep to

pub split_axis : (d : ℕ) (ds : List ℕ) (a : Axis) (rest : Slab) → IsSelecting (d ∷ ds) (a ∷ rest) → (selects_along d a ≡ true) × IsSelecting ds rest
split_axis d ds a rest h =
    let strides : (has_no_stride a ≡ false) × (list_any has_no_stride rest ≡ false) = or_parts (has_no_stride a) (list_any has_no_stride rest) h.strides in
    let apart : (overlaps a ≡ false) × (list_any overlaps rest ≡ false) = or_parts (overlaps a) (list_any overlaps rest) h.apart in
    let some : (has_no_cell a ≡ false) × (selects_none rest ≡ false) = or_parts (has_no_cell a) (selects_none rest) h.some in
    let fits : (fits_along d a ≡ true) × (fits_all ds rest ≡ true) = and_parts (fits_along d a) (fits_all ds rest) h.fits in
    (rw (strides.0, apart.0, some.0, fits.0) refl, record { strides = strides.1; apart = apart.1; some = some.1; fits = fits.1 })

join_axis : (d : ℕ) (ds : List ℕ) (a : Axis) (rest : Slab) → selects_along d a ≡ true → IsSelecting ds rest → IsSelecting (d ∷ ds) (a ∷ rest)
join_axis d ds a rest here h =
    let parts : (not (has_no_stride a || (overlaps a || has_no_cell a)) ≡ true) × (fits_along d a ≡ true) = and_parts (not (has_no_stride a || (overlaps a || has_no_cell a))) (fits_along d a) here in
    let first : (has_no_stride a ≡ false) × ((overlaps a || has_no_cell a) ≡ false) = or_parts (has_no_stride a) (overlaps a || has_no_cell a) (not-true (has_no_stride a || (overlaps a || has_no_cell a)) parts.0) in
    let second : (overlaps a ≡ false) × (has_no_cell a ≡ false) = or_parts (overlaps a) (has_no_cell a) first.1 in
    record {
      strides = rw first.0 h.strides;
      apart = rw second.0 h.apart;
      some = rw second.1 h.some;
      fits = rw parts.1 h.fits;
    }

-- ---- no run

-- places that begin with this one
abbrev Begins : ℕ → List ℕ → Type 0
Begins p ps = (rest : List ℕ) × (ps ≡ p ∷ rest)

-- where each inner list begins with its place, so does the whole
begins_flat : (f : ℕ → List ℕ) → ((q : ℕ) → Begins q (f q)) → (n b t step p : ℕ) → 0 < n → 0 < b → Begins p (flat_map f (flat_map (spaced_places b step) (spaced_places n t p)))
begins_flat f heads zero b t step p blocks numbers = absurd (omega arith)
begins_flat f heads (suc n) zero t step p blocks numbers = absurd (omega arith)
begins_flat f heads (suc n) (suc b) t step p blocks numbers =
    let others = spaced_places b step (p + step) ++ flat_map (spaced_places (suc b) step) (spaced_places n t (p + t)) in
    ((heads p).0 ++ flat_map f others, ap (λ (xs : List ℕ). xs ++ flat_map f others) (heads p).1)

begins : (ds : List ℕ) (slab : Slab) → IsSelecting ds slab → (p : ℕ) → Begins p (selected_from ds slab p)
begins [] slab h p = ([], refl)
begins (d ∷ ds) [] h p = ([], refl)
begins (d ∷ ds) (a ∷ rest) h p =
    let split = split_axis d ds a rest h in
    let free = free_axis d a split.0 in
    begins_flat (selected_from ds rest) (begins ds rest split.1) a.count a.block (a.stride * cells ds) (cells ds) p free.count free.block

-- where no inner list is a run, the whole is none
broken_first : (f : ℕ → List ℕ) → ((q : ℕ) → Begins q (f q)) → ((q : ℕ) → is_run (f q) ≡ false) → (n b t step p : ℕ) → 0 < n → 0 < b
    → is_run (flat_map f (flat_map (spaced_places b step) (spaced_places n t p))) ≡ false
broken_first f heads none zero b t step p blocks numbers = absurd (omega arith)
broken_first f heads none (suc n) zero t step p blocks numbers = absurd (omega arith)
broken_first f heads none (suc n) (suc b) t step p blocks numbers =
    let others = flat_map f (spaced_places b step (p + step) ++ flat_map (spaced_places (suc b) step) (spaced_places n t (p + t))) in
    let here : is_run (p ∷ (heads p).0) ≡ false = ap is_run (sym (heads p).1) ∙ none p in
    ap (λ (xs : List ℕ). is_run (xs ++ others)) (heads p).1 ∙ run_front p (heads p).0 others here

module _ (d : ℕ) (ds : List ℕ) (a : Axis) (rest : Slab) where
  -- the inner cells are no run
  pub none_inner : HasNoInnerRun ds rest → HasNoInnerRun (d ∷ ds) (a ∷ rest)
  none_inner none h p =
      let split = split_axis d ds a rest h in
      let free = free_axis d a split.0 in
      broken_first (selected_from ds rest) (begins ds rest split.1) (none split.1) a.count a.block (a.stride * cells ds) (cells ds) p free.count free.block

  -- they are one, but do not follow one another
  pub none_joined : (inner : InnerRun) → selects_along d a ≡ true → IsInnerRun ds rest inner → follow_on a inner.length inner.cells ≡ false → HasNoInnerRun (d ∷ ds) (a ∷ rest)
  none_joined inner here run gap h p =
      ap (λ (n : ℕ). is_run (flat_map (selected_from ds rest) (numbers_from a n p))) (sym run.cells)
      ∙ unjoined d a inner.length inner.cells (selected_from ds rest) run.some (omega (arith, run.room)) run.places (free_axis d a here) gap p

-- ---- a run

-- numbers in a row end within the size
row_fits : (a : Axis) (d n b t : ℕ) → 0 < n → (n ≡ 1) ⊎ (t ≡ b) → a.start + (n - 1) * t + b ≤ d → a.start + n * b ≤ d
row_fits a d zero b t some row room = absurd (omega arith)
row_fits a d (suc n) b t some (inl one) room = rw one (let only : suc n - 1 ≡ 0 = omega arith in let low : a.start + 0 * t + b ≤ d = rw only at room in omega arith)
row_fits a d (suc n) b t some (inr same) room =
    let less : suc n - 1 ≡ n = omega arith in
    let low : a.start + n * b + b ≤ d = rw (less, same) at room in
    omega arith

run_room : (d : ℕ) (a : Axis) (o m c : ℕ) → IsFree d a → follow_on a m c ≡ true → o + m ≤ c → (a.start * c + o) + a.count * a.block * m ≤ d * c
run_room d a o m c free h room = elim (follow_cases a m c h) [
  | inl one ↦
      let low : a.start + 1 ≤ d = omega (arith, row_fits a d a.count a.block a.stride free.count (inl one.0) free.room, one.0, one.1) in
      let rows : (a.start + 1) * c ≤ d * c = mul-le-mul_right c low in
      rw (one.0, one.1) (omega arith)
  | inr row ↦
      let low : a.start + a.count * a.block ≤ d = row_fits a d a.count a.block a.stride free.count row.1 free.room in
      let rows : (a.start + a.count * a.block) * c ≤ d * c = mul-le-mul_right c low in
      rw row.0 (omega arith)
]

-- where the inner runs follow one another
pub run_around : (d : ℕ) (ds : List ℕ) (a : Axis) (rest : Slab) (inner : InnerRun) → selects_along d a ≡ true → IsInnerRun ds rest inner
    → follow_on a inner.length inner.cells ≡ true
    → IsInnerRun (d ∷ ds) (a ∷ rest) (record { place = a.start * inner.cells + inner.place; length = a.count * a.block * inner.length; cells = d * inner.cells })
run_around d ds a rest inner here run joins =
    let free = free_axis d a here in
    record {
      selecting = join_axis d ds a rest here run.selecting;
      start = rw (run.cells, run.start) refl;
      places = λ p. ap (λ (n : ℕ). flat_map (selected_from ds rest) (numbers_from a n p)) (sym run.cells) ∙ joined a inner.length inner.cells (selected_from ds rest) run.places joins p;
      some = positive a.count a.block inner.length free.count free.block run.some;
      room = run_room d a inner.place inner.length inner.cells free joins run.room;
      cells = ap (λ (n : ℕ). d * n) run.cells;
    } where
      positive : (n b m : ℕ) → 0 < n → 0 < b → 0 < m → 0 < n * b * m
      positive zero b m hn hb hm = absurd (omega arith)
      positive (suc n) zero m hn hb hm = absurd (omega arith)
      positive (suc n) (suc b) m hn hb hm = omega arith

-- ---- bounds

-- the inner dimensions have no more cells than all
pub inner_small : (d : ℕ) (ds : List ℕ) (a : Axis) (most : ℕ) → selects_along d a ≡ true → cells (d ∷ ds) ≤ most → cells ds ≤ most
inner_small d ds a most here small =
    let free = free_axis d a here in
    let more : 1 * cells ds ≤ d * cells ds = mul-le-mul_right (cells ds) (omega (arith, free.room, free.block)) in
    omega arith

-- the run ends within the cells of all
pub around_small : (d : ℕ) (ds : List ℕ) (a : Axis) (rest : Slab) (inner : InnerRun) (most : ℕ) → selects_along d a ≡ true → IsInnerRun ds rest inner
    → follow_on a inner.length inner.cells ≡ true → cells (d ∷ ds) ≤ most
    → (a.start * inner.cells + inner.place) + a.count * a.block * inner.length ≤ most
around_small d ds a rest inner most here run joins small =
    let whole : d * inner.cells ≡ d * cells ds = ap (λ (n : ℕ). d * n) run.cells in
    omega (arith, run_room d a inner.place inner.length inner.cells (free_axis d a here) joins run.room)

-- ---- no dimension

-- there is one cell
pub innermost : (sizes : List ℕ) (slab : Slab) (k : ℕ) → length slab ≡ length sizes → length sizes ≤ k
    → IsInnerRun (drop k sizes) (drop k slab) (record { place = 0; length = 1; cells = 1 })
innermost sizes slab k same past =
    let size : drop k sizes ≡ [] = drop_all k sizes past in
    let axis : drop k slab ≡ [] = drop_all k slab (omega arith) in
    rw (size, axis) (record {
      selecting = record { strides = refl; apart = refl; some = refl; fits = refl };
      start = refl;
      places = λ p. refl;
      some = omega arith;
      room = omega arith;
      cells = refl;
    })

-- Selections within few cells, and selections of no cell.
use Rattle.std.proofs.Common.{◌≡◌, ◌≢◌, ◌⊎◌, inl, inr, ℕ, zero, suc, ◌*◌, ◌^◌, ◌<◌, ◌≤◌, Bool, true, false, ◌||◌, List, [], ◌∷◌, length, replicate, refl, ap, ◌∙◌, arith}
use Rattle.std.proofs.lemmas.Bool.Decides.{nat_tests}
use Rattle.std.proofs.lemmas.List.{length-replicate}
use Rattle.std.proofs.Math.Nat.{mul-le-mul_left, mul-le-mul_right}
use Rattle.std.specs.List.{list_any}
use Rattle.std.proofs.lemmas.Bool.{or_right, and_parts, or_parts}
use Rattle.h5_model.specs.Format.Limits.{most_cells}
use Rattle.h5_model.specs.Tree.Places.{cells}
use Rattle.h5_model.specs.Views.Selection.{Slab, Within, fits_along, fits_all, has_no_cell, overlaps, selected_cells, selects_none}
use Rattle.h5_model.specs.declared.hyperslab.Axis.{Axis}
use Rattle.h5_model.proofs.WithinLaws.{from_is_within}
use Rattle.h5_shape.specs.InBox.{AreApart}
use Rattle.h5_shape.proofs.SlabRuns.{within_fits}

-- ---- few cells

axis_some : (d : ℕ) (a : Axis) → has_no_cell a ≡ false → fits_along d a ≡ true → 1 ≤ d
axis_some d a some fits =
    let more : 0 < a.block = grind (arith, nat_tests, some) in
    grind (arith, nat_tests, fits, more)

some_cells : (sizes : List ℕ) (slab : Slab) → length sizes ≡ length slab → fits_all sizes slab ≡ true → selects_none slab ≡ false → 1 ≤ cells sizes
some_cells [] slab rank fits some = omega arith
some_cells (d ∷ ds) [] rank fits some = absurd (omega (arith, rank))
some_cells (d ∷ ds) (a ∷ rest) rank fits some =
    let split = or_parts (has_no_cell a) (selects_none rest) some in
    let each = and_parts (fits_along d a) (fits_all ds rest) fits in
    let one : 1 ≤ cells ds = some_cells ds rest (omega (arith, rank)) each.1 split.1 in
    let first : 1 ≤ d = axis_some d a split.0 each.0 in
    let all : d * 1 ≤ d * cells ds = mul-le-mul_left d one in
    omega (arith, all, first)

-- each size is among few
size_few : (d : ℕ) (ds : List ℕ) → 1 ≤ d → 1 ≤ cells ds → d * cells ds ≤ most_cells → (d ≤ most_cells) × (cells ds ≤ most_cells)
size_few d ds some one few =
    let first : d * 1 ≤ d * cells ds = mul-le-mul_left d one in
    let rest : 1 * cells ds ≤ d * cells ds = mul-le-mul_right (cells ds) some in
    (omega (arith, first, few), omega (arith, rest, few))

fits_more : (a : Axis) (d bound : ℕ) → fits_along d a ≡ true → d ≤ bound → fits_along bound a ≡ true
fits_more a d bound fits more = grind (arith, nat_tests, fits, more)

apart_fit : (sizes : List ℕ) (slab : Slab) → length sizes ≡ length slab → fits_all sizes slab ≡ true → list_any overlaps slab ≡ false → cells sizes ≤ most_cells → selects_none slab ≡ false
    → AreApart slab
apart_fit [] [] rank fits apart few some = tt
apart_fit [] (a ∷ rest) rank fits apart few some = absurd (omega (arith, rank))
apart_fit (d ∷ ds) [] rank fits apart few some = absurd (omega (arith, rank))
apart_fit (d ∷ ds) (a ∷ rest) rank fits apart few some =
    let split = or_parts (has_no_cell a) (selects_none rest) some in
    let free = or_parts (overlaps a) (list_any overlaps rest) apart in
    let each = and_parts (fits_along d a) (fits_all ds rest) fits in
    let under : length ds ≡ length rest = omega (arith, rank) in
    let low = size_few d ds (axis_some d a split.0 each.0) (some_cells ds rest under each.1 split.1) few in
    ((free.0, fits_more a d (2 ^ 63) each.0 (omega (arith, low.0))), apart_fit ds rest under each.1 free.1 low.1 split.1)

pub apart_within : (sizes : List ℕ) (slab : Slab) → length sizes ≡ length slab → Within sizes slab → list_any overlaps slab ≡ false → cells sizes ≤ most_cells → selects_none slab ≡ false → AreApart slab
apart_within sizes slab rank within apart few some = apart_fit sizes slab rank (within_fits sizes slab within some) apart few some

-- ---- indexes are words

words_fit : (sizes : List ℕ) (slab : Slab) → length sizes ≡ length slab → fits_all sizes slab ≡ true → cells sizes ≤ most_cells → selects_none slab ≡ false
    → fits_all (replicate (length slab) (2 ^ 64)) slab ≡ true
words_fit [] [] rank fits few some = refl
words_fit [] (a ∷ rest) rank fits few some = absurd (omega (arith, rank))
words_fit (d ∷ ds) [] rank fits few some = absurd (omega (arith, rank))
words_fit (d ∷ ds) (a ∷ rest) rank fits few some =
    let split = or_parts (has_no_cell a) (selects_none rest) some in
    let each = and_parts (fits_along d a) (fits_all ds rest) fits in
    let under : length ds ≡ length rest = omega (arith, rank) in
    let low = size_few d ds (axis_some d a split.0 each.0) (some_cells ds rest under each.1 split.1) few in
    rw (fits_more a d (2 ^ 64) each.0 (omega (arith, low.0)), words_fit ds rest under each.1 low.1 split.1) refl

pub words_within : (sizes : List ℕ) (slab : Slab) → length sizes ≡ length slab → Within sizes slab → cells sizes ≤ most_cells → Within (replicate (length slab) (2 ^ 64)) slab
words_within sizes slab rank within few =
    from_is_within (replicate (length slab) (2 ^ 64)) slab (length-replicate (length slab) (2 ^ 64)) (by_test (selects_none slab) refl) where
      by_test : (b : Bool) → selects_none slab ≡ b → (b || fits_all (replicate (length slab) (2 ^ 64)) slab) ≡ true
      by_test true none = refl
      by_test false some = words_fit sizes slab rank (within_fits sizes slab within some) few some

apart_words : (slab : Slab) → AreApart slab → fits_all (replicate (length slab) (2 ^ 64)) slab ≡ true
apart_words [] are = refl
apart_words (a ∷ rest) are = rw (fits_more a (2 ^ 63) (2 ^ 64) are.0.1 (omega arith), apart_words rest are.1) refl

pub words_apart : (slab : Slab) → AreApart slab → Within (replicate (length slab) (2 ^ 64)) slab
words_apart slab are =
    from_is_within (replicate (length slab) (2 ^ 64)) slab (length-replicate (length slab) (2 ^ 64))
    (or_right (selects_none slab) (fits_all (replicate (length slab) (2 ^ 64)) slab) (apart_words slab are))

-- ---- no cell

no_product : (a : Axis) (n : ℕ) → has_no_cell a ≡ true → a.count * a.block * n ≡ 0
no_product a n none =
    let zero_cells : (a.count ≡ 0) ⊎ (a.block ≡ 0) = grind (arith, nat_tests, none) in
    elim zero_cells [ inl e ↦ rw e (omega arith) | inr e ↦ rw e (omega arith) ]

pub some_selected : (slab : Slab) → selected_cells slab ≢ 0 → selects_none slab ≡ false
some_selected [] some = refl
some_selected (a ∷ rest) some = elim (has_no_cell a) as (λ b. has_no_cell a ≡ b → (b || selects_none rest) ≡ false) [
  | true ↦ λ none. absurd (some (no_product a (selected_cells rest) none))
  | false ↦ λ _. some_selected rest (λ none. some (ap (λ n. a.count * a.block * n) none ∙ omega arith))
] refl

zero_factor : (n m : ℕ) → 1 ≤ n → n * m ≡ 0 → m ≡ 0
zero_factor n zero some none = refl
zero_factor n (suc m) some none = let rows : 1 * suc m ≤ n * suc m = mul-le-mul_right (suc m) some in absurd (omega (arith, rows, none))

pub none_selected : (slab : Slab) → selected_cells slab ≡ 0 → selects_none slab ≡ true
none_selected [] none = absurd (omega (arith, none))
none_selected (a ∷ rest) none = elim (has_no_cell a) as (λ b. has_no_cell a ≡ b → (b || selects_none rest) ≡ true) [
  | true ↦ λ _. refl
  | false ↦ λ some.
      let counted : 1 ≤ a.count = grind (arith, nat_tests, some) in
      let blocks : 1 ≤ a.block = grind (arith, nat_tests, some) in
      let rows : a.count * 1 ≤ a.count * a.block = mul-le-mul_left a.count blocks in
      none_selected rest (zero_factor (a.count * a.block) (selected_cells rest) (omega (arith, counted, rows)) none)
] refl

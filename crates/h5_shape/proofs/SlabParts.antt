-- The parts of a selection in boxes of these sizes.
use Rattle.std.proofs.Common.{◌≡◌, ℕ, zero, suc, ◌^◌, ◌<◌, ◌≤◌, List, [], ◌∷◌, length, replicate, get_or, map, refl, sym, ap, ◌∙◌, arith, Bool, true, false, ◌||◌}
use Rattle.std.proofs.lemmas.Bool.Decides.{nat_tests}
use Rattle.std.specs.Prelude.{◌==◌}
use Rattle.std.specs.List.{AllZip, flat_map, list_any}
use Rattle.std.proofs.lemmas.Bool.{and_parts, or_parts}
use Rattle.h5_model.specs.declared.Axis.{Axis}
use Rattle.h5_model.specs.Views.Selection.{Slab, Within, fits_along, fits_all, has_no_cell, overlaps, selects_none}
use Rattle.h5_shape.specs.declared.parts.Span.{Span}
use Rattle.h5_shape.specs.SpacedPlaces.{spaced_places}
use Rattle.h5_shape.specs.Parts.{numbers_along, spans_from, spans_along, parts_of}
use Rattle.h5_shape.specs.PartsLeft.{AreBoxed}
use Rattle.h5_shape.proofs.SlabRuns.{within_fits}

-- ---- a selection of some cell

boxed_all : (slab : Slab) (boxes : List ℕ) → length boxes ≡ length slab → ((d : ℕ) → d < length boxes → 1 ≤ get_or boxes d 0)
    → selects_none slab ≡ false → list_any overlaps slab ≡ false → fits_all (replicate (length slab) (2 ^ 64)) slab ≡ true → AreBoxed slab boxes
boxed_all [] [] rank sizes some apart top = tt
boxed_all [] (b ∷ bs) rank sizes some apart top = absurd (omega arith)
boxed_all (a ∷ rest) [] rank sizes some apart top = absurd (omega arith)
boxed_all (a ∷ rest) (b ∷ bs) rank sizes some apart top =
    let cells : (has_no_cell a ≡ false) × (selects_none rest ≡ false) = or_parts (has_no_cell a) (selects_none rest) some in
    let free : (overlaps a ≡ false) × (list_any overlaps rest ≡ false) = or_parts (overlaps a) (list_any overlaps rest) apart in
    let fits : (fits_along (2 ^ 64) a ≡ true) × (fits_all (replicate (length rest) (2 ^ 64)) rest ≡ true) = and_parts (fits_along (2 ^ 64) a) (fits_all (replicate (length rest) (2 ^ 64)) rest) top in (
      record { sized = sizes 0 (omega arith); some = cells.0; apart = free.0; top = fits.0 },
      boxed_all rest bs (omega arith) (λ d low. sizes (suc d) (omega arith)) cells.1 free.1 fits.1,
    )

pub boxed_slab : (slab : Slab) (boxes : List ℕ) → length boxes ≡ length slab → ((d : ℕ) → d < length boxes → 1 ≤ get_or boxes d 0)
    → selects_none slab ≡ false → list_any overlaps slab ≡ false → Within (replicate (length slab) (2 ^ 64)) slab → AreBoxed slab boxes
boxed_slab slab boxes rank sizes some apart within =
    boxed_all slab boxes rank sizes some apart (within_fits (replicate (length slab) (2 ^ 64)) slab within some)

-- ---- a selection of no cell

no_blocks : (n : ℕ) (xs : List ℕ) → n ≡ 0 → flat_map (spaced_places n 1) xs ≡ []
no_blocks zero [] none = refl
no_blocks zero (x ∷ xs) none = no_blocks zero xs refl
no_blocks (suc n) xs none = absurd (omega arith)

no_numbers : (a : Axis) → has_no_cell a ≡ true → numbers_along a ≡ []
no_numbers a none = elim (a.count == 0) as (λ b. (a.count == 0) ≡ b → numbers_along a ≡ []) [
  | true ↦ λ e. let count : a.count ≡ 0 = grind (arith, nat_tests) in rw count refl
  | false ↦ λ e. let block : a.block ≡ 0 = grind (arith, nat_tests) in no_blocks a.block (spaced_places a.count a.stride a.start) block
] refl

none_under : (ss : List Span) (parts : List (List Span)) → parts ≡ [] → flat_map (λ s. map (λ part. s ∷ part) parts) ss ≡ []
none_under ss parts none = rw none (empty ss) where
  empty : (ss : List Span) → flat_map {A = List Span} (λ (s : Span). []) ss ≡ []
  empty [] = refl
  empty (s ∷ ss) = empty ss

pub parts_none : (slab : Slab) (boxes : List ℕ) → length boxes ≡ length slab → selects_none slab ≡ true → parts_of slab boxes ≡ []
parts_none [] [] rank none = absurd (cc)
parts_none [] (b ∷ bs) rank none = absurd (omega arith)
parts_none (a ∷ rest) [] rank none = absurd (omega arith)
parts_none (a ∷ rest) (b ∷ bs) rank none =
    let under = λ (s : Span). map (λ part. s ∷ part) (parts_of rest bs) in
    elim (has_no_cell a) as (λ v. has_no_cell a ≡ v → parts_of (a ∷ rest) (b ∷ bs) ≡ []) [
      | true ↦ λ e. ap (λ (xs : List ℕ). flat_map under (spans_from b 0 xs)) (no_numbers a e)
      | false ↦ λ e. let less : selects_none rest ≡ true = ap (λ (v : Bool). v || selects_none rest) (sym e) ∙ none in
          none_under (spans_along a b) (parts_of rest bs) (parts_none rest bs (omega arith) less)
    ] refl

-- ---- a selection within sizes

below_all : (sizes : List ℕ) (n : ℕ) (bound : ℕ) (index : List ℕ) → length sizes ≡ n → ((k : ℕ) → k < length sizes → get_or sizes k 0 ≤ bound)
    → AllZip (λ d i. i < d) sizes index → AllZip (λ d i. i < d) (replicate n bound) index
below_all [] n bound [] rank few h = rw (← rank) tt
below_all [] n bound (i ∷ is) rank few h = absurd h
below_all (d ∷ ds) n bound [] rank few h = absurd h
below_all (d ∷ ds) zero bound (i ∷ is) rank few h = absurd (omega arith)
below_all (d ∷ ds) (suc n) bound (i ∷ is) rank few h =
    (omega (arith, few 0 (omega arith), h.0), below_all ds n bound is (omega arith) (λ k low. few (suc k) (omega arith)) h.1)

-- no selected index passes a bound on the sizes
pub within-bound : (sizes : List ℕ) (slab : Slab) (bound : ℕ) → length sizes ≡ length slab → ((k : ℕ) → k < length sizes → get_or sizes k 0 ≤ bound)
    → Within sizes slab → Within (replicate (length slab) bound) slab
within-bound sizes slab bound rank few within = λ index selected. below_all sizes (length slab) bound index rank few (within index selected)

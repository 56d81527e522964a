-- The spans of an axis after the other, from the last on.
use Rattle.std.proofs.Common.{◌≡◌, ℕ, zero, suc, ◌+◌, ◌*◌, ◌^◌, ◌<◌, List, [], ◌∷◌, true, false, length, drop, set, get_or, refl, ap, subst, arith}
use Rattle.std.proofs.lemmas.List.{drop-set, drop_more}
use Rattle.h5_model.specs.declared.hyperslab.Axis.{Axis}
use Rattle.h5_model.specs.Tree.Places.{cells}
use Rattle.h5_model.specs.Views.Selection.{Slab, fits_along, overlaps, selected_cells}
use Rattle.h5_shape.specs.PartCells.{selection_shape}
use Rattle.h5_shape.specs.declared.parts.Span.{Span}
use Rattle.h5_shape.specs.InBox.{AreApart, AreSpans, AreSpansIn, IsSpan, IsSpanIn}

pub apart_at : (axes : Slab) (k : ℕ) (d : Axis) → k < length axes → AreApart axes → (overlaps (get_or axes k d) ≡ false) × (fits_along (2 ^ 63) (get_or axes k d) ≡ true)
apart_at [] k d there are = absurd (omega (arith, there))
apart_at (a ∷ rest) zero d there are = are.0
apart_at (a ∷ rest) (suc k) d there are = apart_at rest k d (omega (arith, there)) are.1

module _ (axes : Slab) (corner sizes : List ℕ) (spans : List Span) (k : ℕ) (d : Axis) (s : Span) (there : k < length axes) (cs : length corner ≡ length axes) (bs : length sizes ≡ length axes)
    (ss : length spans ≡ length axes) where
  more_is : AreSpans (drop k axes) (drop k (set spans k s)) ≡ (IsSpan (get_or axes k d) s × AreSpans (drop (k + 1) axes) (drop (k + 1) spans))
  more_is = (λ i. AreSpans (drop_more axes k d there i) (drop-set spans k s (omega (arith, there, ss)) i))

  pub spans_more : IsSpanIn (get_or axes k d) (get_or corner k 0) (get_or sizes k 0) s → AreSpansIn (drop (k + 1) axes) (drop (k + 1) corner) (drop (k + 1) sizes) (drop (k + 1) spans)
      → AreSpansIn (drop k axes) (drop k corner) (drop k sizes) (drop k (set spans k s))
  spans_more here rest =
      rw (drop_more axes k d there, drop_more corner k 0 (omega (arith, there, cs)), drop_more sizes k 0 (omega (arith, there, bs)), drop-set spans k s (omega (arith, there, ss))) (here, rest)

  pub some_more : IsSpan (get_or axes k d) s → AreSpans (drop (k + 1) axes) (drop (k + 1) spans) → AreSpans (drop k axes) (drop k (set spans k s))
  some_more here rest = rw (drop_more axes k d there, drop-set spans k s (omega (arith, there, ss))) (here, rest)

  pub some_less : AreSpans (drop k axes) (drop k (set spans k s)) → IsSpan (get_or axes k d) s × AreSpans (drop (k + 1) axes) (drop (k + 1) spans)
  some_less are = subst (λ (X : Type 0). X) more_is are

pub shape_cells : (slab : Slab) → cells (selection_shape slab) ≡ selected_cells slab
shape_cells [] = refl
shape_cells (a ∷ rest) = ap (λ n. a.count * a.block * n) (shape_cells rest)

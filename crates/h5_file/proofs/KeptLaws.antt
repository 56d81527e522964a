-- Kept cells, each at its position, are the selected cells in row-major order where all of them are inside.
use Rattle.std.proofs.Common.{◌≡◌, ℕ, zero, suc, ◌+◌, ◌*◌, ◌<◌, ℤ, List, [], ◌∷◌, ◌++◌, true, false, cond, length, take, drop, get_or, sym, ap, ◌∙◌, subst, arith}
use Rattle.std.proofs.lemmas.List.{length-map, length-take, length-drop, take-append-drop, nil_from_length, get_or-map}
use Rattle.std.specs.List.{list_any}
use Rattle.h5_bytes.specs.Bytes.{part}
use Rattle.h5_bytes.proofs.PartLaws.{part-behind, part-front}
use Rattle.h5_model.specs.Edits.Applied.{cell_or_fill}
use Rattle.h5_model.specs.Format.Fixed.{Fixed, bytes_of}
use Rattle.h5_model.specs.Format.Plain.{cells_bytes}
use Rattle.h5_model.specs.Tree.Objects.{Dataset}
use Rattle.h5_model.specs.Tree.Places.{IsInside, cells, index_of, is_inside, place_of}
use Rattle.h5_model.specs.Views.Selection.{Slab, Selected, Within, overlaps, selected_cells, selection_of, selects_none}
use Rattle.h5_model.specs.Views.Shown.{selected_values}
use Rattle.h5_model.proofs.FixedLaws.{length-bytes_of}
use Rattle.h5_model.proofs.PlaceLaws.{inside-index, place-index, place_below, is_inside_from}
use Rattle.h5_model.proofs.PlainValues.{length-cells_bytes}
use Rattle.h5_model.proofs.WithinLaws.{no_cell}
use Rattle.h5_shape.specs.PartCells.{selection_shape, selected_index}
use Rattle.h5_shape.proofs.InBoxLaws.{shape_cells}
use Rattle.h5_shape.proofs.PositionLaws.{position-selected, selection-position}
use Rattle.h5_file.specs.Patched.{AreKeptCells}

-- ---- the cells of a list, one by one

module _ (t : Fixed) where
  pub cell_part : (vs : List ℤ) (k : ℕ) (d : ℤ) → k < length vs → part (k * t.size) t.size (cells_bytes t vs) ≡ bytes_of t (get_or vs k d)
  cell_part [] k d low = absurd (omega (arith, low))
  cell_part (v ∷ vs) zero d low =
      let none : 0 * t.size ≡ 0 = omega arith in
      (λ i. part (none i) (sym (length-bytes_of t v) i) (bytes_of t v ++ cells_bytes t vs)) ∙ part-front (bytes_of t v) (cells_bytes t vs)
  cell_part (v ∷ vs) (suc k) d low =
      let at : suc k * t.size ≡ length (bytes_of t v) + k * t.size = omega (arith, length-bytes_of t v) in
      ap (λ n. part n t.size (bytes_of t v ++ cells_bytes t vs)) at ∙ part-behind (bytes_of t v) (cells_bytes t vs) (k * t.size) t.size ∙ cell_part vs k d (omega (arith, low))

  pub cells_same : (vs : List ℤ) (d : ℤ) (bytes : List ℕ) → length bytes ≡ length vs * t.size → ((k : ℕ) → k < length vs → part (k * t.size) t.size bytes ≡ bytes_of t (get_or vs k d))
      → bytes ≡ cells_bytes t vs
  cells_same [] d bytes long each = nil_from_length bytes (long ∙ omega arith)
  cells_same (v ∷ vs) d bytes long each =
      let front = take t.size bytes in
      let rest = drop t.size bytes in
      let wide : length front ≡ t.size = length-take t.size bytes ∙ omega (arith, long) in
      let left : length rest ≡ length vs * t.size = length-drop t.size bytes ∙ omega (arith, long) in
      let whole : front ++ rest ≡ bytes = take-append-drop t.size bytes in
      let none : 0 ≡ 0 * t.size = omega arith in
      let first : front ≡ bytes_of t v
      = sym (part-front front rest) ∙ (λ i. part (none i) (wide i) (whole i)) ∙ each 0 (omega arith) in
      let others : rest ≡ cells_bytes t vs = cells_same vs d rest left (λ k low.
      let at : length front + k * t.size ≡ suc k * t.size = omega (arith, wide) in
      sym (part-behind front rest (k * t.size) t.size) ∙ (λ i. part (at i) t.size (whole i)) ∙ each (suc k) (omega (arith, low))) in
      sym whole ∙ (λ i. first i ++ others i)

-- ---- the selected cells

module _ (d : Dataset) (slab : Slab) (rank : length slab ≡ length d.sizes) (within : Within d.sizes slab) (apart : list_any overlaps slab ≡ false)
    (counted : length (selection_of d.sizes slab) ≡ selected_cells slab) where
  many : length (selected_values d slab) ≡ cells (selection_shape slab)
  many = length-map (selection_of d.sizes slab) _ ∙ counted ∙ sym (shape_cells slab)

  value_here : (at : List ℕ) → IsInside (selection_shape slab) at → get_or (selected_values d slab) (place_of (selection_shape slab) at) d.fill ≡ cell_or_fill d (selected_index slab at)
  value_here at inside =
      let selected : Selected slab (selected_index slab at) = position-selected slab at inside in
      let some : selects_none slab ≡ false = no_cell slab (selected_index slab at) selected in
      let below : place_of (selection_shape slab) at < length (selection_of d.sizes slab) = omega (arith, place_below (selection_shape slab) at inside, counted, shape_cells slab) in
      let there : is_inside d.sizes (selected_index slab at) ≡ true = is_inside_from d.sizes (selected_index slab at) (within (selected_index slab at) selected) in
      get_or-map (λ place. get_or d.cells place d.fill) (selection_of d.sizes slab) (place_of (selection_shape slab) at) 0 d.fill below
      ∙ ap (λ place. get_or d.cells place d.fill) (selection-position d.sizes slab at (sym rank) within some apart inside)
      ∙ sym (ap (λ b. cond b (get_or d.cells (place_of d.sizes (selected_index slab at)) d.fill) d.fill) there)

  pub kept_gathered : (bytes : List ℕ) → bytes ≡ cells_bytes d.fixed (selected_values d slab) → AreKeptCells d slab bytes
  kept_gathered bytes is = record {
    long = ap length is ∙ length-cells_bytes d.fixed (selected_values d slab) ∙ ap (λ n. n * d.fixed.size) (many ∙ shape_cells slab);
    each = λ at inside.
        ap (λ bs. part (place_of (selection_shape slab) at * d.fixed.size) d.fixed.size bs) is
        ∙ cell_part d.fixed (selected_values d slab) (place_of (selection_shape slab) at) d.fill (omega (arith, place_below (selection_shape slab) at inside, many))
        ∙ ap (bytes_of d.fixed) (value_here at inside);
  }

  pub kept_shown : (bytes : List ℕ) → AreKeptCells d slab bytes → bytes ≡ cells_bytes d.fixed (selected_values d slab)
  kept_shown bytes kept =
      cells_same d.fixed (selected_values d slab) d.fill bytes (kept.long ∙ ap (λ n. n * d.fixed.size) (sym (many ∙ shape_cells slab))) (λ k low.
      let below : k < cells (selection_shape slab) = omega (arith, low, many) in
      let at = index_of (selection_shape slab) k in
      let inside : IsInside (selection_shape slab) at = inside-index (selection_shape slab) k below in
      let is : place_of (selection_shape slab) at ≡ k = place-index (selection_shape slab) k below in
      subst (λ n. part (n * d.fixed.size) d.fixed.size bytes ≡ bytes_of d.fixed (get_or (selected_values d slab) n d.fill)) is
      (kept.each at inside ∙ ap (bytes_of d.fixed) (sym (value_here at inside))))

-- The runs of a selection.
use Rattle.std.proofs.Common.{◌≡◌, ℕ, zero, suc, ◌+◌, ◌≤◌, List, [], ◌∷◌, sym, ap, ◌∙◌, arith, Bool, true, false, cond, ◌||◌}
use Rattle.std.specs.List.{filter, range_with_len}
use Rattle.h5_model.specs.Tree.Places.{cells, index_of}
use Rattle.h5_model.specs.Views.Selection.{Slab, Within, is_selected, selection_of, fits_all, selects_none, is_within}
use Rattle.h5_model.proofs.CountLaws.{none_selected}
use Rattle.h5_model.proofs.WithinLaws.{to_is_within}
use Rattle.h5_shape.specs.SpacedPlaces.{ArePlacesBelow}
use Rattle.h5_shape.proofs.SelectedPlaces.{filter_none}

pub within_fits : (sizes : List ℕ) (slab : Slab) → Within sizes slab → selects_none slab ≡ false → fits_all sizes slab ≡ true
within_fits sizes slab within some =
    let test : is_within sizes slab ≡ true = to_is_within sizes slab within in
    ap (λ (b : Bool). b || fits_all sizes slab) (sym some) ∙ test

below_filter : (p : ℕ → Bool) (bound a n : ℕ) → a + n ≤ bound → ArePlacesBelow bound (filter p (range_with_len a n))
below_filter p bound a zero room = tt
below_filter p bound a (suc n) room = elim (p a) as (λ b. ArePlacesBelow bound (cond b (a ∷ filter p (range_with_len (a + 1) n)) (filter p (range_with_len (a + 1) n)))) [
  | true ↦ (omega arith, below_filter p bound (a + 1) n (omega arith))
  | false ↦ below_filter p bound (a + 1) n (omega arith)
]

pub below_selection : (bound : ℕ) (sizes : List ℕ) (slab : Slab) → cells sizes ≤ bound → ArePlacesBelow bound (selection_of sizes slab)
unfolding selection_of
below_selection bound sizes slab room = below_filter (λ place. is_selected slab (index_of sizes place)) bound 0 (cells sizes) (omega arith)

pub selection_none : (sizes : List ℕ) (slab : Slab) → selects_none slab ≡ true → selection_of sizes slab ≡ []
unfolding selection_of
selection_none sizes slab h = filter_none (λ place. is_selected slab (index_of sizes place)) 0 (cells sizes) (λ x low high. none_selected slab (index_of sizes x) h)

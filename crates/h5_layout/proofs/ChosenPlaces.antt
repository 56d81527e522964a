-- The places of selected cells: the index of each is selected, and each selected index has one.
use Rattle.std.proofs.Common.{◌≡◌, ℕ, ◌<◌, List, true, ap, ◌∙◌, subst, arith}
use Rattle.std.specs.List.{Contains, range_with_len}
use Rattle.h5_laws.proofs.Lists.{In, from_range, in_contains, in_range}
use Rattle.h5_model.specs.Tree.Places.{IsInside, cells, index_of, place_of}
use Rattle.h5_model.specs.Views.Selection.{Slab, Selected, is_selected, selection_of}
use Rattle.h5_model.proofs.Members.{filter_in, in_filter}
use Rattle.h5_model.proofs.PlaceLaws.{index-place, place_below}
use Rattle.h5_model.proofs.SelectionLaws.{from_is_selected, to_is_selected}

-- a selected index of the array
pub selected_place : (sizes : List ℕ) (slab : Slab) (index : List ℕ) → IsInside sizes index → Selected slab index → In (place_of sizes index) (selection_of sizes slab)
unfolding selection_of
selected_place sizes slab index inside selected =
    let place = place_of sizes index in
    let passes : is_selected slab (index_of sizes place) ≡ true = ap (is_selected slab) (index-place sizes index inside) ∙ to_is_selected slab index selected in
    in_filter (λ p. is_selected slab (index_of sizes p)) place (range_with_len 0 (cells sizes))
    (subst (λ (m : ℕ). In m (range_with_len 0 (cells sizes))) (omega arith) (in_range 0 (cells sizes) place (place_below sizes index inside))) passes

module _ (sizes : List ℕ) (slab : Slab) (place : ℕ) (at : Contains (selection_of sizes slab) place) where
  both_of : (In place (range_with_len 0 (cells sizes))) × (is_selected slab (index_of sizes place) ≡ true)
  unfolding selection_of
  both_of = filter_in (λ p. is_selected slab (index_of sizes p)) place (range_with_len 0 (cells sizes)) (in_contains place (selection_of sizes slab) at)

  pub place_low : place < cells sizes
  place_low = let there = from_range 0 (cells sizes) place both_of.0 in omega (arith, there.1, there.2)

  pub index_selected : Selected slab (index_of sizes place)
  index_selected = from_is_selected slab (index_of sizes place) both_of.1

-- The boxes that an edit and a view of its array both meet, and the cells that are kept once they were patched.
use Rattle.std.proofs.Common.{◌≡◌, ◌≢◌, ℕ, zero, suc, ◌-◌, ◌^◌, ◌≤◌, min, Bool, true, false, List, [], length, refl, sym, ap, ◌∙◌, subst, arith}
use Rattle.std.proofs.lemmas.List.{length-map}
use Rattle.h5_model.specs.Format.Limits.{most_cells}
use Rattle.h5_model.specs.Tree.Objects.{Dataset, Storage, Compact, Contiguous, Chunked}
use Rattle.h5_model.specs.Tree.Places.{cells}
use Rattle.h5_model.specs.Tree.Sound.{IsDataset}
use Rattle.h5_model.specs.Views.Selection.{Slab, selected_cells, selects_none}
use Rattle.h5_model.specs.Views.Shown.{box_of, met_boxes}
use Rattle.h5_model.proofs.SelectionLaws.{from_is_selected}
use Rattle.h5_model.proofs.WithinLaws.{no_cell}
use Rattle.h5_shape.specs.InBox.{AreApart}
use Rattle.h5_model.specs.Tree.Grid.{first_of_box}
use Rattle.h5_shape.specs.MetFirsts.{met_firsts}
use Rattle.h5_shape.proofs.MetLaws.{met_held, none_met, no_member}
use Rattle.h5_file.specs.OpenViews.{IsMetPatched}
use Rattle.h5_file.specs.Patched.{AreCorners, KeptState}
use Rattle.h5_file.specs.Touched.{HasGrid, IsArrayLeft, IsGridOf, IsTouchOf, is_touched_in, met_with, sizes_before}
use Rattle.h5_file.specs.declared.touched.Touched.{Touched}
use Rattle.h5_file.specs.declared.touched.Touched.TheVariants.{Written, Lost}
use Rattle.h5_file.proofs.Refreshed.{corners_met, few_met, none_patched}
use Rattle.h5_file.proofs.SlabLaws.{some_selected, words_apart}

-- a selection of no cell meets no box
pub empty_met : (sizes box : List ℕ) (touched : List ℕ → Bool) (slab : Slab) → length box ≡ length sizes → selects_none slab ≡ true → met_firsts sizes box touched slab ≡ []
empty_met sizes box touched slab rank none = by_size (cells box) refl where
  by_size : (n : ℕ) → cells box ≡ n → met_firsts sizes box touched slab ≡ []
  by_size zero is = none_met sizes box touched slab is
  by_size (suc n) is = no_member (met_firsts sizes box touched slab) (λ first at.
      let held = (met_held sizes box touched slab rank (omega (arith, is)) first at).1 in
      let some : selects_none slab ≡ false = no_cell slab held.index (from_is_selected slab held.index held.passes) in
      absurd (let never : true ≡ false = sym none ∙ some in cc))

-- ---- of an array as an edit leaves it

module _ (d : Dataset) (sound : IsDataset d) where
  pub length-box : length (box_of d) ≡ length d.sizes
  length-box = by_storage d.storage refl where
    by_storage : (s : Storage) → d.storage ≡ s → length (box_of (record d { storage = s })) ≡ length d.sizes
    by_storage Compact is = refl
    by_storage (Contiguous stored) is = refl
    by_storage (Chunked chunk) is = sound.boxed chunk is

  module _ (touched : Touched) (touch : IsTouchOf d touched) where
    pub length-before : length (sizes_before d touched) ≡ length d.sizes
    length-before = by_kind touched touch where
      by_kind : (t : Touched) → IsTouchOf d t → length (sizes_before d t) ≡ length d.sizes
      by_kind (Written slab) is = refl
      by_kind (Lost sizes kept) is = is.0

    box_rank : length (box_of d) ≡ length (sizes_before d touched)
    box_rank = length-box ∙ sym length-before

    module _ (slab : Slab) where
      pub met_corners : length slab ≡ length d.sizes → AreCorners slab (box_of d) (met_with d touched slab)
      met_corners axes = by_size (cells (box_of d)) refl where
        by_size : (n : ℕ) → cells (box_of d) ≡ n → AreCorners slab (box_of d) (met_with d touched slab)
        by_size zero is = subst (AreCorners slab (box_of d)) (sym (none_met (sizes_before d touched) (box_of d) (is_touched_in touched (sizes_before d touched)) slab is)) tt
        by_size (suc n) is =
            corners_met (sizes_before d touched) (box_of d) (is_touched_in touched (sizes_before d touched)) slab box_rank (omega (arith, is)) (axes ∙ sym length-before)

      pub met_few : cells (sizes_before d touched) ≤ most_cells → length (met_with d touched slab) ≤ most_cells
      met_few few = by_size (cells (box_of d)) refl where
        by_size : (n : ℕ) → cells (box_of d) ≡ n → length (met_with d touched slab) ≤ most_cells
        by_size zero is =
            let none : length (met_with d touched slab) ≡ 0 = ap length (none_met (sizes_before d touched) (box_of d) (is_touched_in touched (sizes_before d touched)) slab is) in
            omega (arith, none)
        by_size (suc n) is =
            let all : length (met_with d touched slab) ≡ length (met_boxes (sizes_before d touched) (box_of d) (is_touched_in touched (sizes_before d touched)) slab)
            = length-map (met_boxes (sizes_before d touched) (box_of d) (is_touched_in touched (sizes_before d touched)) slab) (first_of_box (box_of d)) in
            let less = few_met (sizes_before d touched) (box_of d) (is_touched_in touched (sizes_before d touched)) slab box_rank (omega (arith, is)) in
            omega (arith, all, less, few)

      -- where no box is met nothing is patched
      pub nothing_patched : (k : KeptState) → met_with d touched slab ≡ [] → IsMetPatched d touched slab k 0 k
      nothing_patched k nothing = record {
        counted = sym (ap length nothing);
        patches = omega arith;
        bytes = rw nothing (none_patched d slab (box_of d) k.bytes);
      }

      pub empty_patched : (k : KeptState) → selects_none slab ≡ true → IsMetPatched d touched slab k 0 k
      empty_patched k none = nothing_patched k (empty_met (sizes_before d touched) (box_of d) (is_touched_in touched (sizes_before d touched)) slab box_rank none)

-- ---- the grid

pub has_grid : (d : Dataset) (touched : Touched) (grid : List ℕ) → IsArrayLeft d touched grid → HasGrid d touched grid
has_grid d touched grid left = (left.touch, left.grid_is, ap length left.grid_is ∙ length-box d left.sound)

pub grid_of : (d : Dataset) (touched : Touched) (grid : List ℕ) (slab : Slab) → IsArrayLeft d touched grid → length slab ≡ length d.sizes → AreApart slab → IsGridOf d touched grid slab
grid_of d touched grid slab left rank apart = record {
  touch = left.touch;
  few = left.few;
  grid_is = left.grid_is;
  boxed = ap length left.grid_is ∙ length-box d left.sound;
  ranked = rank;
  top = words_apart slab apart;
}

-- a selection whose count of cells is not 0
pub some_counted : (slab : Slab) (count : ℕ) → count ≡ min (selected_cells slab) (2 ^ 64 - 1) → count ≢ 0 → selects_none slab ≡ false
some_counted slab count is some =
    some_selected slab (λ none. let zero_min : min (selected_cells slab) (2 ^ 64 - 1) ≡ 0 = omega (arith, none) in some (is ∙ zero_min))

-- The chunks that hold a written cell and are not stored, by the boxes of an array's grid (File Format Specification 3.0, section III.A.1).
use Rattle.std.proofs.Common.{◌≡◌, ℕ, ◌<◌, ◌&&◌, List, Bool, true, false, not, length, map, sym, ap, ap₂, ◌∙◌, subst}
use Rattle.std.specs.Prelude.{ℤ, filter}
use Rattle.std.proofs.lemmas.Bool.{not-true, and_parts}
use Rattle.h5_repack.proofs.ChunkLaws.ChunkCells.{long_index}
use Rattle.h5_model.specs.Edits.Bounds.{new_chunks}
use Rattle.h5_model.specs.Edits.Facts.{Facts}
use Rattle.h5_model.specs.Tree.Grid.{boxes_of, corner_of, first_of_box, some_in_box}
use Rattle.h5_model.specs.Tree.Objects.{Dataset, Storage, Chunked}
use Rattle.h5_model.specs.Tree.Places.{IsInside, cells, is_inside}
use Rattle.h5_model.specs.Views.Selection.{Slab, Selected, axes_of, is_selected}
use Rattle.h5_model.specs.Views.Shown.{is_touched}
use Rattle.h5_model.specs.declared.edits.Edit.{Edit}
use Rattle.h5_model.specs.declared.edits.Edit.TheVariants.{Write}
use Rattle.h5_model.specs.declared.hyperslab.Hyper.{Hyper}
use Rattle.h5_model.proofs.SelectionLaws.{from_is_selected, to_is_selected}
use Rattle.h5_model.proofs.PlaceLaws.{is_inside_from}
use Rattle.h5_model.proofs.Members.{In, filter_in, from_map, in_filter, in_map}
use Rattle.h5_shape.proofs.GridBoxes.{box_among, box_long, boxes_rise, held_some, some_held}
use Rattle.h5_shape.proofs.RisingBoxes.{Rises, same_members}

module _ (facts : Facts) (path : List ℕ) (hyper : Hyper) (values : List ℤ) (d : Dataset) (box : List ℕ) (chunked : d.storage ≡ Chunked box)
    (long : length box ≡ length d.sizes) (some : 0 < cells box) (within : (index : List ℕ) → Selected (axes_of hyper) index → IsInside d.sizes index) where
  abbrev edit : Edit
  edit = Write path hyper values

  abbrev slab : Slab
  slab = axes_of hyper

  abbrev sizes : List ℕ
  sizes = d.sizes

  abbrev is_new : List ℕ → Bool
  is_new at = some_in_box box (is_touched edit sizes) at && not (facts.is_stored (first_of_box box at))

  -- the boxes, and where they begin
  abbrev new_boxes : List (List ℕ)
  new_boxes = filter is_new (boxes_of sizes box)

  abbrev firsts : List (List ℕ)
  firsts = map (first_of_box box) new_boxes

  -- a box at this first index holds a selected cell
  abbrev IsMet : List ℕ → Type 0
  IsMet first = (index : List ℕ) × Selected slab index × (corner_of box index ≡ first)

  first_new : (first : List ℕ) → In first firsts → IsMet first × (facts.is_stored first ≡ false)
  first_new first at =
      let found = from_map (first_of_box box) first new_boxes at in
      let there = filter_in is_new found.0 (boxes_of sizes box) found.1 in
      let tests = and_parts (some_in_box box (is_touched edit sizes) found.0) (not (facts.is_stored (first_of_box box found.0))) there.1 in
      let ranked = box_long sizes box found.0 long there.0 in
      let held = some_held box (is_touched edit sizes) found.0 ranked tests.0 in
      let chosen = and_parts (is_inside sizes held.index) (is_selected slab held.index) held.passes in (
        (held.index, from_is_selected slab held.index chosen.1, held.corner ∙ found.2),
        ap facts.is_stored (sym found.2) ∙ not-true (facts.is_stored (first_of_box box found.0)) tests.1,
      )

  new_first : (first : List ℕ) → IsMet first → facts.is_stored first ≡ false → In first firsts
  new_first first met unstored =
      let index = met.0 in
      let inside : is_inside sizes index ≡ true = is_inside_from sizes index (within index met.1) in
      let ranked : length index ≡ length box = long_index sizes index (within index met.1) ∙ sym long in
      let touched : is_touched edit sizes index ≡ true = ap₂ (λ (b c : Bool). b && c) inside (to_is_selected slab index met.1) in
      let among = box_among sizes box index some long ranked inside in
      let here : first_of_box box among.0 ≡ first = among.3 ∙ met.2 in
      let held : some_in_box box (is_touched edit sizes) among.0 ≡ true
      = held_some box (is_touched edit sizes) among.0 some among.2 (record { index = index; long = ranked; corner = sym among.3; passes = touched }) in
      let free : facts.is_stored (first_of_box box among.0) ≡ false = ap facts.is_stored here ∙ unstored in
      let passes : is_new among.0 ≡ true = ap₂ (λ (b c : Bool). b && not c) held free in
      subst (λ x. In x firsts) here (in_map (first_of_box box) among.0 new_boxes (in_filter is_new among.0 (boxes_of sizes box) among.1 passes))

  chunks_are : new_chunks facts edit d ≡ firsts
  chunks_are = by_storage d.storage chunked where
    by_storage : (s : Storage) → s ≡ Chunked box → new_chunks facts edit (record d { storage = s }) ≡ firsts
    by_storage s is = ap (λ (x : Storage). new_chunks facts edit (record d { storage = x })) is

  -- these rising offsets, which are those of the chunks that hold a selected cell and are not stored
  pub new_are : (offsets : List (List ℕ)) → Rises offsets → ((first : List ℕ) → In first offsets → IsMet first × (facts.is_stored first ≡ false))
      → ((first : List ℕ) → IsMet first → facts.is_stored first ≡ false → In first offsets) → new_chunks facts edit d ≡ offsets
  new_are offsets rise of into =
      chunks_are ∙ same_members firsts offsets (boxes_rise sizes box is_new long some) rise
      (λ first at. let is = first_new first at in into first is.0 is.1)
      (λ first at. let is = of first at in new_first first is.0 is.1)

-- Kept cells of which all boxes are patched that an edit and the selection both meet are the array's again.
use Rattle.std.proofs.Common.{◌≡◌, ℕ, suc, ◌+◌, ◌-◌, ◌*◌, ◌/◌, ◌<◌, ◌≤◌, ◌&&◌, inl, inr, Bool, true, false, List, [], ◌∷◌, ◌++◌, length, refl, sym, ap, ◌∙◌, subst, arith}
use Rattle.std.proofs.lemmas.Bool.{and_parts}
use Rattle.std.proofs.Math.Nat.{mul-le-mul_left, mul-le-mul_right}
use Rattle.std.proofs.lemmas.List.FromFn.{length-map-range_with_len}
use Rattle.std.proofs.lemmas.Nat.{div-mul-add, div_below}
use Rattle.std.specs.List.{Contains}
use Rattle.h5_model.specs.Edits.Applied.{cell_or_fill}
use Rattle.h5_model.specs.Format.Fixed.{Fixed, bytes_of}
use Rattle.h5_model.specs.Tree.Grid.{boxes_along, boxes_of, corner_of, grid_of, some_in_box}
use Rattle.h5_model.specs.Tree.Objects.{Dataset}
use Rattle.h5_model.specs.Tree.Places.{IsInside, cells, index_of, is_inside}
use Rattle.h5_model.specs.Views.Selection.{Slab, is_selected, selected_cells}
use Rattle.h5_model.specs.Views.Shown.{is_touched, met_boxes}
use Rattle.h5_model.specs.declared.edits.Edit.{Edit}
use Rattle.h5_model.specs.declared.edits.Edit.TheVariants.{CreateGroup, CreateDataset, HardLink, SoftLink, Unlink, SetAttr, RemoveAttr, Write, Resize}
use Rattle.h5_model.proofs.SelectionLaws.{to_is_selected}
use Rattle.h5_model.proofs.Members.{few_pass}
use Rattle.h5_shape.specs.InBox.{IsCorner}
use Rattle.h5_shape.specs.MetFirsts.{met_firsts}
use Rattle.h5_shape.specs.PartCells.{selection_shape, selected_index}
use Rattle.h5_shape.proofs.GridBoxes.{factors}
use Rattle.h5_shape.proofs.MetLaws.{held_met, met_held}
use Rattle.h5_shape.proofs.PositionLaws.{position-selected}
use Rattle.h5_file.specs.Patched.{AreCorners, AreKeptCells, ArePatched, IsPatched, kept_cell}
use Rattle.h5_file.proofs.EditedArrays.{change_of, untouched_cell}
use Rattle.h5_laws.proofs.Lists.{In, all_in, contains_in, in_contains, in_either, in_left, in_right}
use Rattle.h5_laws.proofs.SoundLaws.Inserted.{same_name_or_other}
use Rattle.h5_laws.proofs.SoundLaws.Lost.{in_or_out}

-- ---- one box more

module _ (d : Dataset) (slab : Slab) (box : List ℕ) where
  pub none_patched : (bytes : List ℕ) → ArePatched d slab [] box bytes bytes
  none_patched bytes = record {
    long = refl;
    inside = λ at inside there. absurd (in_contains (corner_of box (selected_index slab at)) [] there);
    outside = λ at inside none. refl;
  }

  pub one_patched : (done : List (List ℕ)) (corner old mid new : List ℕ) → ArePatched d slab done box old mid → IsPatched d slab corner box mid new → ArePatched d slab (done ++ corner ∷ []) box old new
  one_patched done corner old mid new before step = record {
    long = step.long ∙ before.long;
    inside = λ at inside there.
        let c = corner_of box (selected_index slab at) in
        elim (same_name_or_other c corner) [
          | inl equal ↦ step.inside at inside equal
          | inr other ↦ step.outside at inside other ∙ before.inside at inside (contains_in c done
              (elim (in_either c done (corner ∷ []) (in_contains c (done ++ corner ∷ []) there)) [
                | inl first ↦ first
                | inr last ↦ absurd (elim last [ inl same ↦ other (sym same) | inr never ↦ never ])
              ]))
        ];
    outside = λ at inside none.
        let c = corner_of box (selected_index slab at) in
        step.outside at inside (λ equal. none (subst (λ x. Contains (done ++ corner ∷ []) x) (sym equal) (contains_in corner (done ++ corner ∷ []) (in_right corner done (corner ∷ []) (inl refl)))))
        ∙ before.outside at inside (λ there. none (contains_in c (done ++ corner ∷ []) (in_left c done (corner ∷ []) (in_contains c done there))));
  }

-- ---- an edit

pub touched_inside : (edit : Edit) (sizes index : List ℕ) → is_touched edit sizes index ≡ true → is_inside sizes index ≡ true
touched_inside (Write path hyper values) sizes index h = (and_parts (is_inside sizes index) _ h).0
touched_inside (Resize path dims) sizes index h = (and_parts (is_inside sizes index) _ h).0
touched_inside (CreateGroup path) sizes index h = let wrong : false ≡ true = h in absurd (cc)
touched_inside (CreateDataset path spec) sizes index h = let wrong : false ≡ true = h in absurd (cc)
touched_inside (HardLink target path) sizes index h = let wrong : false ≡ true = h in absurd (cc)
touched_inside (SoftLink text path) sizes index h = let wrong : false ≡ true = h in absurd (cc)
touched_inside (Unlink path) sizes index h = let wrong : false ≡ true = h in absurd (cc)
touched_inside (SetAttr path attr) sizes index h = let wrong : false ≡ true = h in absurd (cc)
touched_inside (RemoveAttr path name) sizes index h = let wrong : false ≡ true = h in absurd (cc)

length-selected_index : (slab : Slab) (at : List ℕ) → IsInside (selection_shape slab) at → length (selected_index slab at) ≡ length slab
length-selected_index [] [] inside = refl
length-selected_index [] (t ∷ ts) inside = absurd inside
length-selected_index (a ∷ rest) [] inside = absurd inside
length-selected_index (a ∷ rest) (t ∷ ts) inside = ap suc (length-selected_index rest ts inside.1)

-- whatever an array becomes, of the type that it had
module _ (edit : Edit) (old new : Dataset) (slab : Slab) (box before after : List ℕ) (is : new ≡ change_of edit old) (type_is : new.fixed ≡ old.fixed)
    (rank : length box ≡ length old.sizes) (axes : length slab ≡ length old.sizes) (some : 0 < cells box) (kept : AreKeptCells old slab before)
    (patched : ArePatched new slab (met_firsts old.sizes box (is_touched edit old.sizes) slab) box before after) where
  abbrev firsts : List (List ℕ)
  firsts = met_firsts old.sizes box (is_touched edit old.sizes) slab

  module _ (at : List ℕ) (inside : IsInside (selection_shape slab) at) where
    abbrev index : List ℕ
    index = selected_index slab at

    held : is_touched edit old.sizes index ≡ true → In (corner_of box index) firsts
    held touched =
        let long : length index ≡ length box = length-selected_index slab at inside ∙ axes ∙ sym rank in
        held_met old.sizes box (is_touched edit old.sizes) slab rank some (corner_of box index) (touched_inside edit old.sizes)
        (record { index = index; long = long; corner = refl; passes = touched })
        (record { index = index; long = long; corner = refl; passes = to_is_selected slab index (position-selected slab at inside) })

    untouched : is_touched edit old.sizes index ≡ false → (In (corner_of box index) firsts → ⊥) → kept_cell slab new.fixed.size after at ≡ bytes_of new.fixed (cell_or_fill new index)
    untouched other none =
        let same : cell_or_fill old index ≡ cell_or_fill new index = sym (ap (λ (d : Dataset). cell_or_fill d index) is ∙ untouched_cell edit old index other) in
        patched.outside at inside (λ there. none (in_contains (corner_of box index) firsts there))
        ∙ ap (λ (t : Fixed). kept_cell slab t.size before at) type_is ∙ kept.each at inside
        ∙ (λ i. bytes_of (sym type_is i) (same i))

    value_after : kept_cell slab new.fixed.size after at ≡ bytes_of new.fixed (cell_or_fill new index)
    value_after = elim (in_or_out same_name_or_other (corner_of box index) firsts) [
      | inl there ↦ patched.inside at inside (contains_in (corner_of box index) firsts there)
      | inr none ↦ by_test (is_touched edit old.sizes index) refl none
    ] where
      by_test : (b : Bool) → is_touched edit old.sizes index ≡ b → (In (corner_of box index) firsts → ⊥) → kept_cell slab new.fixed.size after at ≡ bytes_of new.fixed (cell_or_fill new index)
      by_test true touched none = absurd (none (held touched))
      by_test false other none = untouched other none

  pub kept_refreshed : AreKeptCells new slab after
  kept_refreshed = record {
    long = patched.long ∙ kept.long ∙ ap (λ (t : Fixed). selected_cells slab * t.size) (sym type_is);
    each = value_after;
  }

-- ---- the boxes that are met are boxes of the grid, and few

corner_is : (box index : List ℕ) → 0 < cells box → length index ≡ length box → IsCorner box (corner_of box index) × (length (corner_of box index) ≡ length box)
corner_is [] index some long = (tt, refl)
corner_is (b ∷ bs) [] some long = absurd (omega (arith, long))
corner_is (b ∷ bs) (i ∷ is) some long =
    let sizes = factors b (cells bs) some in
    let more = corner_is bs is sizes.1 (omega (arith, long)) in
    let none : i / b * b + 0 ≡ i / b * b = omega arith in
    let back : i / b * b / b ≡ i / b = ap (λ n. n / b) (sym none) ∙ div-mul-add (i / b) b 0 sizes.0 in
    (((sizes.0, ap (λ n. n * b) back), more.0), ap suc more.1)

module _ (sizes box : List ℕ) (touched : List ℕ → Bool) (slab : Slab) (rank : length box ≡ length sizes) (some : 0 < cells box) where
  pub corners_met : length slab ≡ length sizes → AreCorners slab box (met_firsts sizes box touched slab)
  corners_met axes = all_in (λ corner. (length corner ≡ length slab) × IsCorner box corner) (met_firsts sizes box touched slab) (λ first at.
      let held = (met_held sizes box touched slab rank some first at).0 in
      let is = corner_is box held.index some held.long in
      subst (λ (c : List ℕ). (length c ≡ length slab) × IsCorner box c) held.corner (is.1 ∙ rank ∙ sym axes, is.0))

few_along : (d b : ℕ) → 0 < b → boxes_along d b ≤ d
few_along d b some =
    let rows : d * 1 ≤ d * b = mul-le-mul_left d some in
    let low : d + b - 1 < (d + 1) * b = omega (arith, rows, some) in
    let below : (d + b - 1) / b < d + 1 = div_below (d + b - 1) b (d + 1) some low in
    omega (arith, below)

few_boxes : (sizes box : List ℕ) → length box ≡ length sizes → 0 < cells box → cells (grid_of sizes box) ≤ cells sizes
few_boxes [] [] rank some = omega arith
few_boxes [] (b ∷ bs) rank some = absurd (omega (arith, rank))
few_boxes (d ∷ ds) [] rank some = absurd (omega (arith, rank))
few_boxes (d ∷ ds) (b ∷ bs) rank some =
    let parts = factors b (cells bs) some in
    let one : boxes_along d b * cells (grid_of ds bs) ≤ d * cells (grid_of ds bs) = mul-le-mul_right (cells (grid_of ds bs)) (few_along d b parts.0) in
    let two : d * cells (grid_of ds bs) ≤ d * cells ds = mul-le-mul_left d (few_boxes ds bs (omega (arith, rank)) parts.1) in
    omega (arith, one, two)

pub few_met : (sizes box : List ℕ) (touched : List ℕ → Bool) (slab : Slab) → length box ≡ length sizes → 0 < cells box → length (met_boxes sizes box touched slab) ≤ cells sizes
unfolding met_boxes
few_met sizes box touched slab rank some =
    let all : length (boxes_of sizes box) ≡ cells (grid_of sizes box) = length-map-range_with_len (index_of (grid_of sizes box)) 0 (cells (grid_of sizes box)) in
    let less = few_pass (λ at. some_in_box box touched at && some_in_box box (is_selected slab) at) (boxes_of sizes box) in
    omega (arith, less, all, few_boxes sizes box rank some)

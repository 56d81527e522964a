-- The boxes of a selection's parts are those of its cells, each once.
use Rattle.std.proofs.Common.{◌≡◌, ◌↔◌, ℕ, ◌<◌, List, length, get_or, map, sym, subst, ap, ◌∙◌, inl, inr, arith}
use Rattle.std.proofs.lemmas.Bool.{cases_order}
use Rattle.std.proofs.lemmas.List.{get_or-map, length-map}
use Rattle.std.proofs.lemmas.List.Elements.{All-map}
use Rattle.std.specs.List.{All, Contains}
use Rattle.h5_model.specs.Format.Links.{Before}
use Rattle.h5_model.specs.Tree.Grid.{corner_of}
use Rattle.h5_model.specs.Views.Selection.{Slab, Selected}
use Rattle.h5_model.proofs.TextOrder.{before_itself}
use Rattle.h5_shape.specs.declared.parts.Span.{Span}
use Rattle.h5_shape.specs.PartCells.{selected_index, HoldsCell, part_corner, AreParted}
use Rattle.h5_shape.proofs.PositionLaws.{selected-position, position-selected}

-- the box of each selected cell is there
pub corner-held : (slab : Slab) (boxes index : List ℕ) (parts : List (List Span)) → AreParted slab boxes parts → Selected slab index
    → Contains (map part_corner parts) (corner_of boxes index)
corner-held slab boxes index parts h selected =
    let found = selected-position slab index selected in
    let held = h.held found.0 found.1 in
    let k = held.0 in
    let part = held.1 in
    let here : HoldsCell (get_or parts k part) found.0 = subst (λ (p : List Span). HoldsCell p found.0) (sym held.3) held.4 in
    let cell = h.cells k part held.2 found.0 here in
    let corner : part_corner (get_or parts k part) ≡ corner_of boxes index = sym cell.1 ∙ ap (corner_of boxes) found.2 in
    (k, omega (arith, length-map parts part_corner, held.2), get_or-map part_corner parts k part (corner_of boxes index) held.2 ∙ corner)

-- each box is that of a selected cell
pub corner-selected : (slab : Slab) (boxes : List ℕ) (parts : List (List Span)) → AreParted slab boxes parts
    → All (λ corner. (index : List ℕ) × Selected slab index × (corner_of boxes index ≡ corner)) (map part_corner parts)
corner-selected slab boxes parts h = All-map (λ corner. (index : List ℕ) × Selected slab index × (corner_of boxes index ≡ corner)) part_corner parts (λ k d low.
    let some = h.some k d low in
    let cell = h.cells k d low some.0 some.1 in
    (selected_index slab some.0, position-selected slab some.0 cell.0, cell.1))

-- so they are those of the selected cells, and no others
pub corner-met : (slab : Slab) (boxes corner : List ℕ) (parts : List (List Span)) → AreParted slab boxes parts
    → Contains (map part_corner parts) corner ↔ ((index : List ℕ) × Selected slab index × (corner_of boxes index ≡ corner))
corner-met slab boxes corner parts h = (from, to) where
  from : Contains (map part_corner parts) corner → (index : List ℕ) × Selected slab index × (corner_of boxes index ≡ corner)
  from (k, low, is) = let own = corner-selected slab boxes parts h k corner low in (own.0, own.1, own.2 ∙ is)

  to : (index : List ℕ) × Selected slab index × (corner_of boxes index ≡ corner) → Contains (map part_corner parts) corner
  to (index, selected, is) = subst (Contains (map part_corner parts)) is (corner-held slab boxes index parts h selected)

-- no two parts hold one cell
pub part-once : (slab : Slab) (boxes at : List ℕ) (parts : List (List Span)) (i j : ℕ) (d : List Span) → AreParted slab boxes parts → i < length parts → j < length parts
    → HoldsCell (get_or parts i d) at → HoldsCell (get_or parts j d) at → i ≡ j
part-once slab boxes at parts i j d h low high one two =
    let first : get_or (map part_corner parts) i (part_corner d) ≡ corner_of boxes (selected_index slab at) = get_or-map part_corner parts i d (part_corner d) low ∙ sym (h.cells i d low at one).1 in
    let second : get_or (map part_corner parts) j (part_corner d) ≡ corner_of boxes (selected_index slab at) = get_or-map part_corner parts j d (part_corner d) high ∙ sym (h.cells j d high at two).1 in
    let box = corner_of boxes (selected_index slab at) in
    elim (cases_order i j) [
      | inl same ↦ same
      | inr other ↦ elim other [
        | inl less ↦
            let order : Before box box = rw (first, second) at (h.order i j (part_corner d) less (omega (arith, length-map parts part_corner))) in
            absurd (before_itself box order)
        | inr more ↦
            let order : Before box box = rw (first, second) at (h.order j i (part_corner d) more (omega (arith, length-map parts part_corner))) in
            absurd (before_itself box order)
      ]
    ]

-- The boxes that an edit and a view both meet, from the parts of one selection.
use Rattle.std.proofs.Common.{◌≡◌, ℕ, zero, suc, ◌*◌, ◌<◌, ◌≤◌, inl, inr, List, [], ◌∷◌, length, get_or, map, refl, sym, ap, ap₂, ◌∙◌, subst, arith, Bool, true, false, cond, ◌&&◌}
use Rattle.std.specs.Prelude.{◌==◌}
use Rattle.std.proofs.lemmas.Bool.Decides.{nat_tests}
use Rattle.std.specs.List.{AllByRecursion, filter, list_any, range_with_len}
use Rattle.std.proofs.lemmas.Bool.{or_parts, or_cases, and_parts}
use Rattle.h5_model.specs.Tree.Grid.{boxes_of, first_of_box, in_box, some_in_box}
use Rattle.h5_model.specs.Tree.Places.{IsInside, cells, index_of, is_inside}
use Rattle.h5_model.specs.Views.Selection.{Slab, Selected, Within, is_selected}
use Rattle.h5_model.specs.Views.Shown.{met_boxes}
use Rattle.h5_model.proofs.Members.{In, all_in, contains_in, filter_in, from_map, in_contains, in_filter, in_map}
use Rattle.h5_model.proofs.PlaceLaws.{is_inside_from}
use Rattle.h5_model.proofs.SelectionLaws.{from_is_selected, to_is_selected}
use Rattle.h5_shape.specs.declared.parts.Span.{Span}
use Rattle.h5_shape.specs.MetFirsts.{AreRanked, is_lost_at, is_reduced, is_written_at, loses_box, meets_box, met_firsts, reaches_past}
use Rattle.h5_shape.specs.PartCells.{AreParted, HoldsCell, part_corner, selection_shape}
use Rattle.h5_shape.proofs.CornerLaws.{corner-met}
use Rattle.h5_shape.proofs.GridBoxes.{IsHeldIn, box_among, box_long, boxes_rise, held_some, product, some_held}
use Rattle.h5_shape.proofs.MetTests.{IsFirst, held_loses, held_meets, loses_held, meets_held, none_loses}
use Rattle.h5_shape.proofs.RisingBoxes.{Rises, filter_rises, pairs_rise, same_members}

-- ---- the boxes of the definition

module _ (sizes box : List ℕ) (touched : List ℕ → Bool) (slab : Slab) (long : length box ≡ length sizes) (some : 0 < cells box) where
  abbrev both_held : List ℕ → Bool
  both_held at = some_in_box box touched at && some_in_box box (is_selected slab) at

  pub firsts_rise : Rises (met_firsts sizes box touched slab)
  unfolding met_boxes
  firsts_rise = boxes_rise sizes box both_held long some

  pub met_held : (first : List ℕ) → In first (met_firsts sizes box touched slab) → IsHeldIn box first touched × IsHeldIn box first (is_selected slab)
  unfolding met_boxes
  met_held first at =
      let found = from_map (first_of_box box) first (filter both_held (boxes_of sizes box)) at in
      let there = filter_in both_held found.0 (boxes_of sizes box) found.1 in
      let split = and_parts (some_in_box box touched found.0) (some_in_box box (is_selected slab) found.0) there.1 in
      let rank : length found.0 ≡ length box = box_long sizes box found.0 long there.0 in (
        subst (λ (f : List ℕ). IsHeldIn box f touched) found.2 (some_held box touched found.0 rank split.0),
        subst (λ (f : List ℕ). IsHeldIn box f (is_selected slab)) found.2 (some_held box (is_selected slab) found.0 rank split.1),
      )

  pub held_met : (first : List ℕ) → ((index : List ℕ) → touched index ≡ true → is_inside sizes index ≡ true) → IsHeldIn box first touched → IsHeldIn box first (is_selected slab)
      → In first (met_firsts sizes box touched slab)
  unfolding met_boxes
  held_met first inside edit view =
      let found = box_among sizes box edit.index some long edit.long (inside edit.index edit.passes) in
      let at = found.0 in
      let is : first_of_box box at ≡ first = found.3 ∙ edit.corner in
      let one : some_in_box box touched at ≡ true = held_some box touched at some found.2 (subst (λ (f : List ℕ). IsHeldIn box f touched) (sym is) edit) in
      let two : some_in_box box (is_selected slab) at ≡ true = held_some box (is_selected slab) at some found.2 (subst (λ (f : List ℕ). IsHeldIn box f (is_selected slab)) (sym is) view) in
      subst (λ (f : List ℕ). In f (map (first_of_box box) (filter both_held (boxes_of sizes box)))) is
      (in_map (first_of_box box) at (filter both_held (boxes_of sizes box)) (in_filter both_held at (boxes_of sizes box) found.1 (ap₂ (λ (p q : Bool). p && q) one two)))

  -- a list that rises and has just these boxes is this one
  pub all_met : (firsts : List (List ℕ)) → ((index : List ℕ) → touched index ≡ true → is_inside sizes index ≡ true) → Rises firsts
      → ((first : List ℕ) → In first firsts → IsHeldIn box first touched × IsHeldIn box first (is_selected slab))
      → ((first : List ℕ) → IsHeldIn box first touched → IsHeldIn box first (is_selected slab) → In first firsts)
      → firsts ≡ met_firsts sizes box touched slab
  all_met firsts inside rises to from = same_members firsts (met_firsts sizes box touched slab) rises firsts_rise
      (λ first at. let held = to first at in held_met first inside held.0 held.1)
      (λ first at. let held = met_held first at in from first held.0 held.1)

-- a box without cells is not met
pub none_met : (sizes box : List ℕ) (touched : List ℕ → Bool) (slab : Slab) → cells box ≡ 0 → met_firsts sizes box touched slab ≡ []
unfolding met_boxes
none_met sizes box touched slab none = ap (map (first_of_box box)) (all_fail (boxes_of sizes box)) where
  none_in : (at : List ℕ) → some_in_box box touched at ≡ false
  none_in at = ap (λ n. list_any (λ place. touched (in_box at box (index_of box place))) (range_with_len 0 n)) none

  all_fail : (ats : List (List ℕ)) → filter (λ at. some_in_box box touched at && some_in_box box (is_selected slab) at) ats ≡ []
  all_fail [] = refl
  all_fail (at ∷ ats) =
      let rest = filter (λ at. some_in_box box touched at && some_in_box box (is_selected slab) at) ats in
      ap (λ b. cond (b && some_in_box box (is_selected slab) at) (at ∷ rest) rest) (none_in at) ∙ all_fail ats

-- ---- the parts of a selection

selected_long : (slab : Slab) (index : List ℕ) → Selected slab index → length index ≡ length slab
selected_long [] [] h = refl
selected_long [] (x ∷ xs) h = absurd h
selected_long (a ∷ rest) [] h = absurd h
selected_long (a ∷ rest) (x ∷ xs) h = ap suc (selected_long rest xs h.1)

module _ (slab : Slab) (box : List ℕ) (parts : List (List Span)) (rank : length box ≡ length slab) (parted : AreParted slab box parts) where
  pub corners_rise : Rises (map part_corner parts)
  corners_rise = pairs_rise (map part_corner parts) parted.order

  pub corner_held : (first : List ℕ) → In first (map part_corner parts) → IsHeldIn box first (is_selected slab)
  corner_held first at =
      let found = (corner-met slab box first parts parted).0 (contains_in first (map part_corner parts) at) in
      record { index = found.0; long = selected_long slab found.0 found.1 ∙ sym rank; corner = found.2; passes = to_is_selected slab found.0 found.1 }

  pub held_corner : (first : List ℕ) → IsHeldIn box first (is_selected slab) → In first (map part_corner parts)
  held_corner first held =
      in_contains first (map part_corner parts) ((corner-met slab box first parts parted).1 (held.index, from_is_selected slab held.index held.passes, held.corner))

is_first : (box first : List ℕ) (test : List ℕ → Bool) → IsHeldIn box first test → IsFirst box first
is_first box first test held = (held.index, held.long, held.corner)

-- ---- a write

pub written_met : (sizes box : List ℕ) (written view : Slab) (parts : List (List Span)) → length sizes ≡ length written → length box ≡ length written → length view ≡ length written
    → Within sizes written → 0 < cells box → AreParted written box parts → filter (meets_box view box) (map part_corner parts) ≡ met_firsts sizes box (is_written_at sizes written) view
written_met sizes box written view parts wide rank same within some parted =
    let corners = map part_corner parts in
    all_met sizes box (is_written_at sizes written) view (rank ∙ sym wide) some (filter (meets_box view box) corners)
    (λ index touched. (and_parts (is_inside sizes index) (is_selected written index) touched).0)
    (filter_rises (meets_box view box) corners (corners_rise written box parts rank parted))
    (λ first at.
    let there = filter_in (meets_box view box) first corners at in
    let held = corner_held written box parts rank parted first there.0 in (
      record {
        index = held.index;
        long = held.long;
        corner = held.corner;
        passes = ap₂ (λ (p q : Bool). p && q) (is_inside_from sizes held.index (within held.index (from_is_selected written held.index held.passes))) held.passes;
      },
      meets_held view box first (rank ∙ sym same) some (is_first box first (is_selected written) held) there.1,
    ))
    (λ first edit seen.
    let split = and_parts (is_inside sizes edit.index) (is_selected written edit.index) edit.passes in
    in_filter (meets_box view box) first corners
    (held_corner written box parts rank parted first (record { index = edit.index; long = edit.long; corner = edit.corner; passes = split.1 }))
    (held_meets view box first (rank ∙ sym same) some seen))

-- ---- a resize

pub lost_met : (sizes kept box : List ℕ) (view : Slab) (parts : List (List Span)) → length sizes ≡ length view → length kept ≡ length view → length box ≡ length view
    → 0 < cells box → AreParted view box parts → filter (loses_box sizes kept box) (map part_corner parts) ≡ met_firsts sizes box (is_lost_at sizes kept) view
lost_met sizes kept box view parts wide as_many rank some parted =
    let corners = map part_corner parts in
    all_met sizes box (is_lost_at sizes kept) view (rank ∙ sym wide) some (filter (loses_box sizes kept box) corners)
    (λ index touched. (and_parts (is_inside sizes index) _ touched).0)
    (filter_rises (loses_box sizes kept box) corners (corners_rise view box parts rank parted))
    (λ first at.
    let there = filter_in (loses_box sizes kept box) first corners at in
    let held = corner_held view box parts rank parted first there.0 in
    (loses_held sizes kept box first (rank ∙ sym wide) (as_many ∙ sym wide) some (is_first box first (is_selected view) held) there.1, held))
    (λ first edit seen. in_filter (loses_box sizes kept box) first corners (held_corner view box parts rank parted first seen)
    (held_loses sizes kept box first (rank ∙ sym wide) (as_many ∙ sym wide) some edit))

pub no_member : {X : Type 0} (xs : List X) → ((x : X) → In x xs → ⊥) → xs ≡ []
no_member [] never = refl
no_member (x ∷ xs) never = absurd (never x (inl refl))

-- where no size is reduced no box is met
pub none_lost : (sizes kept box : List ℕ) (view : Slab) → length sizes ≡ length view → length kept ≡ length view → length box ≡ length view
    → is_reduced sizes kept ≡ false → met_firsts sizes box (is_lost_at sizes kept) view ≡ []
none_lost sizes kept box view wide as_many rank none = by_size (cells box) refl where
  by_size : (n : ℕ) → cells box ≡ n → met_firsts sizes box (is_lost_at sizes kept) view ≡ []
  by_size zero empty = none_met sizes box (is_lost_at sizes kept) view empty
  by_size (suc n) is =
      let some : 0 < cells box = omega (arith, is) in
      no_member (met_firsts sizes box (is_lost_at sizes kept) view) (λ first at.
      let held = met_held sizes box (is_lost_at sizes kept) view (rank ∙ sym wide) some first at in
      let split = and_parts (is_inside sizes first) (reaches_past sizes kept box first) (held_loses sizes kept box first (rank ∙ sym wide) (as_many ∙ sym wide) some held.0) in
      let never : true ≡ false = sym split.1 ∙ none_loses sizes kept box first none in
      cc)

-- ---- the parts in boxes

pub zero_cells : (box : List ℕ) → list_any (λ d. d == 0) box ≡ true → cells box ≡ 0
zero_cells [] some = absurd (cc)
zero_cells (b ∷ bs) some = elim (or_cases (b == 0) (list_any (λ d. d == 0) bs) some) [
  | inl here ↦ let none : b ≡ 0 = grind (arith, nat_tests, here) in ap (λ n. n * cells bs) none ∙ omega arith
  | inr there ↦ ap (λ n. b * n) (zero_cells bs there) ∙ omega arith
]

pub some_cells : (box : List ℕ) → list_any (λ d. d == 0) box ≡ false → (0 < cells box) × ((d : ℕ) → d < length box → 1 ≤ get_or box d 0)
some_cells [] none = (omega arith, λ d low. absurd (omega (arith, low)))
some_cells (b ∷ bs) none =
    let split = or_parts (b == 0) (list_any (λ d. d == 0) bs) none in
    let more : 0 < b = grind (arith, nat_tests, split.0) in
    let rest = some_cells bs split.1 in
    (product b (cells bs) more rest.0, each more rest.1) where
      each : 0 < b → ((d : ℕ) → d < length bs → 1 ≤ get_or bs d 0) → (d : ℕ) → d < suc (length bs) → 1 ≤ get_or (b ∷ bs) d 0
      each more below zero low = omega (arith, more)
      each more below (suc d) low = below d (omega (arith, low))

long_part : (part : List Span) (at : List ℕ) → HoldsCell part at → length part ≡ length at
long_part [] [] h = refl
long_part [] (t ∷ ts) h = absurd h
long_part (s ∷ ss) [] h = absurd h
long_part (s ∷ ss) (t ∷ ts) h = ap suc (long_part ss ts h.1)

long_position : (slab : Slab) (at : List ℕ) → IsInside (selection_shape slab) at → length at ≡ length slab
long_position [] [] h = refl
long_position [] (t ∷ ts) h = absurd h
long_position (a ∷ rest) [] h = absurd h
long_position (a ∷ rest) (t ∷ ts) h = ap suc (long_position rest ts h.1)

-- a span for each dimension
pub parts_ranked : (slab : Slab) (box : List ℕ) (parts : List (List Span)) → AreParted slab box parts
    → AllByRecursion (λ (part : List Span). length part ≡ length slab) parts
parts_ranked slab box parts h = all_in (λ (part : List Span). length part ≡ length slab) parts (λ part at.
    let there = contains_in part parts at in
    let some = h.some there.0 part there.1 in
    let inside = (h.cells there.0 part there.1 some.0 some.1).0 in
    ap (λ (p : List Span). length p) (sym there.2) ∙ long_part _ some.0 some.1 ∙ long_position slab some.0 inside)

pub parts_long : (slab : Slab) (box : List ℕ) (parts : List (List Span)) → length box ≡ length slab → AreParted slab box parts → AreRanked box parts
parts_long slab box parts rank h =
    subst (λ (n : ℕ). AllByRecursion (λ (part : List Span). length part ≡ n) parts) (sym rank) (parts_ranked slab box parts h)

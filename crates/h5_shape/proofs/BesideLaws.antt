-- A write and a view that lie beside each other meet no box.
use Rattle.std.proofs.Common.{◌≡◌, ℕ, ◌+◌, ◌-◌, ◌*◌, ◌/◌, ◌%◌, ◌<◌, ◌≤◌, ◌⊎◌, inl, inr, List, [], ◌∷◌, length, get_or, drop, sym, ap, ◌∙◌, arith, true}
use Rattle.std.proofs.Math.Nat.{div-mul-le_self, mul-div_left, mul-le-mul_right}
use Rattle.std.proofs.lemmas.Nat.{div-add-mod', le-div}
use Rattle.std.proofs.lemmas.Bool.{and_parts}
use Rattle.std.proofs.lemmas.List.{drop_more}
use Rattle.h5_model.specs.declared.hyperslab.Axis.{Axis}
use Rattle.h5_model.specs.Tree.Grid.{corner_of}
use Rattle.h5_model.specs.Tree.Places.{cells, is_inside}
use Rattle.h5_model.specs.Views.Selection.{Slab, is_selected, is_selected_along}
use Rattle.h5_model.proofs.SelectionLaws.{from_selected_along}
use Rattle.h5_shape.specs.MetFirsts.{LieBeside, ShareNoBox, is_written_at, last_along, met_firsts}
use Rattle.h5_shape.proofs.GridBoxes.{factors}
use Rattle.h5_shape.proofs.MetLaws.{met_held, no_member}

-- ---- along one axis

starts_at : (a : Axis) (x : ℕ) → is_selected_along a x ≡ true → a.start ≤ x
starts_at a x is = let at = from_selected_along a x is in omega (arith, at.4)

ends_at : (a : Axis) (x : ℕ) → is_selected_along a x ≡ true → x ≤ last_along a
ends_at a x is =
    let at = from_selected_along a x is in
    let further : at.0 * a.stride ≤ (a.count - 1) * a.stride = mul-le-mul_right a.stride (omega (arith, at.2)) in
    omega (arith, at.3, at.4, further)

pub share_none : (size : ℕ) (a b : Axis) → 0 < size → last_along a < b.start - b.start % size → ShareNoBox size a b
share_none size a b some ends x y one other same =
    let from : b.start / size ≤ y / size = le-div (b.start / size) y size some (omega (arith, div-mul-le_self b.start size, starts_at b y other)) in
    let over : b.start / size * size ≤ x / size * size = mul-le-mul_right size (omega (arith, from, same)) in
    absurd (omega (arith, over, div-mul-le_self x size, ends_at a x one, ends, div-add-mod' b.start size))

pub shared_by_none : (size : ℕ) (a b : Axis) → ShareNoBox size a b → ShareNoBox size b a
shared_by_none size a b none x y one other same = none y x other one (sym same)

-- ---- in every dimension

never_beside : (box : List ℕ) (one other : Slab) (x y : List ℕ) → LieBeside box one other → 0 < cells box → is_selected one x ≡ true → is_selected other y ≡ true
    → length x ≡ length box → length y ≡ length box → corner_of box x ≡ corner_of box y → ⊥
never_beside [] one other x y beside some left right long short same = absurd beside
never_beside (b ∷ bs) [] other x y beside some left right long short same = absurd beside
never_beside (b ∷ bs) (a ∷ rest) [] x y beside some left right long short same = absurd beside
never_beside (b ∷ bs) (a ∷ rest) (c ∷ cs) [] y beside some left right long short same = absurd (omega (arith, long))
never_beside (b ∷ bs) (a ∷ rest) (c ∷ cs) (x ∷ xs) [] beside some left right long short same = absurd (omega (arith, short))
never_beside (b ∷ bs) (a ∷ rest) (c ∷ cs) (x ∷ xs) (y ∷ ys) (inl here) some left right long short same =
    let sizes = factors b (cells bs) some in
    let first : x / b * b ≡ y / b * b = cc in
    here x y (and_parts (is_selected_along a x) (is_selected rest xs) left).0 (and_parts (is_selected_along c y) (is_selected cs ys) right).0
    (sym (mul-div_left (x / b) sizes.0) ∙ ap (λ n. n / b) first ∙ mul-div_left (y / b) sizes.0)
never_beside (b ∷ bs) (a ∷ rest) (c ∷ cs) (x ∷ xs) (y ∷ ys) (inr below) some left right long short same =
    let sizes = factors b (cells bs) some in
    let others : corner_of bs xs ≡ corner_of bs ys = cc in
    never_beside bs rest cs xs ys below sizes.1 (and_parts (is_selected_along a x) (is_selected rest xs) left).1 (and_parts (is_selected_along c y) (is_selected cs ys) right).1
    (omega (arith, long)) (omega (arith, short)) others

-- in the dimensions from one on: in that one, or behind it
pub beside_from : (box : List ℕ) (one other : Slab) (k : ℕ) (d : Axis) → k < length box → k < length one → k < length other
    → ShareNoBox (get_or box k 0) (get_or one k d) (get_or other k d) ⊎ LieBeside (drop (k + 1) box) (drop (k + 1) one) (drop (k + 1) other)
    → LieBeside (drop k box) (drop k one) (drop k other)
beside_from box one other k d h i j beside = rw (drop_more box k 0 h, drop_more one k d i, drop_more other k d j) beside

pub beside_met : (sizes box : List ℕ) (written view : Slab) → length box ≡ length sizes → 0 < cells box → LieBeside box written view
    → met_firsts sizes box (is_written_at sizes written) view ≡ []
beside_met sizes box written view rank some beside = no_member (met_firsts sizes box (is_written_at sizes written) view) (λ first at.
    let held = met_held sizes box (is_written_at sizes written) view rank some first at in
    let edit = held.0 in
    let seen = held.1 in
    never_beside box written view edit.index seen.index beside some (and_parts (is_inside sizes edit.index) (is_selected written edit.index) edit.passes).1 seen.passes
    edit.long seen.long (edit.corner ∙ sym seen.corner))

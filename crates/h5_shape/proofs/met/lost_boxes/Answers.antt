use Rattle.std.proofs.Common.{◌≡◌, ◌∙◌, ap, false, List, ℕ, map, subst, sym, true}
use Rattle.std.specs.List.{filter, list_any}
use Rattle.std.specs.Prelude.{◌==◌}
use Rattle.h5_shape.specs.MetFirsts.{is_reduced, loses_box}
use Rattle.h5_shape.specs.PartCells.{AreParted, part_corner}
use Rattle.h5_shape.proofs.MetLaws.{lost_met, none_lost, none_met, some_cells, zero_cells}
use Rattle.h5_shape.proofs.met.lost_boxes.Goals as goal

pub returns-then-has_zero : goal.returns-then-has_zero
returns-then-has_zero c =
    let zero : list_any (λ d. d == 0) c.sizes-grid.result.now ≡ true = cc in
    none_met c.args.sizes.now c.args.grid.now _ c.args.view.now (zero_cells c.args.grid.now (ap (list_any (λ d. d == 0)) (sym c.sizes-grid.ensures.numbers) ∙ zero))

pub returns-then-not-is_reduced : goal.returns-then-not-is_reduced
returns-then-not-is_reduced c =
    let told : is_reduced c.sizes.result.now c.sizes-2.result.now ≡ false = cc in
    let none : is_reduced c.args.sizes.now c.args.kept.now ≡ false = (λ i. is_reduced (sym c.sizes.ensures.numbers i) (sym c.sizes-2.ensures.numbers i)) ∙ told in
    none_lost c.args.sizes.now c.args.kept.now c.args.grid.now c.args.view.now c.requires.sizes c.requires.kept c.requires.grid none

pub returns : goal.returns
returns c =
    let grid = c.args.grid.now in
    let view = c.args.view.now in
    let (parts, parted, firsts) = c.tested_boxes.ensures in
    let sized : list_any (λ d. d == 0) c.sizes-grid.result.now ≡ false = cc in
    let none : list_any (λ d. d == 0) grid ≡ false = ap (list_any (λ d. d == 0)) (sym c.sizes-grid.ensures.numbers) ∙ sized in
    firsts ∙ (λ i. filter (loses_box (c.sizes-3.ensures.numbers i) (c.sizes-4.ensures.numbers i) (c.sizes-grid.ensures.numbers i)) (map part_corner parts))
    ∙ lost_met c.args.sizes.now c.args.kept.now grid view parts c.requires.sizes c.requires.kept c.requires.grid (some_cells grid none).0
    (subst (λ (g : List ℕ). AreParted view g parts) c.sizes-grid.ensures.numbers parted)

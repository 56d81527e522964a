use Rattle.std.proofs.Common.{◌≡◌, ◌∙◌, ap, false, List, ℕ, map, subst, sym, true}
use Rattle.std.specs.List.{filter, list_any}
use Rattle.std.specs.Prelude.{◌==◌}
use Rattle.h5_shape.specs.MetFirsts.{meets_box}
use Rattle.h5_shape.specs.PartCells.{AreParted, part_corner}
use Rattle.h5_shape.proofs.MetLaws.{none_met, some_cells, written_met, zero_cells}
use Rattle.h5_shape.proofs.met.written_boxes.Goals as goal

pub returns-then-has_zero : goal.returns-then-has_zero
returns-then-has_zero c sizes wide within =
    let zero : list_any (λ d. d == 0) c.sizes-grid.result.now ≡ true = cc in
    none_met sizes c.args.grid.now _ c.args.view.now (zero_cells c.args.grid.now (ap (list_any (λ d. d == 0)) (sym c.sizes-grid.ensures.numbers) ∙ zero))

pub returns : goal.returns
returns c sizes wide within =
    let grid = c.args.grid.now in
    let written = c.args.written.now in
    let view = c.args.view.now in
    let (parts, parted, firsts) = c.tested_boxes.ensures in
    let sized : list_any (λ d. d == 0) c.sizes-grid.result.now ≡ false = cc in
    let none : list_any (λ d. d == 0) grid ≡ false = ap (list_any (λ d. d == 0)) (sym c.sizes-grid.ensures.numbers) ∙ sized in
    firsts ∙ (λ i. filter (meets_box (c.axes.ensures.axes i) (c.sizes-grid.ensures.numbers i)) (map part_corner parts))
    ∙ written_met sizes grid written view parts wide c.requires.grid c.requires.view within (some_cells grid none).0
    (subst (λ (g : List ℕ). AreParted written g parts) c.sizes-grid.ensures.numbers parted)

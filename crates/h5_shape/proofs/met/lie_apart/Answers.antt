use Rattle.std.proofs.Common.{◌≡◌, ◌∙◌, ap, false, subst, sym, true}
use Rattle.std.specs.List.{list_any}
use Rattle.std.specs.Prelude.{◌==◌}
use Rattle.h5_shape.specs.MetFirsts.{LieBeside}
use Rattle.h5_shape.proofs.BesideLaws.{beside_met}
use Rattle.h5_shape.proofs.MetLaws.{none_met, some_cells, zero_cells}
use Rattle.h5_shape.proofs.met.lie_apart.Goals as goal

pub returns-then-has_zero : goal.returns-then-has_zero
returns-then-has_zero c is sizes wide =
    let zero : list_any (λ d. d == 0) c.sizes-grid.result.now ≡ true = cc in
    none_met sizes c.args.grid.now _ c.args.view.now (zero_cells c.args.grid.now (ap (list_any (λ d. d == 0)) (sym c.sizes-grid.ensures.numbers) ∙ zero))

pub returns-else-has_zero : goal.returns-else-has_zero
returns-else-has_zero c is sizes wide =
    let sized : list_any (λ d. d == 0) c.sizes-grid.result.now ≡ false = cc in
    let none : list_any (λ d. d == 0) c.args.grid.now ≡ false = ap (list_any (λ d. d == 0)) (sym c.sizes-grid.ensures.numbers) ∙ sized in
    beside_met sizes c.args.grid.now c.args.written.now c.args.view.now (c.requires.grid ∙ sym wide) (some_cells c.args.grid.now none).0
    (subst (λ (X : Type 0). X) (λ i. LieBeside (c.sizes-grid.ensures.numbers i) (c.axes.ensures.axes i) (c.axes-else-has_zero.ensures.axes i)) (c.lie_beside.ensures is))

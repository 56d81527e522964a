use Rattle.std.proofs.Common.{◌≡◌, ◌∙◌, ◌≤◌, None, Some, Option, ◌++◌, sym, ap, subst, arith}
use Rattle.std.specs.Prelude.{MatchResult}
use Rattle.h5_model.specs.Tree.Places.{cells}
use Rattle.h5_model.specs.Views.Selection.{axes_of, selected_cells}
use Rattle.h5_model.specs.Edits.Refusal.{first_holding}
use Rattle.h5_model.specs.declared.edit_fault.EditFault.{EditFault}
use Rattle.h5_shape.proofs.Products.{cells_le}
use Rattle.h5_query.proofs.RuleLaws.{first-behind}
use Rattle.h5_query.specs.Selected.{hyper_rules}
use Rattle.h5_edit.specs.Refusals.Rules.{counted_rules, value_rules}
use Rattle.h5_edit.proofs.rules.write.check_parted.Goals as goal

-- no rule of the lists holds, so those of the values decide
pub returns : goal.returns
returns c =
    let sizes = c.args.array.now.sizes in
    let fixed = c.args.array.now.fixed in
    let hyper = c.args.hyper.now in
    let values = c.args.values.now in
    let slab = c.in_ok-slab.slab in
    let behind : first_holding (hyper_rules sizes hyper) ≡ None
    = subst (λ ns. first_holding (hyper_rules ns hyper) ≡ None) c.dims.ensures.sizes c.in_ok-slab.ensures.rules.0 in
    let small = c.dims.ensures.sound.small in
    let le = cells_le sizes in
    let inside : selected_cells slab ≤ cells sizes = subst (λ ns. selected_cells slab ≤ cells ns) c.dims.ensures.sizes c.in_ok-slab.ensures.inside.few in
    let all : selected_cells slab ≡ c.cells.result = omega (arith, c.cells.ensures, inside, le, small) in
    let counted : selected_cells (axes_of hyper) ≡ c.cells.result = sym (ap selected_cells c.in_ok-slab.ensures.rules.1) ∙ all in
    let left : first_holding (hyper_rules sizes hyper ++ value_rules fixed hyper values) ≡ first_holding (counted_rules fixed c.cells.result values)
    = first-behind (hyper_rules sizes hyper) (value_rules fixed hyper values) behind ∙ ap (λ n. first_holding (counted_rules fixed n values)) counted in
    subst (λ (found : Option EditFault). MatchResult c.check_values.result (λ _. found ≡ None) (λ e. found ≡ Some e)) (sym left) c.check_values.ensures

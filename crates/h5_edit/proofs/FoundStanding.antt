-- Selected cells that are one run: why nothing but their values refuses them.
use Rattle.std.proofs.Common.{◌≡◌, ℕ, ℤ, ◌+◌, ◌-◌, ◌<◌, ◌≤◌, List, [], ◌∷◌, Bool, true, false, not, None, length, refl, sym, ap, ◌∙◌, subst, arith}
use Rattle.std.specs.Prelude.{◌++◌, ◌==◌}
use Rattle.std.proofs.lemmas.Bool.Decides.{nat_tests}
use Rattle.std.specs.List.{Contains, list_all, range_with_len}
use Rattle.std.proofs.lemmas.List.{append-nil}
use Rattle.std.proofs.lemmas.List.FromFn.{length-range_with_len}
use Rattle.h5_laws.proofs.Lists.{contains_in, in_range}
use Rattle.h5_layout.proofs.ChosenPlaces.{place_low}
use Rattle.h5_model.specs.Edits.Refusal.{first_holding}
use Rattle.h5_model.specs.Format.Fixed.{Fixed, fits}
use Rattle.h5_model.specs.Format.Described.{Described}
use Rattle.h5_model.specs.Tree.Places.{cells}
use Rattle.h5_model.specs.Views.Selection.{Slab, axes_of, selected_cells, selection_of}
use Rattle.h5_model.specs.declared.edit_fault.EditFault.TheVariants as fault
use Rattle.h5_model.specs.declared.hyperslab.Hyper.{Hyper}
use Rattle.h5_query.proofs.RuleLaws.{first-behind}
use Rattle.h5_query.proofs.StandingSelection.{selection_accepted, selection_is}
use Rattle.h5_query.specs.Selected.{hyper_rules}
use Rattle.h5_shape.specs.OneRun.{IsOneRun}
use Rattle.h5_shape.specs.Runs.{AreMaximal, places_in}
use Rattle.h5_shape.specs.declared.runs.CellRun.{CellRun}
use Rattle.h5_shape.proofs.RunLaws.{places_of_runs, runs-maximal}
use Rattle.h5_edit.specs.Refusals.Allowed.{AreValuesOfRun}
use Rattle.h5_edit.specs.Refusals.Rules.{counted_rules, value_rules}

module _ (sizes : List ℕ) (hyper : Hyper) (run : CellRun) (is : IsOneRun sizes hyper run) where
  abbrev slab : Slab
  slab = axes_of hyper

  abbrev selection : List ℕ
  selection = selection_of sizes slab

  -- no rule of a selection refuses it
  pub run_selects : first_holding (hyper_rules sizes hyper) ≡ None
  run_selects = selection_accepted sizes hyper is.selection is.rank is.within

  pub places_are : range_with_len run.place run.length ≡ selection
  places_are = sym (append-nil (range_with_len run.place run.length)) ∙ ap places_in (sym is.runs) ∙ places_of_runs selection

  pub run_some : 0 < run.length
  run_some = subst AreMaximal is.runs (runs-maximal selection)

  -- it has all selected cells
  pub run_counted : run.length ≡ selected_cells slab
  run_counted = sym (length-range_with_len run.place run.length) ∙ ap length places_are ∙ (selection_is sizes hyper is.selection is.rank is.within).counted

  -- and they are cells of the array
  pub run_inside : run.place + run.length ≤ cells sizes
  run_inside =
      let some = run_some in
      let last : ℕ = run.place + (run.length - 1) in
      let among = in_range run.place run.length (run.length - 1) (omega (arith, some)) in
      let low = place_low sizes slab last (subst (λ (ps : List ℕ). Contains ps last) places_are (contains_in last (range_with_len run.place run.length) among)) in
      omega (arith, low, some)

-- ---- and values for it

values_fit : (fixed : Fixed) (n : ℕ) (values : List ℤ) → first_holding (counted_rules fixed n values) ≡ None
    → (length values ≡ n) × (list_all (fits fixed) values ≡ true)
values_fit fixed n values none = by_values (length values == n) (list_all (fits fixed) values) refl refl none where
  by_values : (counted fitting : Bool) → (length values == n) ≡ counted → list_all (fits fixed) values ≡ fitting
      → first_holding ((fault.ValueCount, not counted) ∷ (fault.ValueRange, not fitting) ∷ []) ≡ None
      → (length values ≡ n) × (list_all (fits fixed) values ≡ true)
  by_values false fitting count fit never = absurd (cc)
  by_values true false count fit never = absurd (cc)
  by_values true true count fit none_holds = (grind (arith, nat_tests, count), fit)

module _ (a : Described) (hyper : Hyper) (values : List ℤ) (run : CellRun) (is : IsOneRun a.sizes hyper run) where
  -- the values alone decide
  pub values_decide : first_holding (hyper_rules a.sizes hyper ++ value_rules a.fixed hyper values) ≡ first_holding (counted_rules a.fixed run.length values)
  values_decide =
      first-behind (hyper_rules a.sizes hyper) (value_rules a.fixed hyper values) (run_selects a.sizes hyper run is)
      ∙ ap (λ n. first_holding (counted_rules a.fixed n values)) (sym (run_counted a.sizes hyper run is))

  -- and where they refuse nothing, there is one for each cell of the run
  pub values_of_run : first_holding (counted_rules a.fixed run.length values) ≡ None → AreValuesOfRun a hyper values run
  values_of_run none = let fit = values_fit a.fixed run.length values none in record { selected = is; counted = fit.0; of_type = fit.1 }

-- The runs of a selection whose cells are stored.
use Rattle.std.proofs.Common.{◌≡◌, ℕ, ℤ, ◌<◌, ◌≤◌, true, Some, List, [], ◌∷◌, length, sym, ap, ◌∙◌, subst}
use Rattle.std.specs.List.{AllByRecursion, Contains, list_all}
use Rattle.h5_laws.proofs.Lists.{all_in, contains_in}
use Rattle.h5_model.specs.Format.Fixed.{fits}
use Rattle.h5_model.specs.Format.Limits.{most_cells}
use Rattle.h5_model.specs.Tree.Objects.{Dataset, dataset_of}
use Rattle.h5_model.specs.Tree.Places.{cells}
use Rattle.h5_model.specs.Views.Selection.{Slab, axes_of, selection_of}
use Rattle.h5_model.specs.declared.hyperslab.Hyper.{Hyper}
use Rattle.h5_query.specs.Opened.State.{FileState}
use Rattle.h5_query.specs.Written.{AreRunsStored}
use Rattle.h5_shape.specs.Runs.{AreMaximal, places_in}
use Rattle.h5_shape.specs.declared.runs.CellRun.{CellRun}
use Rattle.h5_edit.specs.Stored.{AreSelectedReady, AreSelectedRuns, AreSelectedStored}
use Rattle.h5_layout.proofs.ChosenPlaces.{place_low}

each_some : (runs : List CellRun) → AreMaximal runs → AllByRecursion (λ (r : CellRun). 0 < r.length) runs
each_some [] maximal = tt
each_some (r ∷ []) maximal = (maximal, tt)
each_some (r ∷ s ∷ rs) maximal = (maximal.0, each_some (s ∷ rs) maximal.2)

module _ (f : FileState) (number : ℕ) (d : Dataset) (array : dataset_of f.tree number ≡ Some d) (slab : Slab) (stored : AreSelectedStored f number slab) where
  pub runs_stored : (values : List ℤ) → length values ≡ length (selection_of d.sizes slab) → list_all (fits d.fixed) values ≡ true → (runs : List CellRun)
      → places_in runs ≡ selection_of d.sizes slab → AreMaximal runs → cells d.sizes ≤ most_cells → AreRunsStored f number runs values d
  runs_stored values counted of_type runs places maximal few = record {
    array = array;
    few = few;
    some = each_some runs maximal;
    inside = all_in (λ place. place < cells d.sizes) (places_in runs) (λ place at.
        place_low d.sizes slab place (subst (λ (ps : List ℕ). Contains ps place) places (contains_in place (places_in runs) at)));
    counted = counted ∙ ap length (sym places);
    of_type = of_type;
    stored = λ place at. stored d array place (subst (λ (ps : List ℕ). Contains ps place) places at);
  }

-- what is asked of the runs of cells that are stored
pub runs_ready : {f : FileState} {number : ℕ} {hyper : Hyper} {values : List ℤ} {d : Dataset} → AreSelectedReady f number hyper values d → (runs : List CellRun)
    → AreSelectedRuns d.sizes hyper runs → AreRunsStored f number runs values d
runs_ready {f} {number} {hyper} {values} {d} ready runs are =
    runs_stored f number d ready.array (axes_of hyper) ready.stored values ready.counted ready.of_type runs are.places are.maximal are.few

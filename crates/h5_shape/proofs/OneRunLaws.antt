-- A hyperslab is one run where its axes' cells are.
use Rattle.std.proofs.Common.{◌≡◌, ℕ, ◌≤◌, List, [], ◌∷◌, length, refl, sym, ap, ◌∙◌, arith, Bool, true, false, not, cond, Ok, Err}
use Rattle.std.proofs.lemmas.Bool.Decides.{nat_tests}
use Rattle.std.proofs.lemmas.List.{append-nil}
use Rattle.std.specs.List.{list_any}
use Rattle.h5_model.specs.Format.Limits.{most_dimensions}
use Rattle.h5_model.specs.declared.Hyper.{Hyper}
use Rattle.h5_model.specs.Views.Selection.{Slab, axes_of, has_rank, has_no_stride, is_run, overlaps, selection_of, selects_none}
use Rattle.h5_model.proofs.RefusalLaws.{length-axes_of}
use Rattle.h5_model.proofs.WithinLaws.{from_is_within}
use Rattle.h5_shape.specs.declared.runs.CellRun.{CellRun}
use Rattle.h5_shape.specs.declared.single_run.InnerRun.{InnerRun}
use Rattle.h5_shape.specs.declared.slab.SlabFault.TheVariants as fault
use Rattle.h5_shape.specs.SpacedPlaces.{spaced_places, first_place}
use Rattle.h5_shape.specs.Runs.{cell_runs}
use Rattle.h5_shape.specs.Slab.{is_of_one_rank}
use Rattle.h5_shape.specs.InnerRuns.{HasNoInnerRun, IsInnerRun, IsSelecting}
use Rattle.h5_shape.specs.OneRun.{IsOneRun}
use Rattle.h5_shape.proofs.RunLaws.{is_single, run-single, runs_spaced}
use Rattle.h5_shape.proofs.SelectedPlaces.{selection-from}
use Rattle.h5_shape.proofs.SlabRuns.{within_fits, selection_none}

module _ (sizes : List ℕ) (hyper : Hyper) where
  -- what the recursion over the dimensions gives is the run of the hyperslab
  pub one-run_from : (inner : InnerRun) → has_rank (length sizes) hyper ≡ true → length sizes ≤ most_dimensions → IsInnerRun sizes (axes_of hyper) inner
      → IsOneRun sizes hyper (record { place = inner.place; length = inner.length })
  one-run_from inner ranks few run =
      let kept = run.selecting in
      let long : length (axes_of hyper) ≡ length sizes = length-axes_of (length sizes) hyper ranks in
      let ranked : is_of_one_rank hyper ≡ true = grind (arith, nat_tests) in
      record {
        selection = rw (ranked, kept.strides, kept.apart) refl;
        rank = long;
        within = from_is_within sizes (axes_of hyper) (sym long) (rw kept.some kept.fits);
        runs = ap cell_runs (selection-from sizes (axes_of hyper) (sym long) kept.fits kept.apart ∙ run.places (first_place sizes (axes_of hyper)) ∙ sym (append-nil (spaced_places inner.length 1 (first_place sizes (axes_of hyper)))))
            ∙ rw (← run.start) (runs_spaced inner.length inner.place [] run.some tt);
      }

  -- what the tests of the lists say
  passed : (ranks strides apart : Bool) (slab : Slab)
      → cond (not ranks) (Err fault.RankMismatch) (cond strides (Err fault.StrideZero) (cond apart (Err fault.BlocksOverlap) (Ok slab))) ≡ Ok slab
      → (ranks ≡ true) × (strides ≡ false) × (apart ≡ false)
  passed false strides apart slab h = absurd (cc)
  passed true true apart slab h = absurd (cc)
  passed true false true slab h = absurd (cc)
  passed true false false slab h = (refl, refl, refl)

  module _ (run : CellRun) (one : IsOneRun sizes hyper run) where
    lists : (is_of_one_rank hyper ≡ true) × (list_any has_no_stride (axes_of hyper) ≡ false) × (list_any overlaps (axes_of hyper) ≡ false)
    lists = passed (is_of_one_rank hyper) (list_any has_no_stride (axes_of hyper)) (list_any overlaps (axes_of hyper)) (axes_of hyper) one.selection

    selects : selects_none (axes_of hyper) ≡ false
    selects = elim (selects_none (axes_of hyper)) as (λ b. selects_none (axes_of hyper) ≡ b → b ≡ false) [
      | false ↦ λ _. refl
      | true ↦ λ none. let never : [] ≡ run ∷ [] = ap cell_runs (sym (selection_none sizes (axes_of hyper) none)) ∙ one.runs in absurd (cc)
    ] refl

    -- then the recursion gives it
    pub one-run_inner : HasNoInnerRun sizes (axes_of hyper) → ⊥
    one-run_inner none =
        let slab = axes_of hyper in
        let fits = within_fits sizes slab one.within selects in
        let kept : IsSelecting sizes slab = record { strides = lists.1; apart = lists.2; some = selects; fits = fits } in
        let single : is_run (selection_of sizes slab) ≡ true = run-single (selection_of sizes slab) ∙ ap is_single one.runs in
        let never : is_run (selection_of sizes slab) ≡ false = ap is_run (selection-from sizes slab (sym one.rank) fits lists.2) ∙ none kept (first_place sizes slab) in
        absurd (cc)

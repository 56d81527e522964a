-- Why four lists select no cells of an array, or that they do.
use Rattle.std.proofs.Common.{◌≡◌, ◌≢◌, ℕ, ◌≤◌, List, [], ◌∷◌, length, refl, sym, ap, ◌∙◌, Bool, true, false, not, Option, Some, None, Result, Ok, Err, arith}
use Rattle.std.proofs.lemmas.Bool.Decides.{nat_tests}
use Rattle.std.proofs.lemmas.List.FromFn.{length-range_with_len}
use Rattle.std.specs.Prelude.{MatchResult, nat_le, ◌==◌, ◌&&◌, if◌then◌else◌}
use Rattle.std.specs.List.{list_any, range_with_len}
use Rattle.std.specs.Option.{option_map_or}
use Rattle.std.proofs.lemmas.Bool.{not-false}
use Rattle.h5_model.proofs.RefusalLaws.{length-axes_of}
use Rattle.h5_model.specs.Edits.Refusal.{first_holding}
use Rattle.h5_model.specs.Format.Limits.{most_dimensions}
use Rattle.h5_model.specs.Scripts.Reading.{dataset_rules, selection_rules}
use Rattle.h5_model.specs.Tree.Objects.{Tree, Dataset}
use Rattle.h5_model.specs.Tree.Paths.{dataset_at}
use Rattle.h5_model.specs.Tree.Places.{cells, index_of}
use Rattle.h5_model.specs.Views.Selection.{Slab, axes_of, has_rank, has_no_stride, overlaps, is_within, is_selected, selection_of}
use Rattle.h5_model.specs.Views.Shown.{selected_values}
use Rattle.h5_model.specs.declared.edit_fault.EditFault.{EditFault}
use Rattle.h5_model.specs.declared.edit_fault.EditFault.TheVariants as fault
use Rattle.h5_model.specs.declared.hyperslab.Hyper.{Hyper}
use Rattle.h5_model.proofs.Members.{few_pass}
use Rattle.h5_shape.specs.Slab.{slab_of, is_of_one_rank}
use Rattle.h5_shape.specs.declared.slab.SlabFault.{SlabFault}
use Rattle.h5_shape.specs.declared.slab.SlabFault.TheVariants as slab
use Rattle.h5_open.specs.Pieces.{CellsLeft}
use Rattle.h5_query.specs.Kept.{IsArrayAt}
use Rattle.h5_query.specs.Selected.{HasRuns, IsSelectedAt, hyper_rules, fault_of_slab}
use Rattle.h5_query.proofs.RuleLaws.{first-behind, first-found}

-- the outcome of the rules by themselves
by_rules : (rank stride overlap outside : Bool) (s : Slab)
    → MatchResult (if rank then Err slab.RankMismatch else (if stride then Err slab.StrideZero else (if overlap then Err slab.BlocksOverlap else Ok s)))
    (λ t. (t ≡ s) × (first_holding ((fault.RankMismatch, rank) ∷ (fault.StrideZero, stride) ∷ (fault.BlocksOverlap, overlap) ∷ (fault.OutOfExtent, outside) ∷ []) ≡ (if outside then Some fault.OutOfExtent else None)))
    (λ f. first_holding ((fault.RankMismatch, rank) ∷ (fault.StrideZero, stride) ∷ (fault.BlocksOverlap, overlap) ∷ (fault.OutOfExtent, outside) ∷ []) ≡ Some (fault_of_slab f))
by_rules true stride overlap outside s = refl
by_rules false true overlap outside s = refl
by_rules false false true outside s = refl
by_rules false false false outside s = (refl, refl)

module _ (sizes : List ℕ) (hyper : Hyper) where
  pub rank_refused : length hyper.start ≢ length sizes → first_holding (hyper_rules sizes hyper) ≡ Some fault.RankMismatch
  rank_refused other = let test : (length hyper.start == length sizes) ≡ false = grind (arith, nat_tests) in rw test refl

  module _ (same : length hyper.start ≡ length sizes) (few : length sizes ≤ most_dimensions) where
    one_rank : not (has_rank (length sizes) hyper) ≡ not (is_of_one_rank hyper)
    one_rank =
        let low : nat_le (length hyper.start) 32 ≡ true = grind (arith, nat_tests) in
        rw (← same, low) (and_true (has_rank (length hyper.start) hyper)) where
          and_true : (b : Bool) → not b ≡ not (b && true)
          and_true true = refl
          and_true false = refl

    pub slab_answered : (r : Result Slab SlabFault) → r ≡ slab_of hyper
        → MatchResult r (λ t. (t ≡ axes_of hyper) × (first_holding (hyper_rules sizes hyper) ≡ (if not (is_within sizes (axes_of hyper)) then Some fault.OutOfExtent else None)))
        (λ f. first_holding (hyper_rules sizes hyper) ≡ Some (fault_of_slab f))
    slab_answered r is = rw (is, one_rank)
        (by_rules (not (is_of_one_rank hyper)) (list_any has_no_stride (axes_of hyper)) (list_any overlaps (axes_of hyper)) (not (is_within sizes (axes_of hyper))) (axes_of hyper))

    ranked : (b : Bool) → is_of_one_rank hyper ≡ b → (s : Slab) → Ok s ≡ slab_of hyper → has_rank (length sizes) hyper ≡ true
    ranked false is s h = absurd (let never : Ok s ≡ Err slab.RankMismatch = rw is at h in cc)
    ranked true is s h = not-false (has_rank (length sizes) hyper) (one_rank ∙ ap not is)

    pub slab_long : (s : Slab) → Ok s ≡ slab_of hyper → length sizes ≡ length s
    slab_long s is =
        let same = slab_answered (Ok s) is in
        sym (ap length same.0 ∙ length-axes_of (length sizes) hyper (ranked (is_of_one_rank hyper) refl s is))

-- no more are selected than there are
pub selection_few : (sizes : List ℕ) (slab : Slab) → length (selection_of sizes slab) ≤ cells sizes
unfolding selection_of
selection_few sizes slab =
    let few = few_pass (λ place. is_selected slab (index_of sizes place)) (range_with_len 0 (cells sizes)) in
    let all = length-range_with_len 0 (cells sizes) in
    omega (arith, few, all)

-- ---- the rules of a selection behind those of the path

module _ (tree : Tree) (path : List ℕ) (hyper : Hyper) where
  -- those of the lists, of what was found there
  abbrev pub asked_of : Option Dataset → List (EditFault × Bool)
  asked_of found =
      (fault.RankMismatch, option_map_or (λ (d : Dataset). not (has_rank (length d.sizes) hyper)) found false)
      ∷ (fault.StrideZero, list_any has_no_stride (axes_of hyper))
      ∷ (fault.BlocksOverlap, list_any overlaps (axes_of hyper))
      ∷ (fault.OutOfExtent, option_map_or (λ (d : Dataset). not (is_within d.sizes (axes_of hyper))) found false)
      ∷ []

  pub path_refused : (e : EditFault) → first_holding (dataset_rules tree path) ≡ Some e → first_holding (selection_rules tree path hyper) ≡ Some e
  path_refused e h = first-found (dataset_rules tree path) (asked_of (dataset_at tree path)) e h

  module _ (at : ℕ × Dataset) (there : IsArrayAt tree path at) where
    pub slab_left : first_holding (selection_rules tree path hyper) ≡ first_holding (hyper_rules (at.1).sizes hyper)
    slab_left = first-behind (dataset_rules tree path) (asked_of (dataset_at tree path)) there.accepted ∙ ap (λ (found : Option Dataset). first_holding (asked_of found)) there.found

    pub slab_refused : (e : EditFault) → first_holding (hyper_rules (at.1).sizes hyper) ≡ Some e → first_holding (selection_rules tree path hyper) ≡ Some e
    slab_refused e h = slab_left ∙ h

  pub has_runs : (at : ℕ × Dataset × Slab) → IsSelectedAt tree path hyper at → (left : CellsLeft)
      → left ≡ record { fixed = (at.1).fixed; fill = (at.1).fill; values = selected_values at.1 at.2 } → HasRuns tree path hyper left
  has_runs at there left are = record {
    accepted = there.accepted;
    dataset = at.1;
    found = there.found;
    type_is = ap (λ (l : CellsLeft). l.fixed) are;
    fill_is = ap (λ (l : CellsLeft). l.fill) are;
    values_are = ap (λ (l : CellsLeft). l.values) are ∙ ap (selected_values at.1) there.axes;
  }

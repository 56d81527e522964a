-- What a read answers: how many bytes the selected cells have, and which rule refuses it.
use Rattle.std.proofs.Common.{◌≡◌, ℕ, ◌*◌, ◌-◌, ◌^◌, ◌≤◌, min, List, length, Option, refl, sym, ap, ◌∙◌, arith, inl, inr}
use Rattle.std.proofs.lemmas.List.{length-map}
use Rattle.h5_file.specs.Selected.{IsSlabOf}
use Rattle.h5_model.proofs.PlainValues.{length-cells_bytes}
use Rattle.h5_file.specs.DatasetAt.{IsDatasetAt}
use Rattle.h5_file.specs.Selected.{hyper_rules}
use Rattle.h5_model.specs.Edits.Refusal.{first_holding}
use Rattle.h5_model.specs.Format.Limits.{most_cells}
use Rattle.h5_model.specs.Format.Plain.{cells_bytes}
use Rattle.h5_model.specs.Scripts.Reading.{dataset_rules, selection_rules}
use Rattle.h5_model.specs.Tree.Objects.{Dataset, Tree}
use Rattle.h5_model.specs.Tree.Paths.{dataset_at}
use Rattle.h5_model.specs.Tree.Places.{cells}
use Rattle.h5_model.specs.Views.Selection.{Slab, axes_of, selected_cells}
use Rattle.h5_model.specs.Views.Shown.{selected_values}
use Rattle.h5_model.specs.declared.hyperslab.Hyper.{Hyper}
use Rattle.h5_query.proofs.RuleLaws.{first-behind}
use Rattle.h5_query.proofs.SelectionLaws.{asked_of}
use Rattle.h5_c.specs.Read.{HasRead, HasReadOf, IsCopiedFrom}

module _ (d : Dataset) (slab : Slab) (n size : ℕ) (of : IsSlabOf d.sizes slab) (low : cells d.sizes ≤ most_cells) (count : n ≡ min (selected_cells slab) (2 ^ 64 - 1)) (width : size ≡ (d.fixed).size) where
  slab_bytes : n * size ≡ length (cells_bytes d.fixed (selected_values d slab))
  slab_bytes =
      let exact : n ≡ selected_cells slab = omega (arith, of.few, low, count) in
      let values : length (selected_values d slab) ≡ n = length-map _ _ ∙ of.counted ∙ sym exact in
      (λ i. sym values i * width i) ∙ sym (length-cells_bytes d.fixed (selected_values d slab))

  pub not_copied : (room : List ℕ) → ¬ (n * size ≡ length room) → IsCopiedFrom d slab room room 101
  not_copied room differs = record { whole = λ same. absurd (differs (slab_bytes ∙ sym same)); other = λ _. (refl, refl) }

-- ---- the rules of a selection behind those of the path

module _ (tree : Tree) (path : List ℕ) (hyper : Hyper) (old new : List ℕ) (status : ℕ) where
  -- of the array that stands there
  pub read_there : (d : Dataset) → IsDatasetAt tree path d → HasReadOf d hyper old new status → HasRead tree path hyper old new status
  read_there d there = by_answer where
    same : first_holding (selection_rules tree path hyper) ≡ first_holding (hyper_rules d.sizes hyper)
    same = first-behind (dataset_rules tree path) (asked_of tree path hyper (dataset_at tree path)) there.accepted ∙ ap (λ (found : Option Dataset). first_holding (asked_of tree path hyper found)) there.stands

    by_answer : HasReadOf d hyper old new status → HasRead tree path hyper old new status
    by_answer (inl read) = inl ((d, axes_of hyper), record { accepted = same ∙ read.0.accepted; found = there.stands; axes = refl; slab = read.0.slab }, read.1)
    by_answer (inr refused) = inr (refused.0, (refused.1.0, refused.1.1, same ∙ refused.1.2))

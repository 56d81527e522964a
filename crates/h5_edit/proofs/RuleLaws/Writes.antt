-- Why a write is refused, or that it is not: by its path, its selection and its values.
use Rattle.std.proofs.Common.{◌≡◌, ℕ, ◌-◌, ◌^◌, min, ◌≤◌, List, [], ◌∷◌, ◌++◌, length, refl, sym, ap, ◌∙◌, Bool, false, not, Option, Some, None, arith}
use Rattle.std.proofs.Math.Bool.{or-false}
use Rattle.std.specs.Prelude.{ℤ, ◌==◌}
use Rattle.std.specs.List.{list_all, list_any}
use Rattle.std.specs.Option.{option_map_or}
use Rattle.h5_model.specs.Edits.Refusal.{refusal_of, first_holding}
use Rattle.h5_model.specs.Format.Fixed.{Fixed, fits}
use Rattle.h5_model.specs.Format.Limits.{most_cells}
use Rattle.h5_model.specs.Scripts.Reading.{dataset_rules}
use Rattle.h5_model.specs.Tree.Objects.{Tree, Dataset}
use Rattle.h5_model.specs.Tree.Paths.{dataset_at}
use Rattle.h5_model.specs.Views.Selection.{axes_of, has_rank, has_no_stride, overlaps, is_within, selected_cells}
use Rattle.h5_model.specs.declared.edits.Edit.TheVariants.{Write}
use Rattle.h5_model.specs.declared.edit_fault.EditFault.{EditFault}
use Rattle.h5_model.specs.declared.edit_fault.EditFault.TheVariants as fault
use Rattle.h5_model.specs.declared.hyperslab.Hyper.{Hyper}
use Rattle.h5_query.proofs.RuleLaws.{first-behind, first-found}
use Rattle.h5_query.specs.Selected.{hyper_rules}
use Rattle.h5_edit.specs.Refusals.Rules.{value_rules}

-- ---- the table

module _ (tree : Tree) (next : ℕ) (path : List ℕ) (hyper : Hyper) (values : List ℤ) where
  -- the rules behind those of the path, as the table asks them
  abbrev asked_of : Option Dataset → List (EditFault × Bool)
  asked_of found =
      (fault.RankMismatch, option_map_or (λ (d : Dataset). not (has_rank (length d.sizes) hyper)) found false)
      ∷ (fault.StrideZero, list_any has_no_stride (axes_of hyper))
      ∷ (fault.BlocksOverlap, list_any overlaps (axes_of hyper))
      ∷ (fault.OutOfExtent, option_map_or (λ (d : Dataset). not (is_within d.sizes (axes_of hyper))) found false)
      ∷ (fault.ValueCount, not (length values == selected_cells (axes_of hyper)))
      ∷ (fault.ValueRange, option_map_or (λ (d : Dataset). not (list_all (fits d.fixed) values)) found false)
      ∷ []

  write_table : refusal_of tree next (Write path hyper values) ≡ first_holding (dataset_rules tree path ++ asked_of (dataset_at tree path))
  unfolding refusal_of
  write_table = simp or-false

  pub write_refused : (e : EditFault) → first_holding (dataset_rules tree path) ≡ Some e → refusal_of tree next (Write path hyper values) ≡ Some e
  write_refused e h = write_table ∙ first-found (dataset_rules tree path) (asked_of (dataset_at tree path)) e h

  pub write_left : (d : Dataset) → first_holding (dataset_rules tree path) ≡ None → dataset_at tree path ≡ Some d
      → refusal_of tree next (Write path hyper values) ≡ first_holding (hyper_rules d.sizes hyper ++ value_rules d.fixed hyper values)
  write_left d h at = write_table ∙ first-behind (dataset_rules tree path) (asked_of (dataset_at tree path)) h ∙ ap (λ (found : Option Dataset). first_holding (asked_of found)) at

  pub path_allowed : refusal_of tree next (Write path hyper values) ≡ None → first_holding (dataset_rules tree path) ≡ None
  path_allowed h = by_fault (first_holding (dataset_rules tree path)) refl where
    by_fault : (found : Option EditFault) → first_holding (dataset_rules tree path) ≡ found → first_holding (dataset_rules tree path) ≡ None
    by_fault None is = is
    by_fault (Some e) is = absurd (let never : None ≡ Some e = sym h ∙ write_refused e is in cc)

-- ---- how many cells

pub same_count : (count many n : ℕ) → many ≤ most_cells → count ≡ min many (2 ^ 64 - 1) → count ≡ n → n ≡ many
same_count count many n few is same = let exact : min many (2 ^ 64 - 1) ≡ many = omega arith in sym same ∙ is ∙ exact

-- ---- the selection and the values

module _ (sizes : List ℕ) (fixed : Fixed) (hyper : Hyper) (values : List ℤ) where
  abbrev first_left : Option EditFault
  first_left = first_holding (hyper_rules sizes hyper ++ value_rules fixed hyper values)

  pub slab_refused : (e : EditFault) → first_holding (hyper_rules sizes hyper) ≡ Some e → first_left ≡ Some e
  slab_refused e h = first-found (hyper_rules sizes hyper) (value_rules fixed hyper values) e h

-- What the rules say of a write and of a resize that they accept.
use Rattle.std.proofs.Common.{◌≡◌, ℕ, ◌≤◌, true, false, not, ◌==◌, List, length, ℤ, Some, None, Result, Ok, Err, refl, sym, ap, ◌∙◌, subst, arith}
use Rattle.std.proofs.lemmas.Bool.Decides.{nat_tests}
use Rattle.std.specs.Prelude.{MatchResult}
use Rattle.std.specs.List.{list_any}
use Rattle.std.specs.Option.{option_and_then, option_map_or}
use Rattle.std.specs.Result.{result_ok}
use Rattle.std.proofs.lemmas.Bool.{not-false}
use Rattle.h5_model.specs.Edits.Refusal.{first_holding, is_chunked, refusal_of, rules_of}
use Rattle.h5_model.specs.Format.Limits.{most_dimensions}
use Rattle.h5_model.specs.Scripts.Reading.{dataset_rules}
use Rattle.h5_model.specs.Tree.Objects.{Tree, Dataset, dataset_of}
use Rattle.h5_model.specs.Tree.Paths.{dataset_at, object_at}
use Rattle.h5_model.specs.Views.Selection.{Slab, Within, axes_of, has_no_stride, has_rank, overlaps}
use Rattle.h5_model.specs.declared.edit_fault.EditFault.{EditFault}
use Rattle.h5_model.specs.declared.edits.Edit.TheVariants.{Write, Resize}
use Rattle.h5_model.specs.declared.hyperslab.Hyper.{Hyper}
use Rattle.h5_model.proofs.RefusalLaws.{accepted_write, none_holds, same_by}
use Rattle.h5_model.proofs.WithinLaws.{from_is_within}
use Rattle.h5_shape.specs.Slab.{is_of_one_rank, slab_of}
use Rattle.h5_shape.specs.declared.slab.SlabFault.{SlabFault}
use Rattle.h5_edit.specs.Fits.Laws.{AreBytes}
use Rattle.h5_edit.specs.Opened.Sound.{IsSound}
use Rattle.h5_edit.specs.Opened.State.{FileState}
use Rattle.h5_edit.proofs.RuleLaws.Resizes.{resize_refused}
use Rattle.h5_file.proofs.ArrayFacts.{IsArraySound, array_sound}

-- ---- a write

module _ (tree : Tree) (next : ℕ) (path : List ℕ) (hyper : Hyper) (values : List ℤ) (allowed : refusal_of tree next (Write path hyper values) ≡ None) where
  pub record IsWriteAllowed : Type 0 where
    pub array : Dataset
    pub found : dataset_at tree path ≡ Some array
    pub rank : has_rank (length array.sizes) hyper ≡ true
    pub ranked : length (axes_of hyper) ≡ length array.sizes
    pub strides : list_any has_no_stride (axes_of hyper) ≡ false
    pub apart : list_any overlaps (axes_of hyper) ≡ false
    pub within : Within array.sizes (axes_of hyper)

  pub write_allowed : IsWriteAllowed
  unfolding refusal_of
  write_allowed =
      let rules = none_holds (rules_of tree next (Write path hyper values)) allowed in
      let later = rules.1.1.1.1.1.1.1.1.1.1.1 in
      let found = accepted_write tree next path hyper values allowed in
      record {
        array = found.0;
        found = found.1;
        rank = not-false _ (sym (ap (λ o. option_map_or (λ (d : Dataset). not (has_rank (length d.sizes) hyper)) o false) found.1) ∙ later.0);
        ranked = found.2.ranked;
        strides = later.1.0;
        apart = later.1.1.0;
        within = from_is_within (found.0).sizes (axes_of hyper) (sym found.2.ranked) found.2.within;
      }

  -- its lists are a selection
  pub write_slab : IsWriteAllowed → ((d : Dataset) → dataset_at tree path ≡ Some d → length d.sizes ≤ most_dimensions) → slab_of hyper ≡ Ok (axes_of hyper)
  write_slab is few =
      let low = few is.array is.found in
      let own : (length hyper.start ≡ length is.array.sizes) = let parts = is.rank in grind (arith, nat_tests, parts) in
      let ranked : is_of_one_rank hyper ≡ true = let parts = is.rank in grind (arith, nat_tests, parts, own, low) in
      rw (ranked, is.strides, is.apart) refl

-- ---- a resize

module _ (tree : Tree) (next : ℕ) (path dims : List ℕ) (allowed : refusal_of tree next (Resize path dims) ≡ None) where
  pub resize_path : (e : EditFault) → first_holding (dataset_rules tree path) ≡ Some e → ⊥
  resize_path e refused = absurd (let never : None ≡ Some e = sym allowed ∙ resize_refused tree next path dims e refused in cc)

  module _ (d : Dataset) (found : dataset_at tree path ≡ Some d) where
    pub resize_rank : length dims ≡ length d.sizes
    unfolding refusal_of
    resize_rank =
        let rules = none_holds (rules_of tree next (Resize path dims)) allowed in
        let rank = rules.1.1.1.1.1.1.1.1.1.1.1.0 in
        same_by _ _ (sym (ap (λ o. option_map_or (λ (d : Dataset). not (length dims == length d.sizes)) o false) found) ∙ rank)

    pub resize_chunked : is_chunked d.storage ≡ true
    unfolding refusal_of
    resize_chunked =
        let rules = none_holds (rules_of tree next (Resize path dims)) allowed in
        let chunked = rules.1.1.1.1.1.1.1.1.1.1.1.1.1.1.1.0 in
        not-false _ (sym (ap (λ o. option_map_or (λ (d : Dataset). not (is_chunked d.storage)) o false) found) ∙ chunked)

-- ---- of an opened file

module _ (f : FileState) (low : AreBytes f.image) (sound : IsSound f) where
  pub sound_at : (path : List ℕ) (d : Dataset) → dataset_at f.tree path ≡ Some d → IsArraySound d
  sound_at path d found = elim (object_at f.tree path) as (λ o. option_and_then (dataset_of f.tree) o ≡ Some d → IsArraySound d) [
    | None ↦ λ never. absurd (let none : None ≡ Some d = never in cc)
    | Some n ↦ λ there. array_sound f low sound n d there
  ] found

  -- the lists of an accepted write are a selection
  pub some_slab : (path : List ℕ) (hyper : Hyper) (values : List ℤ) (r : Result Slab SlabFault) → r ≡ slab_of hyper → result_ok r ≡ None
      → refusal_of f.tree f.next (Write path hyper values) ≡ None → ⊥
  some_slab path hyper values r is none allowed =
      let w = write_allowed f.tree f.next path hyper values allowed in
      let whole : r ≡ Ok (axes_of hyper) = is ∙ write_slab f.tree f.next path hyper values allowed w (λ d found. (sound_at path d found).ranked) in
      absurd (let never : None ≡ Some (axes_of hyper) = sym none ∙ ap result_ok whole in cc)

  -- an accepted resize has few sizes
  pub few_dims : (path dims : List ℕ) (d : Dataset) → dataset_at f.tree path ≡ Some d → refusal_of f.tree f.next (Resize path dims) ≡ None → length dims ≤ most_dimensions
  few_dims path dims d found allowed =
      let rank = resize_rank f.tree f.next path dims allowed d found in
      let few = (sound_at path d found).ranked in
      omega (arith, rank, few)

-- ---- answers

pub found_by : {A E : Type 0} (P : A → Type 0) (Q : E → Type 0) (r : Result A E) (x : A) → MatchResult r P Q → result_ok r ≡ Some x → P x
found_by P Q (Ok a) x there is = let same : a ≡ x = cc in subst P same there
found_by P Q (Err e) x there is = absurd (let never : None ≡ Some x = is in cc)

pub fault_by : {A E : Type 0} (P : A → Type 0) (Q : E → Type 0) (r : Result A E) → MatchResult r P Q → result_ok r ≡ None → (e : E) × Q e
fault_by P Q (Ok a) there is = absurd (let never : Some a ≡ None = is in cc)
fault_by P Q (Err e) there is = (e, there)

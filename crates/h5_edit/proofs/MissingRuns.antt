-- A write of one run into storage that is missing: what is asked of making it, and that the cells stand there then.
use Rattle.std.proofs.Common.{◌≡◌, ℕ, ℤ, ◌+◌, ◌*◌, ◌^◌, ◌≤◌, List, [], ◌∷◌, Some, length, sym, ap, arith, ◌∙◌, subst}
use Rattle.std.proofs.lemmas.Option.{same_Some}
use Rattle.std.specs.List.{Contains}
use Rattle.h5_layout.specs.Lacking.{IsFound, stored_all}
use Rattle.h5_layout.specs.RunStorage.{IsMadeAt}
use Rattle.h5_layout.specs.Standing.{IsStandingAt}
use Rattle.h5_layout.specs.Storage.{storage_bytes}
use Rattle.h5_model.specs.Edits.Applied.{with_dataset}
use Rattle.h5_model.specs.Format.Fixed.{Fixed}
use Rattle.h5_model.specs.Format.Described.{Described}
use Rattle.h5_model.specs.Format.Limits.{most_bytes}
use Rattle.h5_model.specs.Tree.Objects.{Dataset, Tree, dataset_of, with_object}
use Rattle.h5_model.specs.Views.Selection.{axes_of, selection_of}
use Rattle.h5_model.specs.declared.edits.Edit.TheVariants.{Write}
use Rattle.h5_model.specs.declared.hyperslab.Hyper.{Hyper}
use Rattle.h5_query.specs.ChangedInPlace.{IsChangedInPlace}
use Rattle.h5_query.specs.Data.{dataset_told}
use Rattle.h5_query.specs.Opened.Sound.{IsSound}
use Rattle.h5_query.specs.Opened.State.{FileState}
use Rattle.h5_query.specs.Written.{IsArrayThere, IsCellStored}
use Rattle.h5_shape.specs.OneRun.{IsOneRun}
use Rattle.h5_shape.specs.declared.runs.CellRun.{CellRun}
use Rattle.h5_edit.specs.Carried.{IsAccepted}
use Rattle.h5_edit.specs.Edited.{IsGrowth}
use Rattle.h5_edit.specs.Refusals.Allowed.{AreStandingAt}
use Rattle.h5_edit.specs.Stored.{AreSelectedReady, HasStorage, IsStoring}
use Rattle.h5_edit.specs.WriteTarget.{IsTarget}
use Rattle.h5_edit.specs.declared.target.MissingRun.{MissingRun}
use Rattle.h5_edit.specs.declared.target.TargetCells.TheVariants as target
use Rattle.h5_edit.proofs.AttributeFacts.{short_image}
use Rattle.h5_edit.proofs.ArraysThere.{array_there}
use Rattle.h5_query.proofs.RunsWritten.{array_changed}
use Rattle.h5_edit.proofs.FoundStanding.{places_are}
use Rattle.h5_edit.proofs.WriteSteps.{has_made, selected_ready}
use Rattle.h5_edit.proofs.WrittenTrees.{told_is}

module _ {f : FileState} {path : List ℕ} {hyper : Hyper} {values : List ℤ} {number : ℕ} (m : MissingRun)
    (is : IsTarget f path hyper values number (target.Missing m)) where
  abbrev a : Described
  a = is.write.array

  abbrev run : CellRun
  run = is.found.run

  one : IsOneRun a.sizes hyper run
  one = is.found.valued.selected

  pub run_missing : IsFound f.image a (axes_of hyper) (Some m.missing)
  run_missing = is.found.missing.found (axes_of hyper) one.rank one.within (sym (places_are a.sizes hyper run one))

  pub run_storing : IsStoring f path hyper values number (Some m.missing)
  run_storing = record { sound = is.sound; write = is.write; found = run_missing }

  -- and so few bytes of the chunk or the block stand before the run
  pub inner_small : m.inner * m.fixed.size ≤ 2 ^ 43
  inner_small = subst (λ (t : Fixed). m.inner * t.size ≤ 2 ^ 43) (sym is.found.type_is) is.found.missing.small

  -- ---- once the storage is made

  module _ (now : FileState) (allowed : IsAccepted f (Write path hyper values)) (growth : IsGrowth f (Write path hyper values) (storage_bytes f.image a m.missing))
      (changed : IsChangedInPlace f now (with_object f.tree number (with_dataset stored_all)) f.next (number ∷ []) (storage_bytes f.image a m.missing))
      (stored : (place : ℕ) → Contains (selection_of a.sizes (axes_of hyper)) place → IsCellStored now number place)
      (sound_now : IsSound now) (at : ℕ) (placed : (b : Described) → IsArrayThere now number b → IsMadeAt now.image b m.missing at × (at ≤ length now.image)) where
    pub run_has : HasStorage f path hyper values number now
    unfolding run_storing
    run_has = has_made m.missing run_storing now allowed growth changed stored

    pub run_ready : (d : Dataset) × AreSelectedReady now number hyper values d
    run_ready = selected_ready is.write now run_has

    abbrev before : Dataset
    before = run_has.before

    array_now : dataset_of now.tree number ≡ Some (stored_all before)
    array_now = ap (λ (t : Tree). dataset_of t number) changed.state.0 ∙ array_changed f.tree number stored_all before run_has.was

    there : (b : Described) × IsArrayThere now number b
    there = array_there now sound_now number (stored_all before) array_now

    abbrev b : Described
    b = there.0

    told : dataset_told now.image b ≡ stored_all (dataset_told f.image a)
    told =
        same_Some (dataset_told now.image b) (stored_all before) (sym (there.1).told ∙ array_now)
        ∙ ap stored_all (sym (told_is f number a is.write.there before run_has.was))

    fixed_is : b.fixed ≡ a.fixed
    fixed_is = ap (λ (d : Dataset). d.fixed) told

    sizes_are : b.sizes ≡ a.sizes
    sizes_are = ap (λ (d : Dataset). d.sizes) told

    stands : IsStandingAt now.image b run.place run.length (at + m.inner * a.fixed.size)
    stands = is.found.missing.made now.image b at fixed_is sizes_are (ap (λ (d : Dataset). d.storage) told) (placed b there.1).0

    -- the chunk or the block lies in the image
    pub run_low : at ≤ most_bytes
    run_low = let inside = (placed b there.1).1 in let short = short_image now sound_now in omega (arith, inside, short)

    pub run_standing : AreStandingAt now number hyper (record { fixed = m.fixed; place = m.place; at = at + m.inner * m.fixed.size })
    run_standing = record {
      array = b;
      there = there.1;
      run = run;
      selected = subst (λ (sizes : List ℕ). IsOneRun sizes hyper run) (sym sizes_are) one;
      stands = record {
        type_is = is.found.type_is ∙ sym fixed_is;
        place_is = is.found.place_is;
        standing = subst (λ (t : Fixed). IsStandingAt now.image b run.place run.length (at + m.inner * t.size)) (sym is.found.type_is) stands;
      };
    }

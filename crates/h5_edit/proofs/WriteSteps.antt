-- A write of an opened image that no rule refuses, step by step: what is asked of each, and what it makes.
use Rattle.std.proofs.Common.{◌≡◌, ℕ, ℤ, true, List, [], ◌∷◌, Option, Some, None, length, refl, sym, ap, ◌∙◌, subst}
use Rattle.std.proofs.lemmas.Option.{same_Some}
use Rattle.std.specs.List.{Contains, list_all}
use Rattle.h5_model.specs.Edits.Applied.{with_dataset}
use Rattle.h5_model.specs.Edits.Refusal.{first_holding}
use Rattle.h5_model.specs.Format.Fixed.{fits}
use Rattle.h5_model.specs.Format.Described.{Described}
use Rattle.h5_model.specs.Tree.Objects.{Tree, Dataset, dataset_of, with_object}
use Rattle.h5_model.specs.Tree.Paths.{dataset_at}
use Rattle.h5_model.specs.Views.Selection.{Slab, axes_of, selection_of}
use Rattle.h5_model.specs.declared.edits.Edit.TheVariants.{Write}
use Rattle.h5_model.specs.declared.edit_fault.EditFault.{EditFault}
use Rattle.h5_model.specs.declared.hyperslab.Hyper.{Hyper}
use Rattle.h5_model.proofs.RefusalLaws.{Writes, accepted_write}
use Rattle.h5_query.specs.ChangedInPlace.{IsChangedInPlace}
use Rattle.h5_query.specs.Opened.Sound.{IsSound}
use Rattle.h5_query.specs.Opened.State.{FileState}
use Rattle.h5_query.specs.Selected.{hyper_rules}
use Rattle.h5_query.specs.Written.{IsArrayThere, IsCellStored, with_places}
use Rattle.h5_query.proofs.ChangedThen.{changed_none}
use Rattle.h5_layout.specs.Storage.{storage_bytes}
use Rattle.h5_edit.specs.Carried.{IsAccepted}
use Rattle.h5_layout.specs.Lacking.{IsFound}
use Rattle.h5_layout.specs.Lacking.{stored_all, stored_storage}
use Rattle.h5_edit.specs.Edited.{IsGrowth}
use Rattle.h5_edit.specs.Refusals.Allowed.{IsWriteAt}
use Rattle.h5_edit.specs.Stored.{AreSelectedReady, AreSelectedWritten, HasStorage, IsStoring, IsWriteMade}
use Rattle.h5_layout.specs.declared.lacking.Missing.{Missing}
use Rattle.h5_query.proofs.RunsWritten.{array_changed}
use Rattle.h5_edit.proofs.SelectedStored.{none_lacking}
use Rattle.h5_edit.proofs.RuleLaws.Writes.{path_allowed, slab_refused, write_left}
use Rattle.h5_edit.proofs.StorageGiven.{nothing_accepted, nothing_grows, written_array}
use Rattle.h5_edit.proofs.WrittenTrees.{edited_in_place, sizes_are, tree_in_place, tree_made}

none_is : (found : Option EditFault) → ((e : EditFault) → found ≡ Some e → ⊥) → found ≡ None
none_is None never = refl
none_is (Some e) never = absurd (never e refl)

module _ {f : FileState} {path : List ℕ} {hyper : Hyper} {values : List ℤ} {number : ℕ} where
  -- ---- the selection, and what is missing of it

  module _ (is : IsWriteAt f path hyper values number) where
    abbrev accepted : (d : Dataset) × (dataset_at f.tree path ≡ Some d) × Writes d (axes_of hyper) values
    accepted = accepted_write f.tree f.next path hyper values is.at.allowed

    module _ (a : Described) (there : IsArrayThere f number a) where
      -- no rule of a selection refuses it
      pub selected_somehow : (e : EditFault) → first_holding (hyper_rules a.sizes hyper) ≡ Some e → ⊥
      selected_somehow e refused =
          let d = accepted.0 in
          let same = sizes_are f number a there d (written_array is) in
          let none = sym (write_left f.tree f.next path hyper values d (path_allowed f.tree f.next path hyper values is.at.allowed) accepted.1) ∙ is.at.allowed in
          let some = slab_refused d.sizes d.fixed hyper values e (subst (λ (sizes : List ℕ). first_holding (hyper_rules sizes hyper) ≡ Some e) same refused) in
          absurd (let never : None ≡ Some e = sym none ∙ some in cc)

      pub storing : IsSound f → (slab : Slab) → slab ≡ axes_of hyper → (missing : Option Missing) → IsFound f.image a slab missing
          → IsStoring f path hyper values number missing
      storing sound slab same missing found = record {
        sound = sound;
        write = record { at = is.at; array = a; there = there };
        found = subst (λ (axes : Slab). IsFound f.image a axes missing) same found;
      }

  -- ---- the storage

  -- where nothing is missing
  pub has_all : IsStoring f path hyper values number None → HasStorage f path hyper values number f
  has_all is =
      let d = (accepted is.write).0 in
      let array = written_array is.write in
      record {
        accepted = nothing_accepted is.write is.found is.sound;
        bytes = 0;
        growth = nothing_grows is.write is.found;
        changed = changed_none f (number ∷ []) is.sound;
        before = d;
        was = array;
        storage = d.storage;
        array = array;
        stored = none_lacking f number is.write.array is.write.there (axes_of hyper) is.found;
        gives = tree_in_place f path hyper values number is.write.at.object is.write.array is.write.there d array is.found;
      }

  -- and where the storage was made
  module _ (m : Missing) (is : IsStoring f path hyper values number (Some m)) (now : FileState) where
    pub has_made : IsAccepted f (Write path hyper values) → IsGrowth f (Write path hyper values) (storage_bytes f.image is.write.array m)
        → IsChangedInPlace f now (with_object f.tree number (with_dataset stored_all)) f.next (number ∷ []) (storage_bytes f.image is.write.array m)
        → ((place : ℕ) → Contains (selection_of (is.write.array).sizes (axes_of hyper)) place → IsCellStored now number place)
        → HasStorage f path hyper values number now
    has_made allowed growth changed stored =
        let d = (accepted is.write).0 in
        let array = written_array is.write in
        let tree = changed.state.0 in
        let there : dataset_of now.tree number ≡ Some (stored_all d) = ap (λ (t : Tree). dataset_of t number) tree ∙ array_changed f.tree number stored_all d array in
        record {
          accepted = allowed;
          bytes = storage_bytes f.image is.write.array m;
          growth = growth;
          changed = subst (λ (t : Tree). IsChangedInPlace f now t f.next (number ∷ []) (storage_bytes f.image is.write.array m)) (sym tree) changed;
          before = d;
          was = array;
          storage = stored_storage d.sizes d.storage;
          array = there;
          stored = λ e array_now place at.
              let same : e ≡ stored_all d = same_Some e (stored_all d) (sym array_now ∙ there) in
              let sizes : e.sizes ≡ (is.write.array).sizes = ap (λ (x : Dataset). x.sizes) same ∙ sym (sizes_are f number is.write.array is.write.there d array) in
              stored place (subst (λ (s : List ℕ). Contains (selection_of s (axes_of hyper)) place) sizes at);
          gives = ap (λ (t : Tree). with_object t number (with_dataset (with_places (selection_of d.sizes (axes_of hyper)) values))) tree
              ∙ tree_made f path hyper values number is.write.at.object is.write.array is.write.there d array m is.found.1 is.found.0;
        }

  -- ---- the cells

  module _ (is : IsWriteAt f path hyper values number) (mid : FileState) (has : HasStorage f path hyper values number mid) where
    same : (accepted is).0 ≡ has.before
    same = same_Some (accepted is).0 has.before (sym (written_array is) ∙ has.was)

    selects : first_holding (hyper_rules ((accepted is).0).sizes hyper) ≡ None
    selects =
        let sizes = sizes_are f number is.array is.there (accepted is).0 (written_array is) in
        subst (λ (ns : List ℕ). first_holding (hyper_rules ns hyper) ≡ None) sizes
        (none_is (first_holding (hyper_rules is.array.sizes hyper)) (selected_somehow is is.array is.there))

    -- what is asked of them
    pub selected_ready : (d : Dataset) × AreSelectedReady mid number hyper values d
    selected_ready =
        let writes = (accepted is).2 in (
          record has.before { storage = has.storage },
          record {
            array = has.array;
            selects = subst (λ (x : Dataset). first_holding (hyper_rules x.sizes hyper) ≡ None) same selects;
            counted = writes.counted ∙ ap (λ (x : Dataset). length (selection_of x.sizes (axes_of hyper))) same;
            of_type = subst (λ (x : Dataset). list_all (fits x.fixed) values ≡ true) same writes.fitting;
            stored = has.stored;
          },
        )

    -- and what they make
    pub selected_made : IsSound f → (now : FileState) → AreSelectedWritten mid number hyper values now → IsWriteMade f path hyper values number now
    selected_made sound now wrote e named refreshed =
        edited_in_place f path hyper values number is.at e named refreshed mid has sound now (wrote (record has.before { storage = has.storage }) has.array)

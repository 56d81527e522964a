-- The first of some values that are written into cells of an array, wherever these stand.
use Rattle.std.proofs.Common.{◌≡◌, ℕ, ◌+◌, ◌*◌, ◌<◌, ◌≤◌, inl, inr, List, length, take, drop, ap, ◌∙◌, subst, arith, Option, Some, ℤ, true}
use Rattle.std.specs.Prelude.{slice_get}
use Rattle.std.specs.BTreeMap.{BTreeMap}
use Rattle.std.specs.List.{list_all}
use Rattle.std.proofs.lemmas.List.{places, take-append-drop}
use Rattle.h5_model.specs.Format.Fixed.{IsFixed, fits}
use Rattle.h5_model.specs.Format.Plain.{cells_bytes}
use Rattle.h5_model.specs.Format.Described.{Described}
use Rattle.h5_model.specs.Tree.Objects.{Dataset}
use Rattle.h5_space.specs.Lending.{with_bytes_at}
use Rattle.h5_space.specs.Space.{Space}
use Rattle.h5_header.specs.Listed.{messages_in}
use Rattle.h5_layout.specs.CellPlaces.{ArePlacesOf, KeptPlaces}
use Rattle.h5_layout.specs.Compact.{IsRunAt}
use Rattle.h5_layout.specs.Told.{array_told}
use Rattle.h5_layout.specs.Standing.{is_stored_cell}
use Rattle.h5_layout.proofs.StandingWritten.{parts_of_type}
use Rattle.h5_open.specs.declared.opened.object.OpenedObject.{OpenedObject}
use Rattle.h5_open.specs.Opened.Kept.{IsOpened}
use Rattle.h5_open.specs.Opened.State.{FileState, opened_state}
use Rattle.h5_open.specs.Written.{AreCellsWritten, IsStoredRun}
use Rattle.h5_open.proofs.CompactFirst.{run_inside, run_opened, run_places, run_written}
use Rattle.h5_open.proofs.StandingOpened.{all_of_type, array_there, first_inside, first_places, first_written, it, kind}

-- the first of the values can be written too
run_before : (f : FileState) (number place : ℕ) (values : List ℤ) (n : ℕ) → n ≤ length values → (d : Dataset) → IsStoredRun f number place values d → IsStoredRun f number place (take n values) d
run_before f number place values n few d run =
    let counted : length (take n values) ≡ n = grind (arith, places, few) in
    record {
      array = run.array;
      stored = λ k low. run.stored k (omega (arith, low, counted, few));
      room = omega (arith, counted, few, run.room);
      of_type = (parts_of_type d.fixed (take n values) (drop n values) (ap (list_all (fits d.fixed)) (take-append-drop n values) ∙ run.of_type)).0;
    }

module _ (old : Space) (slots : List (Option OpenedObject)) (numbers : BTreeMap ℕ ℕ) (opened : IsOpened old slots numbers) (number : ℕ) (p : OpenedObject)
    (stands : slice_get slots number ≡ Some (Some p)) (d : Dataset) (place : ℕ) (values : List ℤ) (run : IsStoredRun (opened_state old slots) number place values d) where
  abbrev a : Described
  a = it old slots numbers opened number p stands d place values run

  -- the first cell is stored
  pub first_stored : 0 < length values → is_stored_cell old.bytes (it old slots numbers opened number p stands d place values run) place ≡ true
  first_stored some =
      let here : place + 0 ≡ place = omega arith in
      subst (λ (n : ℕ). is_stored_cell old.bytes a n ≡ true) here
      (run.stored 0 some a (array_there old slots numbers opened number p stands (kind old slots numbers opened number p stands d place values run)))

  module _ (n at : ℕ) (some : 0 < n) (few : n ≤ length values) (stand : IsRunAt old.bytes p.messages.list a place n at) (fixed : IsFixed a.fixed) where
    abbrev first : List ℤ
    first = take n values

    its : IsStoredRun (opened_state old slots) number place first d
    its = run_before (opened_state old slots) number place values n few d run

    -- what writing asks for
    pub any_of_type : list_all (fits (it old slots numbers opened number p stands d place values run).fixed) (take n values) ≡ true
    any_of_type = all_of_type old slots numbers opened number p stands d place first its

    pub any_inside : at + length (take n values) * (it old slots numbers opened number p stands d place values run).fixed.size ≤ length old.bytes
    any_inside = go stand where
      go : IsRunAt old.bytes p.messages.list a place n at → at + length first * a.fixed.size ≤ length old.bytes
      go (inl (bytes, laid, (base, there, is))) =
          let low = run_inside old slots numbers opened number p stands d place first its bytes laid base there in
          omega (arith, low, is)
      go (inr standing) = first_inside old slots numbers opened number p stands d place values run n at some few standing fixed

    -- what it gives
    module _ (new : Space) (wrote : new ≡ with_bytes_at old at (cells_bytes a.fixed first)) where
      pub any_written : IsOpened new slots numbers × AreCellsWritten (opened_state old slots) number place (take n values) (opened_state new slots)
      any_written = go stand where
        go : IsRunAt old.bytes p.messages.list a place n at → IsOpened new slots numbers × AreCellsWritten (opened_state old slots) number place first (opened_state new slots)
        go (inl (bytes, laid, (base, there, is))) =
            let put = wrote ∙ ap (λ (i : ℕ). with_bytes_at old i (cells_bytes a.fixed first)) is in (
              run_opened old slots numbers opened number p stands d place first its bytes laid base there fixed new put,
              run_written old slots numbers opened number p stands d place first its bytes laid base there fixed new put,
            )
        go (inr standing) =
            let all = first_written old slots numbers opened number p stands d place values run n at some few standing fixed new wrote in
            (all.opened_now, all.written)

      -- and the cells stand where they stood
      pub any_places : (places : KeptPlaces) → ArePlacesOf old.bytes p.messages.list (it old slots numbers opened number p stands d place values run) places
          → ArePlacesOf new.bytes p.messages.list (array_told (messages_in new.bytes p.messages.list)) places
      any_places places was = go stand where
        go : IsRunAt old.bytes p.messages.list a place n at → ArePlacesOf new.bytes p.messages.list (array_told (messages_in new.bytes p.messages.list)) places
        go (inl (bytes, laid, (base, there, is))) =
            let put = wrote ∙ ap (λ (i : ℕ). with_bytes_at old i (cells_bytes a.fixed first)) is in
            run_places old slots numbers opened number p stands d place first its bytes laid base there fixed new put places was
        go (inr standing) = first_places old slots numbers opened number p stands d place values run n at some few standing fixed new wrote places was

-- A run of cells that is written piece by piece, each of which stands in one block: what one piece asks for, and what it leaves.
use Rattle.std.proofs.Common.{◌≡◌, ℕ, ◌+◌, ◌*◌, ◌<◌, ◌≤◌, List, [], ◌++◌, length, take, sym, ◌∙◌, subst, arith, Option, ℤ, true}
use Rattle.std.specs.BTreeMap.{BTreeMap}
use Rattle.std.specs.List.{list_all}
use Rattle.h5_model.specs.Format.Fixed.{Fixed, IsFixed, fits}
use Rattle.h5_model.specs.Format.Limits.{most_cells}
use Rattle.h5_model.specs.Format.Plain.{cells_bytes}
use Rattle.h5_model.specs.Format.Described.{Described}
use Rattle.h5_model.specs.Tree.Objects.{Dataset}
use Rattle.h5_model.specs.Tree.Places.{cells}
use Rattle.h5_space.specs.Lending.{with_bytes_at}
use Rattle.h5_space.specs.Space.{Space}
use Rattle.h5_header.specs.Listed.{messages_in}
use Rattle.h5_layout.specs.CellPlaces.{ArePlacesOf, IsStoredAmong, KeptPlaces}
use Rattle.h5_layout.specs.Compact.{IsRunAt}
use Rattle.h5_layout.specs.Told.{array_told}
use Rattle.h5_open.specs.declared.opened.object.OpenedObject.{OpenedObject}
use Rattle.h5_open.specs.Opened.State.{opened_state}
use Rattle.h5_open.specs.Written.{AreCellsWritten, IsStoredRun, with_run}
use Rattle.h5_open.specs.WrittenRun.{IsRunMade, IsRunReady}
use Rattle.h5_open.proofs.FirstRun.{any_inside, any_of_type, any_places, any_written, first_stored}
use Rattle.h5_open.proofs.OpenedLaws.Sounds.{sound}
use Rattle.h5_open.proofs.RunsWritten.{more_written, none_written, run_behind}
use Rattle.h5_open.proofs.StandingOpened.{room, run_low}

-- before the first piece
pub none_made : {old : Space} {slots : List (Option OpenedObject)} {numbers : BTreeMap ℕ ℕ} {number place : ℕ} {values : List ℤ} {kept : KeptPlaces}
    → IsRunReady old slots numbers number kept place values → IsRunMade old slots numbers number place [] old kept
none_made {old} {slots} {numbers} {number} ready = record {
  opened = ready.opened;
  its = ready.its;
  written = none_written (opened_state old slots) number (sound old slots numbers ready.opened);
}

-- the first values are written, and these are left
module _ {old : Space} {slots : List (Option OpenedObject)} {numbers : BTreeMap ℕ ℕ} {number place : ℕ} {values : List ℤ} {kept : KeptPlaces}
    (ready : IsRunReady old slots numbers number kept place values) (first left : List ℤ) (whole : values ≡ first ++ left)
    (image : Space) (places : KeptPlaces) (made : IsRunMade old slots numbers number place first image places) (next : ℕ) (behind : next ≡ place + length first) where
  abbrev object : OpenedObject
  object = made.its.object

  abbrev a : Described
  a = array_told (messages_in image.bytes object.messages.list)

  abbrev array : Dataset
  array = with_run place first ready.array

  left_run : IsStoredRun (opened_state image slots) number next left array
  left_run =
      subst (λ (n : ℕ). IsStoredRun (opened_state image slots) number n left array) (sym behind)
      (run_behind (opened_state old slots) (opened_state image slots) number place first made.written left ready.array
      (subst (λ (vs : List ℤ). IsStoredRun (opened_state old slots) number place vs ready.array) whole ready.run))

  -- no place is above 2^40
  pub next_low : next + length left ≤ most_cells
  next_low = run_low image slots numbers made.opened number object made.its.kept array next left left_run

  -- the first of them is stored
  pub next_stored : (most : ℕ) → most ≡ length left → 0 < most → IsStoredAmong image.bytes object.messages.list a places next most
  next_stored most is some = record {
    places_of = made.its.stand;
    some = some;
    room = subst (λ (n : ℕ). next + n ≤ cells a.sizes) (sym is) (room image slots numbers made.opened number object made.its.kept array next left left_run);
    stored = first_stored image slots numbers made.opened number object made.its.kept array next left left_run (omega (arith, some, is));
  }

  -- ---- a piece of them

  module _ (n at : ℕ) (some : 0 < n) (few : n ≤ length left) (stand : IsRunAt image.bytes object.messages.list a next n at)
      (again : KeptPlaces) (are : ArePlacesOf image.bytes object.messages.list a again) (fixed : Fixed) (known : IsFixed fixed) (is : fixed ≡ again.fixed)
      (piece : List ℤ) (front : piece ≡ take n left) where
    type_is : fixed ≡ a.fixed
    type_is = is ∙ are.fixed

    is_fixed : IsFixed a.fixed
    is_fixed = subst IsFixed type_is known

    pub piece_inside : at + length piece * fixed.size ≤ length image.bytes
    piece_inside =
        subst (λ (vs : List ℤ). at + length vs * fixed.size ≤ length image.bytes) (sym front)
        (subst (λ (t : Fixed). at + length (take n left) * t.size ≤ length image.bytes) (sym type_is)
        (any_inside image slots numbers made.opened number object made.its.kept array next left left_run n at some few stand is_fixed))

    pub piece_of_type : list_all (fits fixed) piece ≡ true
    piece_of_type =
        subst (λ (vs : List ℤ). list_all (fits fixed) vs ≡ true) (sym front)
        (subst (λ (t : Fixed). list_all (fits t) (take n left) ≡ true) (sym type_is)
        (any_of_type image slots numbers made.opened number object made.its.kept array next left left_run n at some few stand is_fixed))

    pub piece_made : (new : Space) → new ≡ with_bytes_at image at (cells_bytes fixed piece) → IsRunMade old slots numbers number place (first ++ piece) new again
    piece_made new wrote =
        let put : new ≡ with_bytes_at image at (cells_bytes a.fixed (take n left)) = wrote ∙ (λ i. with_bytes_at image at (cells_bytes (type_is i) (front i))) in
        let now = any_written image slots numbers made.opened number object made.its.kept array next left left_run n at some few stand is_fixed new put in
        record {
          opened = now.0;
          its = record {
            object = object;
            kept = made.its.kept;
            stand = any_places image slots numbers made.opened number object made.its.kept array next left left_run n at some few stand is_fixed new put again are;
          };
          written = more_written (opened_state old slots) (opened_state image slots) number place first made.written (sound old slots numbers ready.opened) piece
              (opened_state new slots)
              (subst (λ (m : ℕ). AreCellsWritten (opened_state image slots) number m piece (opened_state new slots)) behind
              (subst (λ (vs : List ℤ). AreCellsWritten (opened_state image slots) number next vs (opened_state new slots)) (sym front) now.1));
        }

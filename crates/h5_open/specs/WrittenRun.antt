-- One run of cells of an opened image that is written, where it is known where the array's cells stand (File Format Specification 3.0,
-- section IV.A.2.i).
use Rattle.std.specs.Prelude.{◌≡◌, ℕ, ℤ, Option, Some, List, slice_get}
use Rattle.std.specs.BTreeMap.{BTreeMap}
use Rattle.h5_model.specs.Tree.Objects.{Dataset}
use Rattle.h5_space.specs.Space.{Space}
use Rattle.h5_header.specs.Listed.{messages_in}
use Rattle.h5_layout.specs.CellPlaces.{ArePlacesOf, KeptPlaces}
use Rattle.h5_layout.specs.Told.{array_told}
use Rattle.h5_open.specs.declared.opened.object.OpenedObject.{OpenedObject}
use Rattle.h5_open.specs.Opened.Kept.{IsOpened}
use Rattle.h5_open.specs.Opened.State.{opened_state}
use Rattle.h5_open.specs.Written.{AreCellsWritten, IsStoredRun}

-- there is an object of this number, and its cells stand as these say
pub record AreItsPlaces (image : Space) (slots : List (Option OpenedObject)) (number : ℕ) (places : KeptPlaces) : Type 0 where
  pub object : OpenedObject
  pub kept : slice_get slots number ≡ Some (Some object)
  pub stand : ArePlacesOf image.bytes object.messages.list (array_told (messages_in image.bytes object.messages.list)) places

-- an opened image, in which the array of this number has a cell for each of these values, from this place on
pub record IsRunReady (image : Space) (slots : List (Option OpenedObject)) (numbers : BTreeMap ℕ ℕ) (number : ℕ) (places : KeptPlaces)
    (place : ℕ) (values : List ℤ) : Type 0 where
  pub opened : IsOpened image slots numbers
  pub its : AreItsPlaces image slots number places
  pub array : Dataset
  pub run : IsStoredRun (opened_state image slots) number place values array

-- what it is once the values are written: what is kept of the objects is right still, and so is where the array's cells stand
pub record IsRunMade (old : Space) (slots : List (Option OpenedObject)) (numbers : BTreeMap ℕ ℕ) (number place : ℕ) (values : List ℤ)
    (new : Space) (places : KeptPlaces) : Type 0 where
  pub opened : IsOpened new slots numbers
  pub its : AreItsPlaces new slots number places
  pub written : AreCellsWritten (opened_state old slots) number place values (opened_state new slots)

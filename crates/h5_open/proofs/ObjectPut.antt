-- An object that was added to an opened image, with a link to it in a group: what was done, one step after another, and what the image is then.
use Rattle.std.proofs.Common.{◌≡◌, ℕ, ◌<◌, List, length, Option, Some}
use Rattle.std.specs.Prelude.{slice_get}
use Rattle.h5_model.specs.Format.Limits.{most_numbers}
use Rattle.h5_model.specs.Format.Addresses.{SymbolTable}
use Rattle.h5_space.specs.Space.{Space}
use Rattle.h5_open.specs.declared.opened.added.ObjectBytes.{ObjectBytes}
use Rattle.h5_open.specs.declared.opened.object.OpenedObject.{OpenedObject}
use Rattle.h5_open.specs.declared.opened.object.OpenedContent.TheVariants as content
use Rattle.h5_open.specs.ObjectAdded.{IsKeptFor, IsObjectStored}

-- A block was taken for the object and written; the link was put into the group; the end of file address was written.
pub record IsObjectPut (old taken linked new : Space) (slots : List (Option OpenedObject)) (parent : ℕ) (p o : OpenedObject) (t : SymbolTable) (name : List ℕ) (at : ℕ)
    (b : ObjectBytes) : Type 0 where
  pub group : slice_get slots parent ≡ Some (Some p)
  pub kind : p.content ≡ content.Group t
  pub few : length slots < most_numbers
  pub kept : IsKeptFor at b o
  pub stored : IsObjectStored old taken linked new t name at b

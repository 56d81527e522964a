-- What every opened image keeps to: its bytes read as its tree (File Format Specification 3.0, sections II.A, III and IV.A).
use Rattle.std.specs.Prelude.{◌≡◌, ℕ, List, Some, length}
use Rattle.std.specs.Ordering.{nat_cmp}
use Rattle.std.specs.FinMap.{FinMap, get}
use Rattle.h5_model.specs.Format.Reads.{Placed, ReadsAs, all_blocks}
use Rattle.h5_model.specs.Scripts.Sessions.{IsState}
use Rattle.h5_space.specs.Whole.{IsApart, IsWhole}
use Rattle.h5_open.specs.declared.opened.object.OpenedObject.{OpenedObject}
use Rattle.h5_open.specs.Opened.Kept.{IsObjectKept}
use Rattle.h5_open.specs.Opened.Objects.{object_in}
use Rattle.h5_open.specs.Opened.State.{FileState, state_of}

-- The image reads as the tree, with the headers where the table says; each object's number was given out; and no free block shares a
-- byte with one in use.
pub record IsSound (f : FileState) : Type 0 where
  pub placed : List Placed
  pub reads : ReadsAs f.image f.table f.tree placed
  pub numbers : IsState (state_of f)
  pub apart : IsApart (all_blocks f.image placed) f.free (length f.image)

-- a file whose blocks, those in use and the free ones, cover each byte of its image once
pub record IsWholeFile (f : FileState) : Type 0 where
  pub placed : List Placed
  pub reads : ReadsAs f.image f.table f.tree placed
  pub covered : IsWhole (all_blocks f.image placed) f.free (length f.image)

-- this is kept of the object of a number
pub record IsObjectOf (f : FileState) (number : ℕ) (o : OpenedObject) : Type 0 where
  pub header : get f.table number ≡ Some o.messages.header
  pub kept : IsObjectKept f.image o
  pub there : get f.tree number ≡ Some (object_in f.image f.table o)

-- an object of the table has its header there
abbrev pub IsHeaderIn : FinMap nat_cmp ℕ → ℕ → Type 0
IsHeaderIn table header = (n : ℕ) × (get table n ≡ Some header)

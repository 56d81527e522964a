-- What an image says of a write: which chunks of the array are stored, and whether their tree has room for those that are missing (File
-- Format Specification 3.0, sections III.A.1 and IV.A.2.i).
use Rattle.std.specs.Prelude.{◌≡◌, ℕ, IsTrue, is_some, Some, List}
use Rattle.std.specs.FinMap.{get}
use Rattle.h5_layout.specs.Storage.{IsDeepIn}
use Rattle.h5_model.specs.Edits.Bounds.{new_chunks}
use Rattle.h5_model.specs.Edits.Facts.{Facts}
use Rattle.h5_model.specs.Format.Described.{Described}
use Rattle.h5_model.specs.Tree.Paths.{object_at}
use Rattle.h5_model.specs.declared.edits.Edit.{Edit}
use Rattle.h5_query.specs.Data.{dataset_told, stored_chunks}
use Rattle.h5_query.specs.Opened.State.{FileState}
use Rattle.h5_query.specs.Written.{IsArrayThere}

-- Chunk n of those that the write meets and that are not stored finds no room in their tree, once those before it are stored.
abbrev pub IsDeepInTurn : List ℕ → Described → Facts → Edit → ℕ → Type 0
IsDeepInTurn image a facts edit n = IsDeepIn image a (new_chunks facts edit (dataset_told image a)) n a.layout

-- The facts of a write are those of the array at the path. Where a chunk is said to find no room, it finds none; where the first one finds
-- none, it is said.
pub record AreStorageFacts (f : FileState) (path : List ℕ) (edit : Edit) (facts : Facts) : Type 0 where
  pub number : ℕ
  pub at : object_at f.tree path ≡ Some number
  pub array : Described
  pub there : IsArrayThere f number array
  pub stored : (offsets : List ℕ) → facts.is_stored offsets ≡ is_some (get (stored_chunks f.image array.fixed array.layout) offsets)
  pub top : (n : ℕ) → IsTrue (facts.splits_top n) → IsDeepInTurn f.image array facts edit n
  pub first : IsDeepInTurn f.image array facts edit 0 → IsTrue (facts.splits_top 0)

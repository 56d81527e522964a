-- What an accepted edit makes of an opened image (File Format Specification 3.0, sections II.A, III and IV.A).
use Rattle.std.specs.Prelude.{◌≡◌, ℕ, if◌then◌else◌, Some, List, [], ◌∷◌, ◌++◌}
use Rattle.std.specs.Option.{option_map}
use Rattle.h5_model.specs.Edits.Applied.{state_after, makes_object, named_object}
use Rattle.h5_model.specs.Edits.Bounds.{bound_of}
use Rattle.h5_model.specs.Edits.Facts.{Facts}
use Rattle.h5_model.specs.Edits.Touched.{touched_by}
use Rattle.h5_model.specs.Tree.Paths.{object_at}
use Rattle.h5_model.specs.declared.edits.Edit.{Edit}
use Rattle.h5_model.specs.declared.edits.Edit.TheVariants.{Resize}
use Rattle.h5_model.specs.declared.edits.Edited.{Edited}
use Rattle.h5_query.specs.ChangedInPlace.{IsChangedInPlace}
use Rattle.h5_query.specs.Opened.State.{FileState, state_of}
use Rattle.h5_query.specs.Resized.{IsArrayTrimmed}
use Rattle.h5_edit.specs.Carried.{AreFacts, IsAccepted, tree_after}

-- how many bytes an edit adds to the image at most, by what the image says
abbrev pub IsGrowth : FileState → Edit → ℕ → Type 0
IsGrowth f edit bytes = (facts : Facts) × AreFacts f edit facts × (bytes ≡ bound_of facts f.tree edit)

-- the number of the object that an edit makes
abbrev pub made_numbers : FileState → Edit → List ℕ
made_numbers f edit = if makes_object edit then f.next ∷ [] else []

-- Other sizes leave nothing stored outside of them: each chunk that the array has holds one of its cells, and each cell of a chunk that is
-- outside is the fill.
abbrev pub IsTrimmedBy : Edit → FileState → FileState → Type 0
IsTrimmedBy (Resize path dims) before after = (number : ℕ) → object_at before.tree path ≡ Some number → IsArrayTrimmed after number
IsTrimmedBy edit before after = Unit {0}

-- No rule refuses it. The image is one of the tree that it gives, no byte of which gets lost, and keeps the version of the superblock and
-- all K values. The bytes of the objects alone changed that the edit touches, no header moved, and the image has grown by no more than the
-- edit needs. An object that it makes stands in new blocks. Behind other sizes of an array nothing is stored outside of them.
pub record IsEdited (before : FileState) (edit : Edit) (after : FileState) (e : Edited) : Type 0 where
  pub accepted : IsAccepted before edit
  pub state : state_of after ≡ state_after (state_of before) edit
  pub object : option_map (λ o. o.0) e.object ≡ named_object before.tree edit before.next
  pub refreshed : e.refreshed ≡ 0
  pub bytes : ℕ
  pub growth : IsGrowth before edit bytes
  pub changed : IsChangedInPlace before after (tree_after before edit) (state_after (state_of before) edit).next
      (made_numbers before edit ++ touched_by before.tree edit) bytes
  pub trimmed : IsTrimmedBy edit before after

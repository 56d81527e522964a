-- The objects whose blocks an edit may change; the bytes of all others stay.
use Rattle.std.specs.Prelude.{ℕ, List, [], ◌∷◌, ◌++◌}
use Rattle.std.specs.Option.{option_map_or}
use Rattle.std.specs.List.{flat_map}
use Rattle.h5_model.specs.Format.Limits.{most_names}
use Rattle.h5_model.specs.Tree.Objects.{Tree, within_names}
use Rattle.h5_model.specs.Tree.Paths.{parent_at, object_at}
use Rattle.h5_model.specs.declared.edits.Edit.{Edit}
use Rattle.h5_model.specs.declared.edits.Edit.TheVariants.{CreateGroup, CreateDataset, HardLink, SoftLink, Unlink, SetAttr, RemoveAttr, Write, Resize}

-- the group of the last name, and the object, at a path
abbrev pub parent_list : Tree → List ℕ → List ℕ
parent_list tree path = option_map_or (λ p. p.0 ∷ []) (parent_at tree path) []

abbrev pub object_list : Tree → List ℕ → List ℕ
object_list tree path = option_map_or (λ number. number ∷ []) (object_at tree path) []

-- The objects whose blocks an edit may change: the parent group for what makes a link; for Unlink also the object named and all below it; else the object named
unfoldable pub touched_by : Tree → Edit → List ℕ
touched_by tree (CreateGroup path) = parent_list tree path
touched_by tree (CreateDataset path spec) = parent_list tree path
touched_by tree (HardLink target path) = parent_list tree path ++ object_list tree target
touched_by tree (SoftLink text path) = parent_list tree path
touched_by tree (Unlink path) = parent_list tree path ++ flat_map (within_names tree most_names) (object_list tree path)
touched_by tree (SetAttr path attr) = object_list tree path
touched_by tree (RemoveAttr path name) = object_list tree path
touched_by tree (Write path hyper values) = object_list tree path
touched_by tree (Resize path dims) = object_list tree path

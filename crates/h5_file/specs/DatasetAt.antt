-- The dataset at a path (File Format Specification 3.0, section IV.A.2).
use Rattle.std.specs.Prelude.{◌≡◌, ℕ, Some, None, List}
use Rattle.h5_model.specs.Edits.Refusal.{first_holding}
use Rattle.h5_model.specs.Scripts.Reading.{dataset_rules}
use Rattle.h5_model.specs.Tree.Objects.{Tree, Dataset}
use Rattle.h5_model.specs.Tree.Paths.{dataset_at}

-- no rule of a dataset's path refuses it, and this dataset stands there
pub record IsDatasetAt (tree : Tree) (path : List ℕ) (dataset : Dataset) : Type 0 where
  pub accepted : first_holding (dataset_rules tree path) ≡ None
  pub stands : dataset_at tree path ≡ Some dataset

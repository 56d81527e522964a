-- Links that an unlink takes away where no rule of the tree refuses it (File Format Specification 3.0, sections III.C and IV.A.1.a).
use Rattle.std.specs.Prelude.{◌≡◌, ℕ, Some, None, List}
use Rattle.h5_model.specs.Edits.Refusal.{refusal_of}
use Rattle.h5_model.specs.Tree.Objects.{Tree, Link, object_of}
use Rattle.h5_model.specs.Tree.Paths.{Here, location_of, parent_at}
use Rattle.h5_model.specs.declared.edits.Edit.TheVariants.{Unlink}
use Rattle.h5_edit.specs.declared.rules.unlink.Removal.{Removal}

-- no rule refuses the unlink; this is the link at the path, and the object to which it leads
pub record IsRemoval (tree : Tree) (next : ℕ) (path : List ℕ) (r : Removal) : Type 0 where
  pub allowed : refusal_of tree next (Unlink path) ≡ None
  pub parent : parent_at tree path ≡ Some (r.parent, r.name.now)
  pub link : Link
  pub stands : location_of tree path ≡ Here link
  pub leads : r.object ≡ object_of link

-- What stands at a path, with what it holds (File Format Specification 3.0, section IV.A).
use Rattle.std.specs.Prelude.{◌≡◌, ℕ, None, Some, List}
use Rattle.std.specs.FinMap.{get, entries}
use Rattle.h5_model.specs.Tree.Objects.{Tree, ToObject, Object, Content, Attribute, Links}
use Rattle.h5_model.specs.Tree.Objects as tree
use Rattle.h5_model.specs.Tree.Paths.{Located, Here, location_of}
use Rattle.h5_model.specs.Edits.Refusal.{first_holding}
use Rattle.h5_model.specs.Scripts.Reading.{path_rules}
use Rattle.h5_model.specs.declared.edit_fault.EditFault.{EditFault}
use Rattle.h5_model.specs.declared.edit_fault.EditFault.TheVariants as fault
use Rattle.h5_query.specs.declared.found.Found.{Found}
use Rattle.h5_query.specs.declared.found.Found.TheVariants as found

-- the object of this number has these attributes, by their names, and this content
pub record TreeHasObject (whole : Tree) (number : ℕ) (attributes : List (List ℕ × Attribute)) (content : Content) : Type 0 where
  pub object : Object
  pub found : get whole number ≡ Some object
  pub listed : attributes ≡ entries object.attributes
  pub content_is : object.content ≡ content

-- what the path leads to, with what it holds
abbrev pub IsFoundAs : Tree → Located → Found → Type 0
IsFoundAs whole (Here (ToObject n)) (found.Group number attributes) =
    (number.0 ≡ n) × (links : Links) × TreeHasObject whole n attributes.items (tree.Group links)
IsFoundAs whole (Here (ToObject n)) (found.Array number attributes array) =
    (number.0 ≡ n) × TreeHasObject whole n attributes.items (tree.Array array)
IsFoundAs whole (Here (tree.Soft text)) (found.Soft shown) = shown.now ≡ text
IsFoundAs whole _ _ = ⊥

-- no rule of a path holds, and this stands there
pub record HasFound (tree : Tree) (path : List ℕ) (found : Found) : Type 0 where
  pub accepted : first_holding (path_rules tree path) ≡ None
  pub there : IsFoundAs tree (location_of tree path) found

-- the rules refuse the path, or none does and memory was short
abbrev pub IsUnfound : Tree → List ℕ → EditFault → Type 0
IsUnfound tree path fault.NoMemory = first_holding (path_rules tree path) ≡ None
IsUnfound tree path e = first_holding (path_rules tree path) ≡ Some e

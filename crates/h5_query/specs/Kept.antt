-- What an opened image keeps of the object at a path, and of the cells of its array (File Format Specification 3.0, section IV.A).
use Rattle.std.specs.Prelude.{◌≡◌, ℕ, Some, None, List, map}
use Rattle.std.specs.FinMap.{get}
use Rattle.std.specs.Option.{option_and_then}
use Rattle.h5_model.specs.Tree.Objects.{Tree, Object, Dataset}
use Rattle.h5_model.specs.Tree.Paths.{object_at, dataset_at}
use Rattle.h5_model.specs.Edits.Refusal.{first_holding, is_chunked}
use Rattle.h5_model.specs.Scripts.Reading.{object_rules, dataset_rules}
use Rattle.h5_model.specs.Format.Messages.{Message}
use Rattle.h5_model.specs.Format.Symbols.{Target}
use Rattle.h5_open.specs.Told.{array_told, layout_told, type_told}
use Rattle.h5_open.specs.GroupTold.{links_told}
use Rattle.h5_model.specs.Format.Addresses.{SymbolTable}
use Rattle.h5_open.specs.Data.{AreDataRead, dataset_told}
use Rattle.h5_open.specs.StoredExtent.{StoredExtent, stored_extent}
use Rattle.h5_open.specs.Opened.Judged.{IsArrayList}
use Rattle.h5_header.specs.Listed.{HeaderIn, Listed, messages_in}
use Rattle.h5_open.specs.Attributes.{attributes_of}
use Rattle.h5_open.specs.Opened.Headers.{IsHeaderKept}

-- an object stands there, whose attributes are those of this header
pub record IsHeaderThere (image : List ℕ) (tree : Tree) (path : List ℕ) (m : Listed) : Type 0 where
  pub accepted : first_holding (object_rules tree path) ≡ None
  pub object : Object
  pub found : option_and_then (get tree) (object_at tree path) ≡ Some object
  pub kept : IsHeaderKept image m
  pub attributes_are : object.attributes ≡ attributes_of (messages_in image m.list)

-- the dataset that the messages of a header tell
abbrev pub array_dataset : List ℕ → List Message → Dataset
array_dataset image ms = dataset_told image (array_told ms)

-- the messages are those of an array, and its data stand in the image
pub record IsArrayKept (h : HeaderIn) : Type 0 where
  pub list : IsArrayList h.messages
  pub stored : AreDataRead h.image (type_told h.messages) (layout_told h.messages)

-- this dataset stands there, and has this number
pub record IsArrayAt (tree : Tree) (path : List ℕ) (at : ℕ × Dataset) : Type 0 where
  pub accepted : first_holding (dataset_rules tree path) ≡ None
  pub number : object_at tree path ≡ Some at.0
  pub found : dataset_at tree path ≡ Some at.1

-- a dataset of this extent stands there, and has this number
pub record IsExtentAt (tree : Tree) (path : List ℕ) (at : ℕ × StoredExtent) : Type 0 where
  pub dataset : Dataset
  pub there : IsArrayAt tree path (at.0, dataset)
  pub extent : at.1 ≡ stored_extent dataset.sizes dataset.maxima (is_chunked dataset.storage)

-- the names of a group's links
abbrev pub names_of_group : List ℕ → SymbolTable → List (List ℕ)
names_of_group image table = map (λ (l : List ℕ × Target). l.0) (links_told image table)

-- What a look at a path answers.
use Rattle.std.specs.Prelude.{◌≡◌, ℕ, ℤ, Some, None, IsSome, List, map}
use Rattle.std.specs.FinMap.{get, entries}
use Rattle.std.specs.Option.{option_and_then}
use Rattle.h5_model.specs.Format.Fixed.{Fixed}
use Rattle.h5_model.specs.Tree.Objects.{Tree, ToObject, Object, Attribute, Dataset, Storage, links_of, dataset_of}
use Rattle.h5_model.specs.Tree.Objects as tree
use Rattle.h5_model.specs.Tree.Paths.{Located, Here, location_of, object_at, dataset_at}
use Rattle.h5_model.specs.Edits.Refusal.{first_holding}
use Rattle.h5_model.specs.Scripts.Reading.{path_rules, list_rules, object_rules, attribute_rules, cell_rules, listed_names, attribute_names, attribute_at, cell_at, shown_maximum}
use Rattle.h5_model.specs.declared.edit_fault.EditFault.{EditFault}
use Rattle.h5_model.specs.declared.edit_fault.EditFault.TheVariants as fault
use Rattle.h5_query.specs.declared.kind.Kind.{Kind}
use Rattle.h5_query.specs.declared.kind.Kind.TheVariants.{Group, Dataset as ArrayOf, Soft}
use Rattle.h5_model.specs.declared.dataset.Store.{Store}
use Rattle.h5_model.specs.declared.dataset.Store.TheVariants as store

-- how cells are stored, as a look tells it: not whether contiguous cells are stored yet
abbrev pub IsStored : Storage → Store (List ℕ) → Type 0
IsStored tree.Compact store.Compact = Unit {0}
IsStored (tree.Contiguous stored) store.Contiguous = Unit {0}
IsStored (tree.Chunked sizes) (store.Chunked chunk) = chunk ≡ sizes
IsStored _ _ = ⊥

-- a dataset of this type, sizes, maxima, store and fill value; an unlimited maximum is shown as 2^64 - 1
pub record IsShown (d : Dataset) (fixed : Fixed) (dims maxima : List ℕ) (stored : Store (List ℕ)) (fill : ℤ) : Type 0 where
  pub fixed_is : fixed ≡ d.fixed
  pub dims_are : dims ≡ d.sizes
  pub maxima_are : maxima ≡ map shown_maximum d.maxima
  pub stored_is : IsStored d.storage stored
  pub fill_is : fill ≡ d.fill

-- the kind is that of this dataset
abbrev pub IsArrayKind : Dataset → Kind → Type 0
IsArrayKind d (ArrayOf fixed dims maxima stored fill) = IsShown d fixed dims maxima stored fill
IsArrayKind d kind = ⊥

-- what stands there is a link of this kind
abbrev pub IsKind : Tree → Located → Kind → Type 0
IsKind whole (Here (ToObject number)) Group = IsSome (links_of whole number)
IsKind whole (Here (ToObject number)) (ArrayOf fixed dims maxima stored fill) =
    (d : Dataset) × (dataset_of whole number ≡ Some d) × IsShown d fixed dims maxima stored fill
IsKind whole (Here (tree.Soft text)) (Soft shown) = shown.now ≡ text
IsKind whole _ kind = ⊥

-- no rule of a path holds, and the link is of this kind
pub record HasKind (tree : Tree) (path : List ℕ) (kind : Kind) : Type 0 where
  pub accepted : first_holding (path_rules tree path) ≡ None
  pub found : IsKind tree (location_of tree path) kind

-- a group stands there, which has links of these names
pub record HasLinksNamed (tree : Tree) (path : List ℕ) (names : List (List ℕ)) : Type 0 where
  pub accepted : first_holding (list_rules tree path) ≡ None
  pub listed : names ≡ listed_names tree path

-- the rules refuse the path, or none does and memory was short
abbrev pub IsListRefused : Tree → List ℕ → EditFault → Type 0
IsListRefused tree path fault.NoMemory = first_holding (list_rules tree path) ≡ None
IsListRefused tree path e = first_holding (list_rules tree path) ≡ Some e

-- a dataset stands there, which has this value at the index
pub record HasCell (tree : Tree) (path index : List ℕ) (value : ℤ) : Type 0 where
  pub accepted : first_holding (cell_rules tree path index) ≡ None
  pub dataset : Dataset
  pub found : dataset_at tree path ≡ Some dataset
  pub value_is : value ≡ cell_at dataset index

-- an object stands there, which has attributes of these names
pub record HasAttributeNames (tree : Tree) (path : List ℕ) (names : List (List ℕ)) : Type 0 where
  pub accepted : first_holding (object_rules tree path) ≡ None
  pub listed : names ≡ attribute_names tree path

-- and these attributes, by their names
pub record HasAttributesOf (tree : Tree) (path : List ℕ) (attributes : List (List ℕ × Attribute)) : Type 0 where
  pub accepted : first_holding (object_rules tree path) ≡ None
  pub object : Object
  pub found : option_and_then (get tree) (object_at tree path) ≡ Some object
  pub listed : attributes ≡ entries object.attributes

-- the rules refuse the path, or none does and memory was short
abbrev pub IsUnlisted : Tree → List ℕ → EditFault → Type 0
IsUnlisted tree path fault.NoMemory = first_holding (object_rules tree path) ≡ None
IsUnlisted tree path e = first_holding (object_rules tree path) ≡ Some e

-- the object there has this attribute
pub record HasAttribute (tree : Tree) (path name : List ℕ) (a : List ℕ × Attribute) : Type 0 where
  pub accepted : first_holding (attribute_rules tree path name) ≡ None
  pub named : a.0 ≡ name
  pub found : attribute_at tree path name ≡ Some a.1

-- ---- arrays by their numbers

-- no dataset has this number
abbrev pub IsNoDataset : Tree → ℕ → Type 0
IsNoDataset whole number = dataset_of whole number ≡ None

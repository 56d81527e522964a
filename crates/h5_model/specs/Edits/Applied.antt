-- What an accepted edit makes of a tree, and the numbers that are given out.
use Rattle.std.specs.Prelude.{ℕ, ◌+◌, ◌||◌, Bool, true, false, nat_lt, if◌then◌else◌, ℤ, Option, Some, None, List, [], ◌∷◌, map, length, replicate, slice_set, slice_index_or}
use Rattle.std.specs.FinMap.{insert, remove, empty}
use Rattle.std.specs.List.{range_with_len}
use Rattle.std.specs.Option.{option_map_or}
use Rattle.h5_model.specs.Tree.Places.{cells, place_of, index_of, is_inside}
use Rattle.h5_model.specs.Views.Selection.{Slab, axes_of, selection_of}
use Rattle.h5_model.specs.Tree.Objects.{Tree, Link, ToObject, Soft, Links, Object, Content, Group, Array, Dataset, Storage, Compact, Contiguous, Chunked, Attribute, Attributes, with_object, only_reached}
use Rattle.h5_model.specs.Tree.Paths.{parent_at, object_at}
use Rattle.h5_model.specs.declared.edits.Edit.{Edit}
use Rattle.h5_model.specs.declared.edits.Edit.TheVariants.{CreateGroup, CreateDataset, HardLink, SoftLink, Unlink, SetAttr, RemoveAttr, Write, Resize}
use Rattle.h5_model.specs.declared.dataset.Spec.{Spec}
use Rattle.h5_model.specs.declared.attribute.AttrSpec.{AttrSpec}
use Rattle.h5_model.specs.declared.dataset.Store.{Store}
use Rattle.h5_model.specs.declared.dataset.Store.TheVariants as store

-- a group whose links are changed; other objects stay
abbrev pub with_links : (Links → Links) → Object → Object
with_links change o = record o { content = with_change o.content } where
  with_change : Content → Content
  with_change (Group links) = Group (change links)
  with_change (Array d) = Array d

abbrev pub with_dataset : (Dataset → Dataset) → Object → Object
with_dataset change o = record o { content = with_change o.content } where
  with_change : Content → Content
  with_change (Group links) = Group links
  with_change (Array d) = Array (change d)

abbrev pub with_attributes : (Attributes → Attributes) → Object → Object
with_attributes change o = record o { attributes = change o.attributes }

-- the tree with a link added, or taken away, at a path
abbrev pub with_link_at : Tree → List ℕ → Link → Tree
with_link_at tree path link = option_map_or (λ p. with_object tree p.0 (with_links (λ links. insert links p.1 link))) (parent_at tree path) tree

abbrev pub without_link_at : Tree → List ℕ → Tree
without_link_at tree path = option_map_or (λ p. with_object tree p.0 (with_links (λ links. remove links p.1))) (parent_at tree path) tree

-- the tree with the object at a path changed
abbrev pub with_object_at : Tree → List ℕ → (Object → Object) → Tree
with_object_at tree path change = option_map_or (λ number. with_object tree number change) (object_at tree path) tree

-- an object without attributes and kept messages
abbrev pub new_object : Content → Object
new_object content = record { content = content; attributes = empty; kept = [] }

-- how the cells of a new array of these sizes are stored: contiguous cells at once
abbrev pub new_storage : List ℕ → Store (List ℕ) → Storage
new_storage sizes store.Compact = Compact
new_storage sizes store.Contiguous = Contiguous (nat_lt 0 (cells sizes))
new_storage sizes (store.Chunked chunk) = Chunked chunk

-- an array whose cells are the fill
abbrev pub new_dataset : Spec → Dataset
new_dataset s = record {
  fixed = s.fixed;
  sizes = s.dims;
  maxima = s.maxima;
  storage = new_storage s.dims s.store;
  fill = s.fill;
  cells = replicate (cells s.dims) s.fill;
}

-- the cells with the k-th of these places set to the k-th value
abbrev pub with_cells : List ℤ → List ℕ → List ℤ → List ℤ
with_cells values [] new = values
with_cells values (place ∷ places) [] = values
with_cells values (place ∷ places) (v ∷ vs) = with_cells (slice_set values place v) places vs

-- contiguous cells are stored once a cell was written
abbrev pub written_storage : List ℕ → Storage → Storage
written_storage places Compact = Compact
written_storage places (Contiguous stored) = Contiguous (stored || nat_lt 0 (length places))
written_storage places (Chunked sizes) = Chunked sizes

abbrev pub with_selection : Slab → List ℤ → Dataset → Dataset
with_selection slab values d = record d {
  storage = written_storage (selection_of d.sizes slab) d.storage;
  cells = with_cells d.cells (selection_of d.sizes slab) values;
}

-- the value at an index of an array, or the fill outside
abbrev pub cell_or_fill : Dataset → List ℕ → ℤ
cell_or_fill d index = if is_inside d.sizes index then slice_index_or d.cells (place_of d.sizes index) d.fill else d.fill

-- the array with these sizes: its cells stay by their index, the others are the fill
abbrev pub with_sizes : List ℕ → Dataset → Dataset
with_sizes sizes d = record d {
  sizes = sizes;
  cells = map (λ place. cell_or_fill d (index_of sizes place)) (range_with_len 0 (cells sizes));
}

abbrev pub attribute_from : AttrSpec → Attribute
attribute_from a = record { fixed = a.fixed; sizes = a.dims; values = a.values; body = None }

-- the link that a hard link to a path adds
abbrev pub with_hard_link : Tree → List ℕ → List ℕ → Tree
with_hard_link tree target path = option_map_or (λ number. with_link_at tree path (ToObject number)) (object_at tree target) tree

-- What an accepted edit gives; a new object takes this number.
unfoldable pub with_edit : Tree → Edit → ℕ → Tree
with_edit tree (CreateGroup path) number = insert (with_link_at tree path (ToObject number)) number (new_object (Group empty))
with_edit tree (CreateDataset path spec) number = insert (with_link_at tree path (ToObject number)) number (new_object (Array (new_dataset spec)))
with_edit tree (HardLink target path) number = with_hard_link tree target path
with_edit tree (SoftLink text path) number = with_link_at tree path (Soft text)
with_edit tree (Unlink path) number = only_reached (without_link_at tree path)
with_edit tree (SetAttr path attr) number = with_object_at tree path (with_attributes (λ m. insert m attr.name (attribute_from attr)))
with_edit tree (RemoveAttr path name) number = with_object_at tree path (with_attributes (λ m. remove m name))
with_edit tree (Write path hyper values) number = with_object_at tree path (with_dataset (with_selection (axes_of hyper) values))
with_edit tree (Resize path dims) number = with_object_at tree path (with_dataset (with_sizes dims))

-- an edit that makes an object uses up a number
abbrev pub makes_object : Edit → Bool
makes_object (CreateGroup path) = true
makes_object (CreateDataset path spec) = true
makes_object _ = false

-- a tree, and the next number: those below it were given out
pub record State : Type 0 where
  pub tree : Tree
  pub next : ℕ

abbrev pub state_after : State → Edit → State
state_after s edit = record { tree = with_edit s.tree edit s.next; next = if makes_object edit then s.next + 1 else s.next }

-- the object that the answer to an accepted edit names; a new one has this number
abbrev pub named_object : Tree → Edit → ℕ → Option ℕ
named_object tree (CreateGroup path) number = Some number
named_object tree (CreateDataset path spec) number = Some number
named_object tree (HardLink target path) number = object_at tree target
named_object tree (SoftLink text path) number = None
named_object tree (Unlink path) number = None
named_object tree (SetAttr path attr) number = object_at tree path
named_object tree (RemoveAttr path name) number = object_at tree path
named_object tree (Write path hyper values) number = object_at tree path
named_object tree (Resize path dims) number = object_at tree path

-- When a reading call is refused, and what it answers: the lowest rule of its list that holds.
use Rattle.std.specs.Prelude.{ℕ, ◌==◌, ◌||◌, ◌&&◌, Bool, false, not, is_none, ℤ, Option, Some, None, List, [], ◌∷◌, ◌++◌, length, slice_index_or}
use Rattle.std.specs.List.{list_any}
use Rattle.std.specs.FinMap.{get, keys, contains_key}
use Rattle.std.specs.Option.{option_map_or, option_and_then}
use Rattle.h5_bytes.specs.Bytes.{undefined_address}
use Rattle.h5_model.specs.Tree.Places.{place_of, is_inside}
use Rattle.h5_model.specs.Views.Selection.{axes_of, has_rank, has_no_stride, overlaps, is_within}
use Rattle.h5_model.specs.Tree.Objects.{Tree, Object, Dataset, Attribute}
use Rattle.h5_model.specs.Tree.Paths.{names_of, location_of, object_at, dataset_at, links_at}
use Rattle.h5_model.specs.Edits.Refusal.{is_deep, has_no_parent, has_no_group, is_missing, is_here, is_soft}
use Rattle.h5_model.specs.declared.hyperslab.Hyper.{Hyper}
use Rattle.h5_model.specs.declared.edit_fault.EditFault.{EditFault}
use Rattle.h5_model.specs.declared.edit_fault.EditFault.TheVariants as fault

-- the rules of a path at which something has to stand
abbrev pub path_rules : Tree → List ℕ → List (EditFault × Bool)
path_rules tree path =
    (fault.BadPath, is_none (names_of path))
    ∷ (fault.PathTooDeep, is_deep path)
    ∷ (fault.NoSuchParent, has_no_parent (location_of tree path))
    ∷ (fault.NotAGroup, has_no_group (location_of tree path))
    ∷ (fault.NotFound, is_missing (location_of tree path))
    ∷ []

-- a group has to stand there
abbrev pub list_rules : Tree → List ℕ → List (EditFault × Bool)
list_rules tree path =
    (fault.BadPath, is_none (names_of path))
    ∷ (fault.PathTooDeep, is_deep path)
    ∷ (fault.NoSuchParent, has_no_parent (location_of tree path))
    ∷ (fault.NotAGroup, has_no_group (location_of tree path) || (is_here (location_of tree path) && is_none (links_at tree path)))
    ∷ (fault.NotFound, is_missing (location_of tree path))
    ∷ []

-- an object has to stand there
abbrev pub object_rules : Tree → List ℕ → List (EditFault × Bool)
object_rules tree path = path_rules tree path ++ (fault.NotFound, is_soft (location_of tree path)) ∷ []

-- the object has to have an attribute of this name
abbrev pub attribute_rules : Tree → List ℕ → List ℕ → List (EditFault × Bool)
attribute_rules tree path name = object_rules tree path
    ++ (fault.NoSuchAttribute, option_map_or (λ (o : Object). not (contains_key o.attributes name)) (option_and_then (get tree) (object_at tree path)) false) ∷ []

-- a dataset has to stand there
abbrev pub dataset_rules : Tree → List ℕ → List (EditFault × Bool)
dataset_rules tree path = path_rules tree path ++ (fault.NotADataset, is_here (location_of tree path) && is_none (dataset_at tree path)) ∷ []

-- the index has to be one of the dataset's
abbrev pub cell_rules : Tree → List ℕ → List ℕ → List (EditFault × Bool)
cell_rules tree path index = dataset_rules tree path
    ++ (fault.RankMismatch, option_map_or (λ (d : Dataset). not (length index == length d.sizes)) (dataset_at tree path) false)
    ∷ (fault.OutOfExtent, option_map_or (λ (d : Dataset). not (is_inside d.sizes index)) (dataset_at tree path) false)
    ∷ []

-- the selection has to be one of the dataset's
abbrev pub selection_rules : Tree → List ℕ → Hyper → List (EditFault × Bool)
selection_rules tree path hyper = dataset_rules tree path
    ++ (fault.RankMismatch, option_map_or (λ (d : Dataset). not (has_rank (length d.sizes) hyper)) (dataset_at tree path) false)
    ∷ (fault.StrideZero, list_any has_no_stride (axes_of hyper))
    ∷ (fault.BlocksOverlap, list_any overlaps (axes_of hyper))
    ∷ (fault.OutOfExtent, option_map_or (λ (d : Dataset). not (is_within d.sizes (axes_of hyper))) (dataset_at tree path) false)
    ∷ []

-- the names of a group's links, ascending
abbrev pub listed_names : Tree → List ℕ → List (List ℕ)
listed_names tree path = option_map_or keys (links_at tree path) []

-- the value of a cell
abbrev pub cell_at : Dataset → List ℕ → ℤ
cell_at d index = slice_index_or d.cells (place_of d.sizes index) d.fill

-- the names of an object's attributes, ascending, and the attribute of a name
abbrev pub attribute_names : Tree → List ℕ → List (List ℕ)
attribute_names tree path = option_map_or (λ (o : Object). keys o.attributes) (option_and_then (get tree) (object_at tree path)) []

abbrev pub attribute_at : Tree → List ℕ → List ℕ → Option Attribute
attribute_at tree path name = option_and_then (λ (o : Object). get o.attributes name) (option_and_then (get tree) (object_at tree path))

-- a maximum as `kind` shows it: an unlimited one is 18446744073709551615
abbrev pub shown_maximum : Option ℕ → ℕ
shown_maximum None = undefined_address
shown_maximum (Some m) = m

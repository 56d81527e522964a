-- Paths of names, and what stands at one. A path is `/`, or a `/` before each of one or more names; a soft link is not followed.
use Rattle.std.specs.Prelude.{ℕ, ◌==◌, ◌&&◌, ◌||◌, Bool, not, if◌then◌else◌, Option, Some, None, List, [], ◌∷◌, length, drop, slice_index}
use Rattle.std.specs.Option.{option_map_or, option_and_then}
use Rattle.std.specs.FinMap.{get}
use Rattle.std.specs.List.{list_any, list_all, slice_split}
use Rattle.h5_model.specs.Tree.Objects.{Tree, Link, ToObject, Soft, Links, Dataset, links_of, link_in, dataset_of}

-- a name: at least one byte, no zero byte, no `/`, and not `.` alone
abbrev pub is_name : List ℕ → Bool
is_name name = not (length name == 0) && not (length name == 1 && slice_index name 0 == 46) && not (list_any (λ c. c == 0 || c == 47) name)

-- the names between the slashes, where each is a name
abbrev pub checked_names : List (List ℕ) → Option (List (List ℕ))
checked_names names = if list_all is_name names then Some names else None

-- the names of a path: none of `/`, and else a `/` stands before each
unfoldable pub names_of : List ℕ → Option (List (List ℕ))
names_of path =
    if not (length path == 0) && slice_index path 0 == 47
    then (if length path == 1 then Some [] else checked_names (slice_split (λ c. c == 47) (drop 1 path)))
    else None

-- the last name
abbrev pub last_of : List (List ℕ) → List ℕ
last_of [] = []
last_of (name ∷ []) = name
last_of (name ∷ names) = last_of names

-- what a path leads to: a link; or the last name is missing, one before it is, or one before it is no group
pub data Located : Type 0 where
  Here : Link → Located
  Missing : Located
  NoParent : Located
  NoGroup : Located
  NoPath : Located

-- a name is missing, before these
abbrev pub missing_before : List (List ℕ) → Located
missing_before [] = Missing
missing_before (name ∷ names) = NoParent

abbrev pub locate : Tree → Link → List (List ℕ) → Located
locate tree link [] = Here link
locate tree (Soft text) (name ∷ names) = NoGroup
locate tree (ToObject number) (name ∷ names) =
    option_map_or (λ links. option_map_or (λ link. locate tree link names) (get links name) (missing_before names)) (links_of tree number) NoGroup

-- what stands at a path
abbrev pub location_of : Tree → List ℕ → Located
location_of tree path = option_map_or (λ names. locate tree (ToObject 0) names) (names_of path) NoPath

abbrev pub object_there : Located → Option ℕ
object_there (Here (ToObject number)) = Some number
object_there _ = None

-- the number of the object, and the dataset, at a path
abbrev pub object_at : Tree → List ℕ → Option ℕ
object_at tree path = object_there (location_of tree path)

abbrev pub dataset_at : Tree → List ℕ → Option Dataset
dataset_at tree path = option_and_then (dataset_of tree) (object_at tree path)

abbrev pub links_at : Tree → List ℕ → Option Links
links_at tree path = option_and_then (links_of tree) (object_at tree path)

-- the group before the last name, and that name
abbrev pub parent_from : Tree → Link → List (List ℕ) → Option (ℕ × List ℕ)
parent_from tree link [] = None
parent_from tree (Soft text) (name ∷ names) = None
parent_from tree (ToObject number) (name ∷ []) = Some (number, name)
parent_from tree (ToObject number) (name ∷ next ∷ names) = option_and_then (λ link. parent_from tree link (next ∷ names)) (link_in tree number name)

abbrev pub parent_at : Tree → List ℕ → Option (ℕ × List ℕ)
parent_at tree path = option_and_then (parent_from tree (ToObject 0)) (names_of path)

-- What a file holds: numbered objects, and the links between them (groups by symbol tables, hard and soft links: File Format
-- Specification 3.0, sections III.B, III.C and IV.A.2.r). Object 0 is the root group.
use Rattle.std.specs.Prelude.{ℕ, zero, suc, ◌==◌, ◌&&◌, ℤ, Bool, true, false, List, [], ◌∷◌, Option, Some, None}
use Rattle.std.specs.Ordering.{nat_cmp}
use Rattle.std.specs.Cmp.Lexicographic.{slice_cmp}
use Rattle.std.specs.FinMap.{FinMap, get, insert, values, retain_keys}
use Rattle.std.specs.List.{sum_by, count_by, filter_map, flat_map, list_any}
use Rattle.std.specs.Option.{option_and_then, option_map_or}
use Rattle.h5_model.specs.Format.Limits.{most_names}
use Rattle.h5_model.specs.Format.Fixed.{Fixed}

-- a link leads to an object by its number, or holds a soft link's text
pub data Link : Type 0 where
  ToObject : ℕ → Link
  Soft : List ℕ → Link

-- links by name, names in the order of their bytes
abbrev pub Links : Type 0
Links = FinMap (slice_cmp nat_cmp) Link

-- how a dataset is stored; of contiguous cells whether there are any and they are stored; of chunks their sizes
pub data Storage : Type 0 where
  Compact : Storage
  Contiguous : Bool → Storage
  Chunked : List ℕ → Storage

-- an array: its cells in row-major order; a maximum of None is unlimited
pub record Dataset : Type 0 where
  pub fixed : Fixed
  pub sizes : List ℕ
  pub maxima : List (Option ℕ)
  pub storage : Storage
  pub fill : ℤ
  pub cells : List ℤ

pub data Content : Type 0 where
  Group : Links → Content
  Array : Dataset → Content

-- each maximum is the size
abbrev pub are_sizes : List ℕ → List (Option ℕ) → Bool
are_sizes [] [] = true
are_sizes [] (m ∷ ms) = false
are_sizes (d ∷ ds) [] = false
are_sizes (d ∷ ds) (m ∷ ms) = option_map_or (λ n. n == d) m false && are_sizes ds ms

-- an attribute without its name; a message of version 2 or 3 is kept with its whole body
pub record Attribute : Type 0 where
  pub fixed : Fixed
  pub sizes : List ℕ
  pub values : List ℤ
  pub body : Option (List ℕ)

abbrev pub Attributes : Type 0
Attributes = FinMap (slice_cmp nat_cmp) Attribute

-- a message that is kept as it stands: its type and body
pub record Kept : Type 0 where
  pub kind : ℕ
  pub body : List ℕ

pub record Object : Type 0 where
  pub content : Content
  pub attributes : Attributes
  pub kept : List Kept

abbrev pub Tree : Type 0
Tree = FinMap nat_cmp Object

abbrev pub links_in : Content → Option Links
links_in (Group links) = Some links
links_in (Array d) = None

abbrev pub dataset_in : Content → Option Dataset
dataset_in (Group links) = None
dataset_in (Array d) = Some d

-- the links of a group, the dataset, of this number
abbrev pub links_of : Tree → ℕ → Option Links
links_of tree number = option_and_then (λ o. links_in o.content) (get tree number)

abbrev pub dataset_of : Tree → ℕ → Option Dataset
dataset_of tree number = option_and_then (λ o. dataset_in o.content) (get tree number)

-- the link of this name in the group of this number
abbrev pub link_in : Tree → ℕ → List ℕ → Option Link
link_in tree number name = option_and_then (λ links. get links name) (links_of tree number)

-- where a path of names leads from a link: to a link, or nowhere
abbrev pub follow : Tree → Link → List (List ℕ) → Option Link
follow tree link [] = Some link
follow tree (Soft text) (name ∷ names) = None
follow tree (ToObject number) (name ∷ names) = option_and_then (λ link. follow tree link names) (link_in tree number name)

abbrev pub leads_to : ℕ → Link → Bool
leads_to number (ToObject other) = number == other
leads_to number (Soft text) = false

-- how many hard links of a group lead to the object
abbrev pub links_to : ℕ → Content → ℕ
links_to number (Group links) = count_by (leads_to number) (values links)
links_to number (Array d) = 0

-- how many hard links lead to the object
abbrev pub hard_links : Tree → ℕ → ℕ
hard_links tree number = sum_by (λ o. links_to number o.content) (values tree)

abbrev pub object_of : Link → Option ℕ
object_of (ToObject number) = Some number
object_of (Soft text) = None

-- the objects that a group's links name
abbrev pub named_by : Tree → ℕ → List ℕ
named_by tree number = option_map_or (λ links. filter_map object_of (values links)) (links_of tree number) []

-- the objects that paths of at most so many names lead to from an object
unfoldable pub within_names : Tree → ℕ → ℕ → List ℕ
within_names tree zero number = number ∷ []
within_names tree (suc n) number = number ∷ flat_map (within_names tree n) (named_by tree number)

-- a path from the root reaches the object; no path has more than `most_names`
unfoldable pub is_reached : Tree → ℕ → Bool
is_reached tree number = list_any (λ n. n == number) (within_names tree most_names 0)

-- the objects that a path from the root reaches
abbrev pub only_reached : Tree → Tree
only_reached tree = retain_keys tree (is_reached tree)

-- the tree with one object changed
abbrev pub with_object : Tree → ℕ → (Object → Object) → Tree
with_object tree number change = option_map_or (λ o. insert tree number (change o)) (get tree number) tree

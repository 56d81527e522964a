-- Which rule of a path is the first that holds, in any tree.
use Rattle.std.proofs.Common.{◌≡◌, ℕ, List, [], ◌∷◌, ◌++◌, length, refl, ap, ◌∙◌, Bool, not, true, false, Option, Some, None}
use Rattle.std.specs.Prelude.{nat_lt, ◌==◌, if◌then◌else◌, ◌||◌, ◌&&◌, is_none}
use Rattle.std.specs.Option.{option_map_or}
use Rattle.h5_model.specs.Format.Limits.{most_names}
use Rattle.h5_model.specs.Tree.Places.{is_inside}
use Rattle.h5_model.specs.Tree.Objects.{Tree, Link, Dataset, ToObject, links_of, dataset_of}
use Rattle.h5_model.specs.Tree.Paths.{Located, Here, names_of, location_of, links_at, dataset_at}
use Rattle.h5_model.specs.Edits.Refusal.{first_holding, is_deep, is_here, has_no_parent, has_no_group, is_missing}
use Rattle.h5_model.specs.Scripts.Reading.{path_rules, list_rules, dataset_rules}
use Rattle.h5_model.specs.declared.edit_fault.EditFault.{EditFault}
use Rattle.h5_model.specs.declared.edit_fault.EditFault.TheVariants.{BadPath, PathTooDeep, NoSuchParent, NotAGroup, NotFound, NotADataset, RankMismatch, OutOfExtent}
use Rattle.h5_query.specs.Place.{group_rules}

pub first-behind : (rules others : List (EditFault × Bool)) → first_holding rules ≡ None → first_holding (rules ++ others) ≡ first_holding others
first-behind [] others h = refl
first-behind ((f, true) ∷ rules) others h = absurd (cc)
first-behind ((f, false) ∷ rules) others h = first-behind rules others h

pub first-found : (rules others : List (EditFault × Bool)) (e : EditFault) → first_holding rules ≡ Some e → first_holding (rules ++ others) ≡ Some e
first-found [] others e h = absurd (cc)
first-found ((f, true) ∷ rules) others e h = h
first-found ((f, false) ∷ rules) others e h = first-found rules others e h

-- ---- a path

abbrev missing_rule : Tree → List ℕ → List (EditFault × Bool)
missing_rule tree path = (NotFound, is_missing (location_of tree path)) ∷ []

-- where a group stands before the last name, the path is refused where that is missing alone
pub before_last : (tree : Tree) (path : List ℕ) (at : Located) → first_holding (group_rules tree path) ≡ None → location_of tree path ≡ at
    → first_holding (path_rules tree path) ≡ (if is_missing at then Some NotFound else None)
before_last tree path at h there = first-behind (group_rules tree path) (missing_rule tree path) h ∙ ap (λ (l : Located). if is_missing l then Some NotFound else None) there

pub lost_before : (tree : Tree) (path : List ℕ) (e : EditFault) → first_holding (group_rules tree path) ≡ Some e → first_holding (path_rules tree path) ≡ Some e
lost_before tree path e h = first-found (group_rules tree path) (missing_rule tree path) e h

abbrev group_table : Bool → Bool → Located → Option EditFault
group_table bad deep at = first_holding ((BadPath, bad) ∷ (PathTooDeep, deep) ∷ (NoSuchParent, has_no_parent at) ∷ (NotAGroup, has_no_group at) ∷ [])

-- a path that is not deep is refused by what it leads to alone
pub at_group : (tree : Tree) (path : List ℕ) (names : List (List ℕ)) (at : Located) → names_of path ≡ Some names → nat_lt most_names (length names) ≡ false
    → location_of tree path ≡ at → first_holding (group_rules tree path) ≡ group_table false false at
at_group tree path names at h low there =
    let shallow : is_deep path ≡ false = ap (λ o. option_map_or (λ ns. nat_lt most_names (length ns)) o false) h ∙ low in
    let good : is_none (names_of path) ≡ false = ap is_none h in
    (λ i. group_table (good i) (shallow i) (there i))

-- ---- a path to a group

abbrev pub path_table : Bool → Bool → Located → Option EditFault
path_table bad deep at = first_holding ((BadPath, bad) ∷ (PathTooDeep, deep) ∷ (NoSuchParent, has_no_parent at) ∷ (NotAGroup, has_no_group at) ∷ (NotFound, is_missing at) ∷ [])

abbrev pub list_table : Bool → Bool → Located → Bool → Option EditFault
list_table bad deep at other =
    first_holding ((BadPath, bad) ∷ (PathTooDeep, deep) ∷ (NoSuchParent, has_no_parent at) ∷ (NotAGroup, has_no_group at || (is_here at && other)) ∷ (NotFound, is_missing at) ∷ [])

here_table : (bad deep : Bool) (link : Link) (other : Bool) → path_table bad deep (Here link) ≡ None → list_table bad deep (Here link) other ≡ (if other then Some NotAGroup else None)
here_table true deep link other h = absurd (cc)
here_table false true link other h = absurd (cc)
here_table false false link true h = refl
here_table false false link false h = refl

-- where an object stands, a list of it is refused exactly where it is no group
pub list_here : (tree : Tree) (path : List ℕ) (number : ℕ) → first_holding (path_rules tree path) ≡ None → location_of tree path ≡ Here (ToObject number)
    → first_holding (list_rules tree path) ≡ (if is_none (links_of tree number) then Some NotAGroup else None)
list_here tree path number h there =
    let free : path_table (is_none (names_of path)) (is_deep path) (Here (ToObject number)) ≡ None = rw there at h in
    let found : is_none (links_at tree path) ≡ is_none (links_of tree number) = rw there refl in
    let table : first_holding (list_rules tree path) ≡ list_table (is_none (names_of path)) (is_deep path) (Here (ToObject number)) (is_none (links_of tree number)) = rw (there) refl in
    table ∙ here_table (is_none (names_of path)) (is_deep path) (ToObject number) (is_none (links_of tree number)) free

-- ---- a path to a dataset

abbrev array_rule : Tree → List ℕ → List (EditFault × Bool)
array_rule tree path = (NotADataset, is_here (location_of tree path) && is_none (dataset_at tree path)) ∷ []

abbrev pub index_rules : Tree → List ℕ → List ℕ → List (EditFault × Bool)
index_rules tree path index = (RankMismatch, option_map_or (λ (d : Dataset). not (length index == length d.sizes)) (dataset_at tree path) false)
    ∷ (OutOfExtent, option_map_or (λ (d : Dataset). not (is_inside d.sizes index)) (dataset_at tree path) false) ∷ []

-- another object than a dataset stands there
pub no_dataset : (tree : Tree) (path : List ℕ) (number : ℕ) → first_holding (path_rules tree path) ≡ None → location_of tree path ≡ Here (ToObject number)
    → dataset_of tree number ≡ None → first_holding (dataset_rules tree path) ≡ Some NotADataset
no_dataset tree path number h there none = first-behind (path_rules tree path) (array_rule tree path) h ∙ rw (there, none) refl

-- of a dataset the rules of the index are left
pub dataset_here : (tree : Tree) (path : List ℕ) (number : ℕ) (d : Dataset) → first_holding (path_rules tree path) ≡ None → location_of tree path ≡ Here (ToObject number)
    → dataset_of tree number ≡ Some d → (first_holding (dataset_rules tree path) ≡ None) × (dataset_at tree path ≡ Some d)
dataset_here tree path number d h there some = (first-behind (path_rules tree path) (array_rule tree path) h ∙ rw (there, some) refl, rw (there, some) refl)

-- What a path leads to in an opened image.
use Rattle.std.specs.Prelude.{◌≡◌, ℕ, Bool, is_none, List, [], ◌∷◌, Some, None}
use Rattle.h5_model.specs.Tree.Objects.{Tree, Link, ToObject, Soft}
use Rattle.h5_model.specs.Tree.Paths.{Here, Missing, names_of, location_of, object_at, parent_at}
use Rattle.h5_model.specs.Edits.Refusal.{first_holding, is_deep, has_no_parent, has_no_group}
use Rattle.h5_model.specs.Scripts.Reading.{path_rules, object_rules}
use Rattle.h5_model.specs.declared.edit_fault.EditFault.{EditFault}
use Rattle.h5_model.specs.declared.edit_fault.EditFault.TheVariants as fault
use Rattle.h5_open.specs.Opened.Sound.{IsObjectOf}
use Rattle.h5_open.specs.Opened.State.{FileState}
use Rattle.h5_query.specs.declared.place.Place.{Place}
use Rattle.h5_query.specs.declared.place.Place.TheVariants as place
use Rattle.h5_query.specs.declared.place.Spot.{Spot}
use Rattle.h5_query.specs.declared.place.Spot.TheVariants as spot

-- no rule of a path refuses it, and it leads to this link
abbrev pub PathLeadsTo : Tree → List ℕ → Link → Type 0
PathLeadsTo tree path link = (first_holding (path_rules tree path) ≡ None) × (location_of tree path ≡ Here link)

-- the link of a place
abbrev pub link_at : Place → Link
link_at (place.Object number object) = ToObject number
link_at (place.Soft text) = Soft text.now

-- the object of a place is the one of its number
abbrev pub IsOfNumber : FileState → Place → Type 0
IsOfNumber f (place.Object number object) = IsObjectOf f number object.now
IsOfNumber f (place.Soft text) = Unit {0}

-- the path leads to this object, or to this text of a soft link
abbrev pub IsPathPlace : FileState → List ℕ → Place → Type 0
IsPathPlace f path at = PathLeadsTo f.tree path (link_at at) × IsOfNumber f at

abbrev pub IsNowhere : Tree → List ℕ → EditFault → Type 0
IsNowhere tree path e = first_holding (path_rules tree path) ≡ Some e

-- an object of this number stands there
abbrev pub IsNumber : Tree → List ℕ → ℕ → Type 0
IsNumber tree path number = (first_holding (object_rules tree path) ≡ None) × (object_at tree path ≡ Some number)

-- no object stands there
abbrev pub IsNoObject : Tree → List ℕ → EditFault → Type 0
IsNoObject tree path e = first_holding (object_rules tree path) ≡ Some e

-- ---- a path whose last name may be missing

-- the rules of a path before whose last name a group has to stand
abbrev pub group_rules : Tree → List ℕ → List (EditFault × Bool)
group_rules tree path =
    (fault.BadPath, is_none (names_of path))
    ∷ (fault.PathTooDeep, is_deep path)
    ∷ (fault.NoSuchParent, has_no_parent (location_of tree path))
    ∷ (fault.NotAGroup, has_no_group (location_of tree path))
    ∷ []

-- the path has no name; or the group before its last name has a link of it, which leads to this place; or it has none
abbrev pub IsSpotAt : FileState → List ℕ → Spot → Type 0
IsSpotAt f path spot.Root = names_of path ≡ Some []
IsSpotAt f path (spot.Taken parent name place) =
    (parent_at f.tree path ≡ Some (parent, name.now)) × (location_of f.tree path ≡ Here (link_at place)) × IsOfNumber f place
IsSpotAt f path (spot.Free parent name) = (parent_at f.tree path ≡ Some (parent, name.now)) × (location_of f.tree path ≡ Missing)

-- no rule of these refuses the path, and this is its spot
abbrev pub IsSpotOf : FileState → List ℕ → Spot → Type 0
IsSpotOf f path at = (first_holding (group_rules f.tree path) ≡ None) × IsSpotAt f path at

abbrev pub IsNoSpot : Tree → List ℕ → EditFault → Type 0
IsNoSpot tree path e = first_holding (group_rules tree path) ≡ Some e

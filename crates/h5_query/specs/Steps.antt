-- Where names lead from a place of an opened image.
use Rattle.std.specs.Prelude.{◌≡◌, List, ℕ, ◌∷◌, Some}
use Rattle.h5_model.specs.Tree.Objects.{Tree, Link, ToObject, link_in}
use Rattle.h5_model.specs.Tree.Paths.{Here, Missing, NoParent, NoGroup, missing_before, locate, parent_from}
use Rattle.h5_model.specs.declared.edit_fault.EditFault.{EditFault}
use Rattle.h5_model.specs.declared.edit_fault.EditFault.TheVariants as fault
use Rattle.h5_open.specs.Opened.State.{FileState}
use Rattle.h5_query.specs.declared.place.Spot.{Spot}
use Rattle.h5_query.specs.declared.place.Spot.TheVariants as spot
use Rattle.h5_query.specs.declared.step.Step.{Step}
use Rattle.h5_query.specs.declared.step.Step.TheVariants as step
use Rattle.h5_query.specs.Place.{IsOfNumber, link_at}

-- no group stands behind the link; or it leads to this group, which has no such name, or a link of it to this place
abbrev pub IsPathStep : FileState → Link → List ℕ → Step → Type 0
IsPathStep f link name step.NoGroup = (names : List (List ℕ)) → locate f.tree link (name ∷ names) ≡ NoGroup
IsPathStep f link name (step.Missing parent) =
    (link ≡ ToObject parent) × ((names : List (List ℕ)) → locate f.tree link (name ∷ names) ≡ missing_before names)
IsPathStep f link name (step.To parent place) =
    (link ≡ ToObject parent) × (link_in f.tree parent name ≡ Some (link_at place)) × IsOfNumber f place

-- the names lead from the root to the group before the last one, which has a link of that name to this place, or none of it
abbrev pub IsReached : FileState → List (List ℕ) → Spot → Type 0
IsReached f names spot.Root = ⊥
IsReached f names (spot.Taken parent name place) =
    (parent_from f.tree (ToObject 0) names ≡ Some (parent, name.now)) × (locate f.tree (ToObject 0) names ≡ Here (link_at place))
    × IsOfNumber f place
IsReached f names (spot.Free parent name) =
    (parent_from f.tree (ToObject 0) names ≡ Some (parent, name.now)) × (locate f.tree (ToObject 0) names ≡ Missing)

-- a group before the last name is missing, or is none, which is refused so
abbrev pub IsLost : Tree → List (List ℕ) → EditFault → Type 0
IsLost tree names fault.NoSuchParent = locate tree (ToObject 0) names ≡ NoParent
IsLost tree names fault.NotAGroup = locate tree (ToObject 0) names ≡ NoGroup
IsLost tree names _ = ⊥

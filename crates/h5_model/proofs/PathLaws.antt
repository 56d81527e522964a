-- One walk along a path: what `locate` and `parent_from` find is what `follow` finds.
use Rattle.std.proofs.Common.{◌≡◌, ℕ, List, [], ◌∷◌, length, refl, ap, Some, None, Option, true, false, is_none, is_some, Bool, cond, nat_lt}
use Rattle.std.specs.Option.{option_map_or, option_and_then}
use Rattle.std.specs.FinMap.{get}
use Rattle.h5_model.specs.Tree.Objects.{Tree, Link, ToObject, Soft, follow, links_of}
use Rattle.h5_model.specs.Tree.Paths.{names_of, locate, location_of, Located, Here, Missing, NoParent, NoGroup, NoPath, missing_before, parent_from}
use Rattle.h5_model.specs.declared.edit_fault.EditFault.{EditFault}
use Rattle.h5_model.specs.declared.edit_fault.EditFault.TheVariants as fault
use Rattle.h5_model.specs.Edits.Refusal.{first_holding, is_deep, has_no_parent, has_no_group, is_missing}
use Rattle.h5_model.specs.Scripts.Reading.{path_rules}

abbrev pub found : Located → Option Link
found (Here link) = Some link
found _ = None

none_before : (names : List (List ℕ)) → found (missing_before names) ≡ None
none_before [] = refl
none_before (name ∷ names) = refl

-- what stands at the end of the path is what following it leads to
pub found-locate : (tree : Tree) (link : Link) (names : List (List ℕ)) → found (locate tree link names) ≡ follow tree link names
found-locate tree link [] = refl
found-locate tree (Soft text) (name ∷ names) = refl
found-locate tree (ToObject number) (name ∷ names) = elim (links_of tree number) as (λ o.
    found (option_map_or (λ links. option_map_or (λ link. locate tree link names) (get links name) (missing_before names)) o NoGroup)
    ≡ option_and_then (λ link. follow tree link names) (option_and_then (λ links. get links name) o)) [
      | None ↦ refl
      | Some links ↦ elim (get links name) as (λ o. found (option_map_or (λ link. locate tree link names) o (missing_before names)) ≡ option_and_then (λ link. follow tree link names) o) [
        | None ↦ none_before names
        | Some link ↦ found-locate tree link names
      ]
    ]

-- ---- the refusal of a path

-- the rule of what a path leads to
abbrev pub refusal_at : Located → Option EditFault
refusal_at (Here link) = None
refusal_at Missing = Some fault.NotFound
refusal_at NoParent = Some fault.NoSuchParent
refusal_at NoGroup = Some fault.NotAGroup
refusal_at NoPath = Some fault.BadPath

-- what a path of names leads to
abbrev pub is_place : Located → Bool
is_place NoPath = false
is_place _ = true

before-is_place : (names : List (List ℕ)) → is_place (missing_before names) ≡ true
before-is_place [] = refl
before-is_place (name ∷ names) = refl

pub locate-is_place : (tree : Tree) (link : Link) (names : List (List ℕ)) → is_place (locate tree link names) ≡ true
locate-is_place tree link [] = refl
locate-is_place tree (Soft text) (name ∷ names) = refl
locate-is_place tree (ToObject number) (name ∷ names) = elim (links_of tree number) as (λ o.
    is_place (option_map_or (λ links. option_map_or (λ link. locate tree link names) (get links name) (missing_before names)) o NoGroup) ≡ true) [
      | None ↦ refl
      | Some links ↦ elim (get links name) as (λ o. is_place (option_map_or (λ link. locate tree link names) o (missing_before names)) ≡ true) [
        | None ↦ before-is_place names
        | Some link ↦ locate-is_place tree link names
      ]
    ]

-- the rules of a path of these names that leads there
abbrev rules_at : Bool → Located → List (EditFault × Bool)
rules_at deep at =
    (fault.BadPath, false) ∷ (fault.PathTooDeep, deep) ∷ (fault.NoSuchParent, has_no_parent at) ∷ (fault.NotAGroup, has_no_group at)
    ∷ (fault.NotFound, is_missing at) ∷ []

first_at : (deep : Bool) (at : Located) → is_place at ≡ true → first_holding (rules_at deep at) ≡ cond deep (Some fault.PathTooDeep) (refusal_at at)
first_at true at h = refl
first_at false (Here link) h = refl
first_at false Missing h = refl
first_at false NoParent h = refl
first_at false NoGroup h = refl
first_at false NoPath h = absurd (cc)

-- the first rule that holds of a path is that of what it leads to, but that a deep path is refused as such
pub first_of_path_rules : (tree : Tree) (path : List ℕ)
    → first_holding (path_rules tree path) ≡ cond (is_deep path) (Some fault.PathTooDeep) (refusal_at (location_of tree path))
first_of_path_rules tree path = elim (names_of path) as (λ o.
    let at = option_map_or (λ names. locate tree (ToObject 0) names) o NoPath in
    let deep = option_map_or (λ names. nat_lt 64 (length names)) o false in
    first_holding ((fault.BadPath, is_none o) ∷ (fault.PathTooDeep, deep) ∷ (fault.NoSuchParent, has_no_parent at) ∷ (fault.NotAGroup, has_no_group at)
    ∷ (fault.NotFound, is_missing at) ∷ []) ≡ cond deep (Some fault.PathTooDeep) (refusal_at at)) [
      | None ↦ refl
      | Some names ↦ first_at (nat_lt 64 (length names)) (locate tree (ToObject 0) names) (locate-is_place tree (ToObject 0) names)
    ]

-- ---- the group before the last name

-- what stands in a group at a name
abbrev pub beside : Tree → (ℕ × List ℕ) → Located
beside tree p = option_map_or (λ links. option_map_or (λ link. Here link) (get links p.1) Missing) (links_of tree p.0) NoGroup

-- where a path has a group before its last name, it leads to what stands in that group
pub locate-beside : (tree : Tree) (link : Link) (names : List (List ℕ)) (p : ℕ × List ℕ) → parent_from tree link names ≡ Some p
    → locate tree link names ≡ beside tree p
locate-beside tree link [] p h = absurd (cc)
locate-beside tree (Soft text) (name ∷ names) p h = absurd (cc)
locate-beside tree (ToObject number) (name ∷ []) p h = ap (λ o. option_map_or (beside tree) o NoPath) h
locate-beside tree (ToObject number) (name ∷ next ∷ names) p h = elim (links_of tree number) as (λ o.
    option_and_then (λ link. parent_from tree link (next ∷ names)) (option_and_then (λ links. get links name) o) ≡ Some p
    → option_map_or (λ links. option_map_or (λ link. locate tree link (next ∷ names)) (get links name) NoParent) o NoGroup ≡ beside tree p) [
      | None ↦ λ no. absurd (cc)
      | Some links ↦ elim (get links name) as (λ o. option_and_then (λ link. parent_from tree link (next ∷ names)) o ≡ Some p
          → option_map_or (λ link. locate tree link (next ∷ names)) o NoParent ≡ beside tree p) [
            | None ↦ λ no. absurd (cc)
            | Some link ↦ λ yes. locate-beside tree link (next ∷ names) p yes
          ]
    ] h

-- a last name that stands, or is missing
abbrev pub has_parent : Located → Bool
has_parent (Here link) = true
has_parent Missing = true
has_parent _ = false

-- and below the root such a path has a group before its last name
pub parent_of-has_parent : (tree : Tree) (link : Link) (name : List ℕ) (names : List (List ℕ)) → has_parent (locate tree link (name ∷ names)) ≡ true
    → is_some (parent_from tree link (name ∷ names)) ≡ true
parent_of-has_parent tree (Soft text) name names h = absurd (cc)
parent_of-has_parent tree (ToObject number) name [] h = refl
parent_of-has_parent tree (ToObject number) name (next ∷ names) h = elim (links_of tree number) as (λ o.
    has_parent (option_map_or (λ links. option_map_or (λ link. locate tree link (next ∷ names)) (get links name) NoParent) o NoGroup) ≡ true
    → is_some (option_and_then (λ link. parent_from tree link (next ∷ names)) (option_and_then (λ links. get links name) o)) ≡ true) [
      | None ↦ λ no. absurd (cc)
      | Some links ↦ elim (get links name) as (λ o. has_parent (option_map_or (λ link. locate tree link (next ∷ names)) o NoParent) ≡ true
          → is_some (option_and_then (λ link. parent_from tree link (next ∷ names)) o) ≡ true) [
            | None ↦ λ no. absurd (cc)
            | Some link ↦ λ yes. parent_of-has_parent tree link next names yes
          ]
    ] h

pub located-is_place : (tree : Tree) (path : List ℕ) → is_none (names_of path) ≡ false → is_place (location_of tree path) ≡ true
located-is_place tree path h = elim (names_of path) as (λ o. is_none o ≡ false → is_place (option_map_or (λ names. locate tree (ToObject 0) names) o NoPath) ≡ true) [
  | None ↦ λ no. absurd (cc)
  | Some names ↦ λ _. locate-is_place tree (ToObject 0) names
] h

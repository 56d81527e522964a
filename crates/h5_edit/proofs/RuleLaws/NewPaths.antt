-- The path of a new link: whether it is free, by what it leads to.
use Rattle.std.proofs.Common.{◌≡◌, ℕ, ◌≤◌, ◌<◌, List, [], ◌∷◌, length, refl, sym, ap, ◌∙◌, Bool, true, false, Option, Some, None, arith}
use Rattle.std.specs.Prelude.{nat_lt, ◌==◌, is_none, if◌then◌else◌}
use Rattle.std.specs.Option.{option_map_or, option_and_then}
use Rattle.std.proofs.lemmas.Bool.Decides.{nat_tests}
use Rattle.h5_model.specs.Format.Limits.{most_name_bytes}
use Rattle.h5_model.specs.Tree.Objects.{Tree, Link, ToObject}
use Rattle.h5_model.specs.Tree.Paths.{Located, Here, Missing, NoParent, NoGroup, NoPath, names_of, locate, location_of, parent_from, parent_at}
use Rattle.h5_model.specs.Edits.Refusal.{first_holding, has_no_parent, has_no_group, is_deep, is_here, is_root, last_is_long}
use Rattle.h5_model.specs.declared.edit_fault.EditFault.{EditFault}
use Rattle.h5_model.specs.declared.edit_fault.EditFault.TheVariants as fault
use Rattle.h5_query.specs.Place.{IsNoSpot, group_rules}
use Rattle.h5_query.proofs.PathLaws.{last-parent}
use Rattle.h5_edit.specs.declared.rules.place.NewPlace.{NewPlace}
use Rattle.h5_edit.specs.Refusals.Rules.{path_fault, is_new_fault, IsFreePlace, IsNotFree}

-- ---- the rules of the two tables

-- what is left of the rules where a group stands before the last name
abbrev new_rest : Bool → Located → Bool → Option EditFault
new_rest root at long = if root then Some fault.IsRoot else (if is_here at then Some fault.AlreadyThere else (if long then Some fault.NameTooLong else None))

abbrev new_table : Bool → Bool → Bool → Located → Bool → Option EditFault
new_table bad deep root at long = if bad then Some fault.BadPath else (if deep then Some fault.PathTooDeep else (if root then Some fault.IsRoot else
    (if has_no_parent at then Some fault.NoSuchParent else (if has_no_group at then Some fault.NotAGroup else
    (if is_here at then Some fault.AlreadyThere else (if long then Some fault.NameTooLong else None))))))

abbrev group_table : Bool → Bool → Located → Option EditFault
group_table bad deep at =
    first_holding ((fault.BadPath, bad) ∷ (fault.PathTooDeep, deep) ∷ (fault.NoSuchParent, has_no_parent at) ∷ (fault.NotAGroup, has_no_group at) ∷ [])

table_refused : (bad deep root : Bool) (at : Located) (long : Bool) (e : EditFault) → (root ≡ true → at ≡ Here (ToObject 0)) → group_table bad deep at ≡ Some e
    → new_table bad deep root at long ≡ Some e
table_refused true deep root at long e here h = h
table_refused false true root at long e here h = h
table_refused false false true at long e here h = absurd (let never : None ≡ Some e = sym (ap (group_table false false) (here refl)) ∙ h in cc)
table_refused false false false (Here link) long e here h = absurd (cc)
table_refused false false false Missing long e here h = absurd (cc)
table_refused false false false NoParent long e here h = h
table_refused false false false NoGroup long e here h = h
table_refused false false false NoPath long e here h = absurd (cc)

table_left : (bad deep root : Bool) (at : Located) (long : Bool) → group_table bad deep at ≡ None → new_table bad deep root at long ≡ new_rest root at long
table_left true deep root at long h = absurd (cc)
table_left false true root at long h = absurd (cc)
table_left false false root (Here link) long h = refl
table_left false false root Missing long h = refl
table_left false false root NoParent long h = absurd (cc)
table_left false false root NoGroup long h = absurd (cc)
table_left false false root NoPath long h = refl

-- ---- a path

module _ (tree : Tree) (path : List ℕ) where
  abbrev long : Bool
  long = option_map_or last_is_long (names_of path) false

  -- the path of no name leads to the root
  pub at_root : is_root path ≡ true → location_of tree path ≡ Here (ToObject 0)
  at_root h = elim (names_of path) as (λ o. option_map_or (λ names. length names == 0) o false ≡ true
      → option_map_or (λ names. locate tree (ToObject 0) names) o NoPath ≡ Here (ToObject 0)) [
        | None ↦ λ no. absurd (cc)
        | Some names ↦ λ none. by_names names none
      ] h where
        by_names : (names : List (List ℕ)) → (length names == 0) ≡ true → locate tree (ToObject 0) names ≡ Here (ToObject 0)
        by_names [] none = refl
        by_names (name ∷ names) none = absurd (let some : length (name ∷ names) ≡ 0 = grind (arith, nat_tests) in omega (arith, some))

  pub path_refused : (e : EditFault) → IsNoSpot tree path e → IsNotFree tree path e
  path_refused e h = table_refused (is_none (names_of path)) (is_deep path) (is_root path) (location_of tree path) long e at_root h

  module _ (allowed : first_holding (group_rules tree path) ≡ None) where
    left : path_fault (is_new_fault tree path) ≡ new_rest (is_root path) (location_of tree path) long
    left = table_left (is_none (names_of path)) (is_deep path) (is_root path) (location_of tree path) long allowed

    pub root_refused : names_of path ≡ Some [] → IsNotFree tree path fault.IsRoot
    root_refused none = left ∙ ap (λ root. new_rest root (location_of tree path) long) (ap (λ o. option_map_or (λ names. length names == 0) o false) none)

    module _ (parent : ℕ) (name : List ℕ) (there : parent_at tree path ≡ Some (parent, name)) where
      pub below_root : is_root path ≡ false
      below_root = elim (names_of path) as (λ o. option_and_then (parent_from tree (ToObject 0)) o ≡ Some (parent, name)
          → option_map_or (λ names. length names == 0) o false ≡ false) [
            | None ↦ λ no. absurd (cc)
            | Some names ↦ λ is. by_names names is
          ] there where
            by_names : (names : List (List ℕ)) → parent_from tree (ToObject 0) names ≡ Some (parent, name) → (length names == 0) ≡ false
            by_names [] is = absurd (cc)
            by_names (x ∷ names) is = grind (arith, nat_tests)

      long_is : long ≡ nat_lt most_name_bytes (length name)
      long_is = elim (names_of path) as (λ o. option_and_then (parent_from tree (ToObject 0)) o ≡ Some (parent, name)
          → option_map_or last_is_long o false ≡ nat_lt most_name_bytes (length name)) [
            | None ↦ λ no. absurd (cc)
            | Some names ↦ λ is. ap (λ (last : List ℕ). nat_lt most_name_bytes (length last)) (last-parent tree (ToObject 0) names parent name is)
          ] there

      pub taken_refused : (link : Link) → location_of tree path ≡ Here link → IsNotFree tree path fault.AlreadyThere
      taken_refused link here = left ∙ (λ i. new_rest (below_root i) (here i) long)

      module _ (missing : location_of tree path ≡ Missing) where
        by_length : (b : Bool) → nat_lt most_name_bytes (length name) ≡ b → path_fault (is_new_fault tree path) ≡ new_rest false Missing b
        by_length b is = left ∙ (λ i. new_rest (below_root i) (missing i) ((long_is ∙ is) i))

        pub long_refused : most_name_bytes < length name → IsNotFree tree path fault.NameTooLong
        long_refused over = by_length true (grind (arith, nat_tests))

        pub free_there : (p : NewPlace) → p.parent ≡ parent → p.name.now ≡ name → length name ≤ most_name_bytes → IsFreePlace tree path p
        free_there p number named short = record {
          allowed = by_length false (grind (arith, nat_tests));
          parent = there ∙ (λ i. Some (sym number i, sym named i));
        }

-- How calls that take memory refuse a path: by its rules, of which none is NoMemory.
use Rattle.std.proofs.Common.{◌≡◌, List, [], ◌∷◌, ℕ, refl, ap, Bool, true, false, Some}
use Rattle.std.specs.List.{AllByRecursion}
use Rattle.std.proofs.lemmas.Option.{same_Some}
use Rattle.h5_model.specs.Tree.Objects.{Tree}
use Rattle.h5_model.specs.Tree.Paths.{Located, Here, Missing, NoParent, NoGroup, NoPath, names_of, location_of, links_at}
use Rattle.h5_model.specs.Edits.Refusal.{first_holding, is_deep}
use Rattle.h5_model.specs.Scripts.Reading.{path_rules, list_rules, object_rules}
use Rattle.h5_model.specs.declared.edit_fault.EditFault.{EditFault}
use Rattle.h5_model.specs.declared.edit_fault.EditFault.TheVariants.{NoMemory}
use Rattle.std.specs.Prelude.{is_none}
use Rattle.h5_query.specs.Found.{IsUnfound}
use Rattle.h5_query.specs.Look.{IsListRefused, IsUnlisted}
use Rattle.h5_query.proofs.RuleLaws.{path_table, list_table}

abbrev is_memory : EditFault → Bool
is_memory NoMemory = true
is_memory _ = false

never_memory : (rules : List (EditFault × Bool)) → AllByRecursion (λ (rule : EditFault × Bool). is_memory rule.0 ≡ false) rules → first_holding rules ≡ Some NoMemory → ⊥
never_memory [] each h = cc
never_memory ((f, true) ∷ rules) each h = let same : is_memory f ≡ true = ap is_memory (same_Some f NoMemory h) in let other : is_memory f ≡ false = each.0 in cc
never_memory ((f, false) ∷ rules) each h = never_memory rules each.1 h

-- where a path is refused, so is a list of what it leads to
lost_list : (bad deep : Bool) (at : Located) (other : Bool) (e : EditFault) → path_table bad deep at ≡ Some e → list_table bad deep at other ≡ Some e
lost_list true deep at other e h = h
lost_list false true at other e h = h
lost_list false false (Here link) other e h = absurd (cc)
lost_list false false Missing other e h = h
lost_list false false NoParent other e h = h
lost_list false false NoGroup other e h = h
lost_list false false NoPath other e h = absurd (cc)

module _ (tree : Tree) (path : List ℕ) where
  pub unfound : (e : EditFault) → first_holding (path_rules tree path) ≡ Some e → IsUnfound tree path e
  unfound NoMemory h = absurd (never_memory (path_rules tree path) (refl, (refl, (refl, (refl, (refl, tt))))) h)
  unfound e h = h

  pub unlisted : (e : EditFault) → first_holding (object_rules tree path) ≡ Some e → IsUnlisted tree path e
  unlisted NoMemory h = absurd (never_memory (object_rules tree path) (refl, (refl, (refl, (refl, (refl, (refl, tt)))))) h)
  unlisted e h = h

  named : (e : EditFault) → first_holding (list_rules tree path) ≡ Some e → IsListRefused tree path e
  named NoMemory h = absurd (never_memory (list_rules tree path) (refl, (refl, (refl, (refl, (refl, tt))))) h)
  named e h = h

  pub list_refused : (e : EditFault) → first_holding (path_rules tree path) ≡ Some e → IsListRefused tree path e
  list_refused e h = named e (lost_list (is_none (names_of path)) (is_deep path) (location_of tree path) (is_none (links_at tree path)) e h)

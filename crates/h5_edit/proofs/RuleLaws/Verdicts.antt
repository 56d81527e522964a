-- Why edits are refused, or that they are not, by what was looked at.
use Rattle.std.proofs.Common.{◌≡◌, ℕ, List, [], ◌∷◌, ◌++◌, refl, sym, ap, ◌∙◌, Bool, not, true, false, Option, Some, None, Result, Ok, Err}
use Rattle.std.specs.Prelude.{MatchResult, nat_le, is_some, if◌then◌else◌}
use Rattle.std.specs.FinMap.{get}
use Rattle.h5_model.specs.Format.Limits.{most_numbers}
use Rattle.h5_model.specs.Tree.Objects.{Tree, Object, Attribute, ToObject}
use Rattle.h5_model.specs.Tree.Paths.{location_of, object_at}
use Rattle.h5_model.specs.Scripts.Reading as reading
use Rattle.h5_model.specs.Edits.Refusal.{refusal_of, first_holding, is_soft}
use Rattle.h5_model.specs.declared.attribute.AttrSpec.{AttrSpec}
use Rattle.h5_model.specs.declared.dataset.Spec.{Spec}
use Rattle.h5_model.specs.declared.edits.Edit.TheVariants.{CreateGroup, CreateDataset, HardLink, SoftLink, SetAttr, RemoveAttr}
use Rattle.h5_model.specs.declared.edit_fault.EditFault.{EditFault}
use Rattle.h5_model.specs.declared.edit_fault.EditFault.TheVariants as fault
use Rattle.h5_query.specs.Place.{PathLeadsTo, IsNoObject}
use Rattle.h5_query.proofs.RuleLaws.{first-behind, first-found}
use Rattle.h5_edit.specs.declared.rules.place.NewPlace.{NewPlace}
use Rattle.h5_edit.specs.Refusals.Allowed.{IsPlaceAllowed, IsLinkPlaced, IsAt, IsRuledOut}
use Rattle.h5_edit.specs.Refusals.Rules.{path_fault, is_new_fault, is_object_fault, is_text_fault, lower_of, lower_fault, IsFreePlace, IsNotFree, own_rules, spec_rules, number_rules, target_rules}
use Rattle.h5_edit.proofs.RuleLaws.FaultLaws.{behind}
use Rattle.h5_edit.proofs.RuleLaws.TableLaws.{group_table, array_table, hard_table, target_asked, soft_table, set_table, remove_table, missing_rules, object_fault}

-- ---- what comes behind the paths

-- all numbers of objects are given out, or not
used_up : (next : ℕ) → nat_le most_numbers next ≡ true → first_holding (number_rules next) ≡ Some fault.TooManyObjects
used_up next many = rw many refl

left_over : (next : ℕ) → nat_le most_numbers next ≡ false → first_holding (number_rules next) ≡ None
left_over next few = rw few refl

module _ (tree : Tree) (next : ℕ) (path : List ℕ) where
  -- ---- new groups

  pub group_refused : (e : EditFault) → IsNotFree tree path e → IsRuledOut tree next (CreateGroup path) e
  group_refused e h = group_table tree next path ∙ ap (λ o. behind o (first_holding (number_rules next))) h

  module _ (p : NewPlace) (free : IsFreePlace tree path p) where
    group_behind : refusal_of tree next (CreateGroup path) ≡ first_holding (number_rules next)
    group_behind = group_table tree next path ∙ ap (λ o. behind o (first_holding (number_rules next))) free.allowed

    pub no_group_left : nat_le most_numbers next ≡ true → IsRuledOut tree next (CreateGroup path) fault.TooManyObjects
    no_group_left many = group_behind ∙ used_up next many

    pub group_placed : nat_le most_numbers next ≡ false → IsPlaceAllowed tree next path (CreateGroup path) p
    group_placed few = record { allowed = group_behind ∙ left_over next few; parent = free.parent }

  -- ---- new arrays

  module _ (spec : Spec) where
    abbrev array_rules : List (EditFault × Bool)
    array_rules = spec_rules spec ++ number_rules next

    pub array_refused : (e : EditFault) → IsNotFree tree path e → IsRuledOut tree next (CreateDataset path spec) e
    array_refused e h = array_table tree next path spec ∙ ap (λ o. behind o (first_holding array_rules)) h

    module _ (p : NewPlace) (free : IsFreePlace tree path p) where
      array_behind : refusal_of tree next (CreateDataset path spec) ≡ first_holding array_rules
      array_behind = array_table tree next path spec ∙ ap (λ o. behind o (first_holding array_rules)) free.allowed

      pub spec_refused : (e : EditFault) → first_holding (spec_rules spec) ≡ Some e → IsRuledOut tree next (CreateDataset path spec) e
      spec_refused e h = array_behind ∙ first-found (spec_rules spec) (number_rules next) e h

      module _ (allowed : first_holding (spec_rules spec) ≡ None) where
        numbered : refusal_of tree next (CreateDataset path spec) ≡ first_holding (number_rules next)
        numbered = array_behind ∙ first-behind (spec_rules spec) (number_rules next) allowed

        pub no_array_left : nat_le most_numbers next ≡ true → IsRuledOut tree next (CreateDataset path spec) fault.TooManyObjects
        no_array_left many = numbered ∙ used_up next many

        pub array_placed : nat_le most_numbers next ≡ false → IsPlaceAllowed tree next path (CreateDataset path spec) p
        array_placed few = record { allowed = numbered ∙ left_over next few; parent = free.parent }

  -- ---- new soft links

  module _ (text : List ℕ) where
    by_faults : (a b : Option EditFault) → path_fault (is_text_fault text) ≡ a → path_fault (is_new_fault tree path) ≡ b
        → refusal_of tree next (SoftLink text path) ≡ behind (lower_of a b) None
    by_faults a b texts paths = soft_table tree next path text ∙ (λ i. behind (lower_of (texts i) (paths i)) None)

    pub text_refused : (p : NewPlace) (e : EditFault) → IsFreePlace tree path p → path_fault (is_text_fault text) ≡ Some e → IsRuledOut tree next (SoftLink text path) e
    text_refused p e free h = by_faults (Some e) None h free.allowed

    pub both_refused : (e f : EditFault) → path_fault (is_text_fault text) ≡ Some e → IsNotFree tree path f → IsRuledOut tree next (SoftLink text path) (lower_fault e f)
    both_refused e f h g = by_faults (Some e) (Some f) h g

    module _ (allowed : path_fault (is_text_fault text) ≡ None) where
      soft_refused : (f : EditFault) → IsNotFree tree path f → IsRuledOut tree next (SoftLink text path) f
      soft_refused f g = by_faults None (Some f) allowed g

      soft_placed : (p : NewPlace) → IsFreePlace tree path p → IsPlaceAllowed tree next path (SoftLink text path) p
      soft_placed p free = record { allowed = by_faults None None allowed free.allowed; parent = free.parent }

      -- where the text is allowed, the path decides
      pub soft_answered : (r : Result NewPlace EditFault) → MatchResult r (IsFreePlace tree path) (IsNotFree tree path)
          → MatchResult r (IsPlaceAllowed tree next path (SoftLink text path)) (IsRuledOut tree next (SoftLink text path))
      soft_answered (Ok p) free = soft_placed p free
      soft_answered (Err e) h = soft_refused e h

  -- ---- an object that stands at a path

  pub object_refused : (e : EditFault) → IsNoObject tree path e → path_fault (is_object_fault tree path) ≡ Some e
  object_refused e h = sym (object_fault tree path) ∙ h

  module _ (number : ℕ) (leads : PathLeadsTo tree path (ToObject number)) where
    pub object_allowed : path_fault (is_object_fault tree path) ≡ None
    object_allowed =
        sym (object_fault tree path)
        ∙ first-behind (reading.path_rules tree path) ((fault.NotFound, is_soft (location_of tree path)) ∷ []) leads.0
        ∙ rw leads.1 refl

    pub object_is : object_at tree path ≡ Some number
    object_is = rw leads.1 refl

  -- ---- attributes that are set

  module _ (attr : AttrSpec) where
    pub set_refused : (e : EditFault) → IsNoObject tree path e → IsRuledOut tree next (SetAttr path attr) e
    set_refused e h = set_table tree next path attr ∙ ap (λ o. behind o (first_holding (own_rules attr))) (object_refused e h)

    module _ (number : ℕ) (leads : PathLeadsTo tree path (ToObject number)) where
      set_behind : refusal_of tree next (SetAttr path attr) ≡ first_holding (own_rules attr)
      set_behind = set_table tree next path attr ∙ ap (λ o. behind o (first_holding (own_rules attr))) (object_allowed number leads)

      pub own_refused : (e : EditFault) → first_holding (own_rules attr) ≡ Some e → IsRuledOut tree next (SetAttr path attr) e
      own_refused e h = set_behind ∙ h

      pub set_at : first_holding (own_rules attr) ≡ None → IsAt tree next path (SetAttr path attr) number
      set_at h = record { allowed = set_behind ∙ h; object = object_is number leads }

  -- ---- attributes that are removed

  module _ (name : List ℕ) where
    pub remove_refused : (e : EditFault) → IsNoObject tree path e → IsRuledOut tree next (RemoveAttr path name) e
    remove_refused e h = remove_table tree next path name ∙ ap (λ o. behind o (first_holding (missing_rules tree next path name))) (object_refused e h)

    module _ (number : ℕ) (leads : PathLeadsTo tree path (ToObject number)) (o : Object) (there : get tree number ≡ Some o) where
      by_entry : (entry : Option Attribute) → get o.attributes name ≡ entry → refusal_of tree next (RemoveAttr path name) ≡ (if is_some entry then None else Some fault.NoSuchAttribute)
      by_entry entry got =
          remove_table tree next path name
          ∙ ap (λ f. behind f (first_holding (missing_rules tree next path name))) (object_allowed number leads)
          ∙ rw (leads.1, there, got) (by_got entry) where
            by_got : (entry : Option Attribute) → (if not (is_some entry) then Some fault.NoSuchAttribute else None) ≡ (if is_some entry then None else Some fault.NoSuchAttribute)
            by_got None = refl
            by_got (Some a) = refl

      pub name_refused : get o.attributes name ≡ None → IsRuledOut tree next (RemoveAttr path name) fault.NoSuchAttribute
      name_refused none = by_entry None none

      pub removed_at : (a : Attribute) → get o.attributes name ≡ Some a → IsAt tree next path (RemoveAttr path name) number
      removed_at a got = record { allowed = by_entry (Some a) got; object = object_is number leads }

-- ---- new hard links

module _ (tree : Tree) (next : ℕ) (target path : List ℕ) where
  by_paths : (a b : Option EditFault) → path_fault (is_object_fault tree target) ≡ a → path_fault (is_new_fault tree path) ≡ b
      → refusal_of tree next (HardLink target path) ≡ behind (lower_of a b) (first_holding (target_asked tree next path target))
  by_paths a b targets paths = hard_table tree next path target ∙ (λ i. behind (lower_of (targets i) (paths i)) (first_holding (target_asked tree next path target)))

  pub target_refused : (p : NewPlace) (e : EditFault) → IsNoObject tree target e → IsFreePlace tree path p → IsRuledOut tree next (HardLink target path) e
  target_refused p e h free = by_paths (Some e) None (object_refused tree next target e h) free.allowed

  pub paths_refused : (e f : EditFault) → IsNoObject tree target e → IsNotFree tree path f → IsRuledOut tree next (HardLink target path) (lower_fault e f)
  paths_refused e f h g = by_paths (Some e) (Some f) (object_refused tree next target e h) g

  module _ (number : ℕ) (leads : PathLeadsTo tree target (ToObject number)) where
    pub hard_refused : (f : EditFault) → IsNotFree tree path f → IsRuledOut tree next (HardLink target path) f
    hard_refused f g = by_paths None (Some f) (object_allowed tree next target number leads) g

    module _ (p : NewPlace) (free : IsFreePlace tree path p) where
      hard_behind : refusal_of tree next (HardLink target path) ≡ first_holding (target_rules tree number)
      hard_behind = by_paths None None (object_allowed tree next target number leads) free.allowed ∙ rw leads.1 refl

      pub link_refused : (e : EditFault) → first_holding (target_rules tree number) ≡ Some e → IsRuledOut tree next (HardLink target path) e
      link_refused e h = hard_behind ∙ h

      pub link_placed : first_holding (target_rules tree number) ≡ None → IsLinkPlaced tree next target path (HardLink target path) (number, p)
      link_placed h = (object_is tree next target number leads, record { allowed = hard_behind ∙ h; parent = free.parent })

-- Why an unlink is refused, or that it is not, by what stands at its path.
use Rattle.std.proofs.Common.{◌≡◌, ℕ, List, [], ◌∷◌, length, refl, sym, ap, ◌∙◌, Bool, true, false, Option, Some, None}
use Rattle.std.specs.Prelude.{◌||◌, ◌==◌, is_none}
use Rattle.std.specs.Option.{option_map_or}
use Rattle.h5_model.specs.Tree.Objects.{Tree, Link, ToObject, object_of}
use Rattle.h5_model.specs.Tree.Paths.{Located, Here, Missing, NoParent, NoGroup, NoPath, names_of, location_of, parent_at}
use Rattle.h5_model.specs.Edits.Refusal.{refusal_of, first_holding, is_deep, is_root, has_no_parent, has_no_group, is_missing}
use Rattle.h5_model.specs.declared.edits.Edit.TheVariants.{Unlink}
use Rattle.h5_model.specs.declared.edit_fault.EditFault.{EditFault}
use Rattle.h5_model.specs.declared.edit_fault.EditFault.TheVariants as fault
use Rattle.h5_query.specs.Place.{IsNoSpot, group_rules}
use Rattle.h5_edit.specs.Refusals.Removed.{IsRemoval}
use Rattle.h5_edit.specs.declared.rules.unlink.Removal.{Removal}
use Rattle.h5_edit.proofs.RuleLaws.NewPaths.{at_root, below_root}

-- ---- the rules

abbrev table_of : Bool → Bool → Bool → Bool → Bool → Bool → Option EditFault
table_of bad deep root parent group missing =
    first_holding ((fault.BadPath, bad) ∷ (fault.PathTooDeep, deep) ∷ (fault.IsRoot, root) ∷ (fault.NoSuchParent, parent) ∷ (fault.NotAGroup, group) ∷ (fault.NotFound, missing) ∷ [])

-- by what the path leads to
abbrev verdict : Bool → Bool → Bool → Located → Option EditFault
verdict bad deep root at = table_of bad deep root (has_no_parent at) (has_no_group at) (is_missing at)

abbrev spot_table : Bool → Bool → Located → Option EditFault
spot_table bad deep at =
    first_holding ((fault.BadPath, bad) ∷ (fault.PathTooDeep, deep) ∷ (fault.NoSuchParent, has_no_parent at) ∷ (fault.NotAGroup, has_no_group at) ∷ [])

refused_before : (bad deep root : Bool) (at : Located) (e : EditFault) → (root ≡ true → at ≡ Here (ToObject 0)) → spot_table bad deep at ≡ Some e
    → verdict bad deep root at ≡ Some e
refused_before true deep root at e here h = h
refused_before false true root at e here h = h
refused_before false false true at e here h = absurd (let never : None ≡ Some e = sym (ap (spot_table false false) (here refl)) ∙ h in cc)
refused_before false false false (Here link) e here h = absurd (cc)
refused_before false false false Missing e here h = absurd (cc)
refused_before false false false NoParent e here h = h
refused_before false false false NoGroup e here h = h
refused_before false false false NoPath e here h = absurd (cc)

-- what is left of them where a group stands before the last name
abbrev rest_of : Bool → Located → Option EditFault
rest_of root at = first_holding ((fault.IsRoot, root) ∷ (fault.NotFound, is_missing at) ∷ [])

left_of_table : (bad deep root : Bool) (at : Located) → spot_table bad deep at ≡ None → verdict bad deep root at ≡ rest_of root at
left_of_table true deep root at h = absurd (cc)
left_of_table false true root at h = absurd (cc)
left_of_table false false root (Here link) h = refl
left_of_table false false root Missing h = refl
left_of_table false false root NoParent h = absurd (cc)
left_of_table false false root NoGroup h = absurd (cc)
left_of_table false false root NoPath h = refl

thrice : (b : Bool) → (((b || false) || false) || false) ≡ b
thrice true = refl
thrice false = refl

twice : (b : Bool) → ((b || false) || false) ≡ b
twice true = refl
twice false = refl

module _ (tree : Tree) (next : ℕ) (path : List ℕ) where
  abbrev at : Located
  at = location_of tree path

  unlink_table : refusal_of tree next (Unlink path) ≡ verdict (is_none (names_of path)) (is_deep path) (is_root path) at
  unfolding refusal_of
  unlink_table = λ i. table_of (thrice (is_none (names_of path)) i) (twice (is_deep path) i) (is_root path) (twice (has_no_parent at) i) (twice (has_no_group at) i) (twice (is_missing at) i)

  pub spot_refused : (e : EditFault) → IsNoSpot tree path e → refusal_of tree next (Unlink path) ≡ Some e
  spot_refused e h = unlink_table ∙ refused_before (is_none (names_of path)) (is_deep path) (is_root path) at e (at_root tree path) h

  module _ (allowed : first_holding (group_rules tree path) ≡ None) where
    rest : refusal_of tree next (Unlink path) ≡ rest_of (is_root path) at
    rest = unlink_table ∙ left_of_table (is_none (names_of path)) (is_deep path) (is_root path) at allowed

    pub root_kept : names_of path ≡ Some [] → refusal_of tree next (Unlink path) ≡ Some fault.IsRoot
    root_kept none = rest ∙ ap (λ (root : Bool). rest_of root at) (ap (λ o. option_map_or (λ names. length names == 0) o false) none)

    module _ (parent : ℕ) (name : List ℕ) (there : parent_at tree path ≡ Some (parent, name)) where
      below : is_root path ≡ false
      below = below_root tree path allowed parent name there

      pub missing_refused : at ≡ Missing → refusal_of tree next (Unlink path) ≡ Some fault.NotFound
      missing_refused none = rest ∙ (λ i. rest_of (below i) (none i))

      pub removed : (link : Link) → at ≡ Here link → (r : Removal) → r.parent ≡ parent → r.name.now ≡ name → r.object ≡ object_of link → IsRemoval tree next path r
      removed link here r number named leads = record {
        allowed = rest ∙ (λ i. rest_of (below i) (here i));
        parent = there ∙ (λ i. Some (sym number i, sym named i));
        link = link;
        stands = here;
        leads = leads;
      }

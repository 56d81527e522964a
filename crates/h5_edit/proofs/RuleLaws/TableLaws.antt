-- Which rule refuses an edit: one of its paths, or one of those behind them.
use Rattle.std.proofs.Common.{◌≡◌, ℕ, List, [], ◌∷◌, ◌++◌, refl, ap, ◌∙◌, Bool, true, false, not, None}
use Rattle.std.proofs.Math.Bool.{or-false}
use Rattle.std.specs.Prelude.{◌||◌, is_none, is_some}
use Rattle.std.specs.FinMap.{get, contains_key}
use Rattle.std.specs.List.{list_any}
use Rattle.std.specs.Option.{option_map_or, option_and_then}
use Rattle.h5_model.specs.Tree.Objects.{Tree, Object}
use Rattle.h5_model.specs.Tree.Paths.{names_of, location_of, object_at, links_at}
use Rattle.h5_model.specs.Scripts.Reading as reading
use Rattle.h5_model.specs.Edits.Refusal.{refusal_of, first_holding, some_path, bad_text, is_deep, is_root, unlinks_root, new_path, has_no_parent, has_no_group, not_found, is_missing, is_here, is_soft, is_long, has_many_links}
use Rattle.h5_model.specs.declared.attribute.AttrSpec.{AttrSpec}
use Rattle.h5_model.specs.declared.dataset.Spec.{Spec}
use Rattle.h5_model.specs.declared.edits.Edit.{Edit}
use Rattle.h5_model.specs.declared.edits.Edit.TheVariants.{CreateGroup, CreateDataset, HardLink, SoftLink, SetAttr, RemoveAttr}
use Rattle.h5_model.specs.declared.edit_fault.EditFault.{EditFault}
use Rattle.h5_model.specs.declared.edit_fault.EditFault.TheVariants as fault
use Rattle.h5_edit.specs.Refusals.Rules.{path_faults, path_fault, is_new_fault, is_object_fault, is_text_fault, lower_of, own_rules, spec_rules, number_rules}
use Rattle.h5_edit.proofs.RuleLaws.FaultLaws.{behind, found_behind, lower_first}

-- the rules of an edit's paths, names and text, as the table asks them
abbrev asked : Tree → Edit → EditFault → Bool
asked tree edit fault.BadPath = some_path (λ p. is_none (names_of p)) edit || bad_text edit
asked tree edit fault.PathTooDeep = some_path is_deep edit
asked tree edit fault.IsRoot = list_any is_root (new_path edit) || unlinks_root edit
asked tree edit fault.NoSuchParent = some_path (λ p. has_no_parent (location_of tree p)) edit
asked tree edit fault.NotAGroup = some_path (λ p. has_no_group (location_of tree p)) edit
asked tree edit fault.NotFound = not_found tree edit
asked tree edit fault.AlreadyThere = list_any (λ p. is_here (location_of tree p)) (new_path edit)
asked tree edit fault.NameTooLong = is_long edit
asked tree edit _ = false

module _ (tree : Tree) (next : ℕ) (path : List ℕ) where
  -- ---- new groups and arrays

  pub group_table : refusal_of tree next (CreateGroup path) ≡ behind (path_fault (is_new_fault tree path)) (first_holding (number_rules next))
  unfolding refusal_of
  group_table =
      found_behind path_faults (asked tree (CreateGroup path)) (is_new_fault tree path) (first_holding (number_rules next))
      (simp or-false, (simp or-false, (simp or-false, (simp or-false, (simp or-false, (refl, (simp or-false, (simp or-false, tt))))))))

  module _ (spec : Spec) where
    abbrev array_rules : List (EditFault × Bool)
    array_rules = spec_rules spec ++ number_rules next

    pub array_table : refusal_of tree next (CreateDataset path spec) ≡ behind (path_fault (is_new_fault tree path)) (first_holding array_rules)
    unfolding refusal_of
    array_table =
        found_behind path_faults (asked tree (CreateDataset path spec)) (is_new_fault tree path) (first_holding array_rules)
        (simp or-false, (simp or-false, (simp or-false, (simp or-false, (simp or-false, (refl, (simp or-false, (simp or-false, tt))))))))

  -- ---- new links

  module _ (target : List ℕ) where
    abbrev pub target_asked : List (EditFault × Bool)
    target_asked = (fault.GroupLink, is_some (links_at tree target)) ∷ (fault.TooManyLinks, has_many_links tree (HardLink target path)) ∷ []

    pub hard_table : refusal_of tree next (HardLink target path)
        ≡ behind (lower_of (path_fault (is_object_fault tree target)) (path_fault (is_new_fault tree path))) (first_holding target_asked)
    unfolding refusal_of
    hard_table =
        found_behind path_faults (asked tree (HardLink target path)) (λ f. is_object_fault tree target f || is_new_fault tree path f) (first_holding target_asked)
        (simp or-false, (simp or-false, (simp or-false, (simp or-false, (simp or-false, (refl, (simp or-false, (simp or-false, tt))))))))
        ∙ ap (λ o. behind o (first_holding target_asked)) (lower_first (is_object_fault tree target) (is_new_fault tree path))

  module _ (text : List ℕ) where
    pub soft_table : refusal_of tree next (SoftLink text path) ≡ behind (lower_of (path_fault (is_text_fault text)) (path_fault (is_new_fault tree path))) None
    unfolding refusal_of
    soft_table =
        found_behind path_faults (asked tree (SoftLink text path)) (λ f. is_text_fault text f || is_new_fault tree path f) None
        (turned (is_none (names_of path)) _, (simp or-false, (simp or-false, (simp or-false, (simp or-false, (refl, (simp or-false, (refl, tt))))))))
        ∙ ap (λ o. behind o None) (lower_first (is_text_fault text) (is_new_fault tree path)) where
          turned : (a b : Bool) → ((a || false) || b) ≡ (b || a)
          turned true true = refl
          turned true false = refl
          turned false true = refl
          turned false false = refl

  -- ---- attributes

  abbrev object_faults : List EditFault
  object_faults = fault.BadPath ∷ fault.PathTooDeep ∷ fault.IsRoot ∷ fault.NoSuchParent ∷ fault.NotAGroup ∷ fault.NotFound ∷ []

  pub set_table : (attr : AttrSpec) → refusal_of tree next (SetAttr path attr) ≡ behind (path_fault (is_object_fault tree path)) (first_holding (own_rules attr))
  unfolding refusal_of
  set_table attr =
      found_behind object_faults (asked tree (SetAttr path attr)) (is_object_fault tree path) (first_holding (own_rules attr))
      (simp or-false, (simp or-false, (refl, (simp or-false, (simp or-false, (simp or-false, tt))))))

  module _ (name : List ℕ) where
    abbrev pub lacks : Object → Bool
    lacks o = not (contains_key o.attributes name)

    abbrev pub missing_rules : List (EditFault × Bool)
    missing_rules = (fault.NoSuchAttribute, option_map_or lacks (option_and_then (get tree) (object_at tree path)) false) ∷ []

    pub remove_table : refusal_of tree next (RemoveAttr path name) ≡ behind (path_fault (is_object_fault tree path)) (first_holding missing_rules)
    unfolding refusal_of
    remove_table =
        found_behind object_faults (asked tree (RemoveAttr path name)) (is_object_fault tree path) (first_holding missing_rules)
        (simp or-false, (simp or-false, (refl, (simp or-false, (simp or-false, (simp or-false, tt))))))

-- ---- the path of an object

object_table : (bad deep parent group missing soft : Bool)
    → first_holding ((fault.BadPath, bad) ∷ (fault.PathTooDeep, deep) ∷ (fault.NoSuchParent, parent) ∷ (fault.NotAGroup, group) ∷ (fault.NotFound, missing) ∷ (fault.NotFound, soft) ∷ [])
    ≡ first_holding ((fault.BadPath, bad) ∷ (fault.PathTooDeep, deep) ∷ (fault.NoSuchParent, parent) ∷ (fault.NotAGroup, group) ∷ (fault.NotFound, missing || soft) ∷ [])
object_table true deep parent group missing soft = refl
object_table false true parent group missing soft = refl
object_table false false true group missing soft = refl
object_table false false false true missing soft = refl
object_table false false false false true soft = refl
object_table false false false false false soft = refl

-- the rules of a path to an object, as those who look at it ask them
pub object_fault : (tree : Tree) (path : List ℕ) → first_holding (reading.object_rules tree path) ≡ path_fault (is_object_fault tree path)
object_fault tree path =
    object_table (is_none (names_of path)) (is_deep path) (has_no_parent (location_of tree path)) (has_no_group (location_of tree path)) (is_missing (location_of tree path)) (is_soft (location_of tree path))

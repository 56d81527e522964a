-- The tree with an object that no link leads from more, and with the link to it in one of its groups.
use Rattle.std.proofs.Common.{◌≡◌, ℕ, ◌+◌, List, sym, ap, ◌∙◌, Option, Some, None}
use Rattle.std.specs.Option.{option_map_or}
use Rattle.std.specs.FinMap.{get, insert}
use Rattle.h5_model.specs.Edits.Applied.{with_links}
use Rattle.h5_model.specs.Tree.Objects.{Tree, Object, Links, ToObject, hard_links, link_in}
use Rattle.h5_laws.specs.Trees.Sound.{IsSoundTree}
use Rattle.h5_laws.proofs.SoundLaws.Counts.{adds, none_named}
use Rattle.h5_laws.proofs.SoundLaws.Inserted.{number_here, number_other}
use Rattle.h5_laws.proofs.SoundLaws.Linked.{IsBare, grown_new, linked_one_more, none_some, one_more}
use Rattle.h5_laws.proofs.SoundLaws.LinksThere.{GroupAt, link_is}
use Rattle.h5_open.specs.ObjectAdded.{tree_with}

module _ (tree : Tree) (parent : ℕ) (name : List ℕ) (number : ℕ) (object : Object) (group : GroupAt tree parent) (free : link_in tree parent name ≡ None)
    (unused : get tree number ≡ None) (bare : IsBare object) where
  abbrev change : Links → Links
  change links = insert links name (ToObject number)

  abbrev tree' : Tree
  tree' = tree_with tree parent name number object

  free_name : get group.links name ≡ None
  free_name = sym (link_is tree parent group name) ∙ free

  abbrev linked : Tree
  linked = one_more tree parent name (ToObject number) group free_name

  tree_is : tree' ≡ insert linked number object
  tree_is =
      ap (λ (t : Tree). insert t number object)
      (ap (λ (found : Option Object). option_map_or (λ (o : Object). insert tree parent (with_links change o)) found tree) group.stands)

  by_tree : (n : ℕ) → get tree' n ≡ get (insert linked number object) n
  by_tree n = ap (λ (t : Tree). get t n) tree_is

  -- ---- its objects

  pub with_here : get tree' number ≡ Some object
  with_here = by_tree number ∙ number_here linked number object

  pub with_group : (parent ≡ number → ⊥) → get tree' parent ≡ Some (with_links change group.object)
  with_group other = by_tree parent ∙ number_other linked number object parent other ∙ number_here tree parent (with_links change group.object)

  pub with_others : (n : ℕ) → (n ≡ number → ⊥) → (n ≡ parent → ⊥) → get tree' n ≡ get tree n
  with_others n new other = by_tree n ∙ number_other linked number object n new ∙ number_other tree parent (with_links change group.object) n other

  -- ---- links to them

  pub with_counts : (n : ℕ) → hard_links tree' n ≡ hard_links tree n + adds n (ToObject number)
  with_counts n =
      ap (λ (t : Tree). hard_links t n) tree_is
      ∙ (grown_new tree linked parent name number object (linked_one_more tree parent name (ToObject number) group free_name) unused bare).counts n

  -- none led to a number that was not used
  pub none_led : IsSoundTree tree → hard_links tree number ≡ 0
  none_led sound = none_named tree number (λ a x there. none_some (get tree number) unused (sound.linked a number x there))

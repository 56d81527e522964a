-- The tree of an opened image in which one group has one link more.
use Rattle.std.proofs.Common.{◌≡◌, ℕ, ◌+◌, List, sym, ap, ◌∙◌, Option, None}
use Rattle.std.specs.BTreeMap.{BTreeMap}
use Rattle.std.specs.FinMap.{get, insert}
use Rattle.h5_bytes.specs.declared.Block.{Block}
use Rattle.h5_model.specs.Edits.Applied.{with_links}
use Rattle.h5_model.specs.Format.Addresses.{SymbolTable}
use Rattle.h5_model.specs.Format.Symbols.{Target}
use Rattle.h5_model.specs.Tree.Objects.{Tree, Link, hard_links, link_in, with_object}
use Rattle.h5_space.specs.Space.{Space}
use Rattle.h5_laws.proofs.SoundLaws.Counts.{adds}
use Rattle.h5_laws.proofs.SoundLaws.Linked.{linked_one_more}
use Rattle.h5_laws.proofs.SoundLaws.LinksThere.{GroupAt, link_is}
use Rattle.h5_open.specs.declared.opened.object.OpenedObject.{OpenedObject}
use Rattle.h5_open.specs.Opened.Kept.{IsOpened}
use Rattle.h5_open.specs.Opened.Objects.{link_to, table_of, tree_of}
use Rattle.h5_open.proofs.GroupLinked.{IsGroupLinked, with_one, relinked}
use Rattle.h5_open.proofs.RelinkedTree.{group_there, relinked_tree}

module _ (old mid new : Space) (slots : List (Option OpenedObject)) (numbers : BTreeMap ℕ ℕ) (opened : IsOpened old slots numbers) (parent : ℕ) (p : OpenedObject) (t : SymbolTable)
    (name : List ℕ) (target : Target) (written : List Block) (is : IsGroupLinked old mid new slots parent p t name target written)
    (free : link_in (tree_of old.bytes slots) parent name ≡ None) where
  abbrev tree : Tree
  tree = tree_of old.bytes slots

  abbrev link : Link
  link = link_to (table_of slots) target

  abbrev tree' : Tree
  tree' = with_object tree parent (with_links (λ links. insert links name link))

  abbrev group : GroupAt tree parent
  group = group_there old slots numbers opened parent p t is.group is.kind

  new_name : get group.links name ≡ None
  new_name = sym (link_is tree parent group name) ∙ free

  pub linked_counts : (n : ℕ) → hard_links tree' n ≡ hard_links tree n + adds n link
  linked_counts n =
      ap (λ (x : Tree). hard_links x n)
      (relinked_tree old mid new slots numbers opened parent p t written (with_one (table_of slots) name target)
      (relinked old mid new slots numbers opened parent p t name target written is))
      ∙ (linked_one_more tree parent name link group new_name).counts n

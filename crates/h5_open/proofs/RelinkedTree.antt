-- The tree of an opened image in which the links of one group were changed, and that group in it.
use Rattle.std.proofs.Common.{◌≡◌, ℕ, ◌+◌, ◌==◌, List, [], sym, ap, ◌∙◌, arith, Option, Some}
use Rattle.std.specs.Prelude.{slice_get, if◌then◌else◌}
use Rattle.std.specs.Option.{option_map_or}
use Rattle.std.specs.Ordering.{nat_cmp}
use Rattle.std.specs.BTreeMap.{BTreeMap}
use Rattle.std.specs.FinMap.{FinMap, get, insert}
use Rattle.std.specs.List.{Contains}
use Rattle.h5_bytes.specs.declared.Block.{Block}
use Rattle.h5_model.specs.Edits.Applied.{with_links}
use Rattle.h5_model.specs.Format.Addresses.{SymbolTable}
use Rattle.h5_model.specs.Format.Messages.{prefix_at, reference_count}
use Rattle.h5_model.specs.Format.Reads.{IsCounted}
use Rattle.h5_model.specs.Format.Symbols.{Header}
use Rattle.h5_model.specs.Tree.Objects.{Tree, Object, Links, hard_links, with_object}
use Rattle.h5_space.specs.Space.{Space}
use Rattle.h5_header.specs.Listed.{messages_in}
use Rattle.h5_group.specs.Told.{links_told}
use Rattle.h5_laws.proofs.Lists.{in_all}
use Rattle.h5_laws.proofs.Objects.{object_at}
use Rattle.h5_laws.proofs.SoundLaws.Inserted.{number_here, number_other}
use Rattle.h5_laws.proofs.SoundLaws.LinksThere.{GroupAt}
use Rattle.h5_open.specs.declared.opened.object.OpenedObject.{OpenedObject}
use Rattle.h5_open.specs.declared.opened.object.OpenedContent.TheVariants as content
use Rattle.h5_open.specs.Opened.Kept.{IsOpened}
use Rattle.h5_open.specs.Opened.Objects.{content_in, header_of, links_by, object_blocks, object_in, table_of, tree_of}
use Rattle.h5_open.specs.Opened.Sound.{IsHeaderIn, IsObjectOf}
use Rattle.h5_open.specs.Opened.State.{opened_state}
use Rattle.h5_open.specs.SlotsInPlace.{IsTouchedObject}
use Rattle.h5_open.proofs.GroupRelinked.{IsGroupRelinked, linked_object, relinked_written}
use Rattle.h5_open.proofs.GroupWritten.{IsGroupWritten, written_count, written_kept, written_led}
use Rattle.h5_open.proofs.OpenedLaws.Sounds.{object_of}
use Rattle.h5_open.proofs.ToldObject.{told_object}

-- the header of an object counts its links
pub count_was : (old : Space) (slots : List (Option OpenedObject)) (numbers : BTreeMap ℕ ℕ) (opened : IsOpened old slots numbers) (number : ℕ) (p : OpenedObject)
    → slice_get slots number ≡ Some (Some p)
    → reference_count (prefix_at old.bytes (header_of p)) ≡ hard_links (tree_of old.bytes slots) number + (if number == 0 then 1 else 0)
count_was old slots numbers opened number p at =
    let tree : Tree = tree_of old.bytes slots in
    let of = object_of old slots numbers opened number p at in
    let x = object_at old.bytes (table_of slots) tree opened.reads.0 opened.reads.1.holds number (header_of p) of.header in
    let count = in_all (IsCounted old.bytes tree) x.0 opened.reads.0 opened.reads.1.counted x.1 in
    ap (λ (h : ℕ). reference_count (prefix_at old.bytes h)) (sym x.3) ∙ count.counted ∙ ap (λ (n : ℕ). hard_links tree n + (if n == 0 then 1 else 0)) x.2

-- the group, with the links that it has
module _ (old : Space) (slots : List (Option OpenedObject)) (numbers : BTreeMap ℕ ℕ) (opened : IsOpened old slots numbers) (parent : ℕ) (p : OpenedObject) (t : SymbolTable)
    (at : slice_get slots parent ≡ Some (Some p)) (kind : p.content ≡ content.Group t) where
  abbrev pub group_there : GroupAt (tree_of old.bytes slots) parent
  group_there = record {
    object = object_in old.bytes (table_of slots) p;
    links = links_by (table_of slots) (links_told old.bytes t);
    stands = (object_of old slots numbers opened parent p at).there;
    is = ap (content_in old.bytes (table_of slots) (messages_in old.bytes p.messages.list)) kind;
  }

-- The group in a tree, by a table: it stands as the tree has it, and its header counts as many links as did lead to it.
module _ (old mid new : Space) (slots : List (Option OpenedObject)) (numbers : BTreeMap ℕ ℕ) (opened : IsOpened old slots numbers) (parent : ℕ) (p : OpenedObject) (t : SymbolTable)
    (taken written : List Block) (is : IsGroupWritten old mid new slots parent p t taken written) (table' : FinMap nat_cmp ℕ) (tree' : Tree) where
  pub written_touched : ((name : List ℕ) (h : ℕ) → Contains (links_told mid.bytes t) (name, Header h) → IsHeaderIn table' h) → get tree' parent ≡ Some (object_in new.bytes table' p)
      → hard_links tree' parent ≡ hard_links (tree_of old.bytes slots) parent → IsTouchedObject new.bytes table' tree' parent p
  written_touched led there same = record {
    kept = written_kept old mid new slots numbers opened parent p t taken written is;
    object = object_in new.bytes table' p;
    there = there;
    blocks = object_blocks new.bytes p;
    has = told_object new.bytes table' p (written_kept old mid new slots numbers opened parent p t taken written is)
        (written_led old mid new slots numbers opened parent p t taken written is table' led);
    counted =
        let stays = written_count old mid new slots numbers opened parent p t taken written is in
        let was = count_was old slots numbers opened parent p is.group in
        omega (arith, stays, was, same);
  }

module _ (old mid new : Space) (slots : List (Option OpenedObject)) (numbers : BTreeMap ℕ ℕ) (opened : IsOpened old slots numbers) (parent : ℕ) (p : OpenedObject) (t : SymbolTable)
    (written : List Block) (change : Links → Links) (is : IsGroupRelinked old mid new slots parent p t written change) where
  abbrev table : FinMap nat_cmp ℕ
  table = table_of slots

  abbrev tree : Tree
  tree = tree_of old.bytes slots

  abbrev pub tree' : Tree
  tree' = with_object tree parent (with_links change)

  abbrev of : IsObjectOf (opened_state old slots) parent p
  of = object_of old slots numbers opened parent p is.group

  abbrev changed : Object
  changed = with_links change (object_in old.bytes table p)

  pub relinked_tree : tree' ≡ insert tree parent changed
  relinked_tree = ap (λ (found : Option Object). option_map_or (λ (o : Object). insert tree parent (with_links change o)) found tree) of.there

  pub relinked_here : get tree' parent ≡ Some (object_in new.bytes table p)
  relinked_here =
      ap (λ (x : Tree). get x parent) relinked_tree ∙ number_here tree parent changed
      ∙ ap (λ (o : Object). Some o) (sym (linked_object old mid new slots numbers opened parent p t written change is))

  pub relinked_others : (n : ℕ) → (n ≡ parent → ⊥) → get tree' n ≡ get tree n
  relinked_others n other = ap (λ (x : Tree). get x n) relinked_tree ∙ number_other tree parent changed n other

  -- where as many links lead to the group as did, its header counts them
  pub group_touched : hard_links tree' parent ≡ hard_links tree parent → IsTouchedObject new.bytes table tree' parent p
  group_touched same = written_touched old mid new slots numbers opened parent p t [] written (relinked_written old mid new slots numbers opened parent p t written change is)
      table tree' is.led relinked_here same

-- A group of an opened image out of which one link was taken where it stands.
use Rattle.std.proofs.Common.{◌≡◌, inl, inr, ℕ, ◌+◌, ◌≤◌, List, [], ◌∷◌, ◌++◌, length, sym, ap, ◌∙◌, subst, Option, Some}
use Rattle.std.specs.Prelude.{slice_get}
use Rattle.std.specs.Ordering.{nat_cmp}
use Rattle.std.specs.BTreeMap.{BTreeMap}
use Rattle.std.specs.FinMap.{FinMap, get, remove}
use Rattle.std.specs.List.{Contains, flat_map}
use Rattle.h5_bytes.specs.Blocks.{cover}
use Rattle.h5_bytes.specs.declared.Block.{Block}
use Rattle.h5_model.specs.Format.Addresses.{SymbolTable}
use Rattle.h5_model.specs.Format.Limits.{most_bytes}
use Rattle.h5_model.specs.Format.Links.{Ascend}
use Rattle.h5_model.specs.Format.Superblock.{end_of_file, end_field}
use Rattle.h5_model.specs.Format.Symbols.{Target, Header}
use Rattle.h5_model.specs.Tree.Objects.{Tree, Link, link_in}
use Rattle.h5_space.specs.Moves.{Moves}
use Rattle.h5_space.specs.Space.{Space}
use Rattle.h5_group.specs.Edited.{IsLinkPut}
use Rattle.h5_group.specs.Told.{links_told}
use Rattle.h5_laws.proofs.Lists.{In, contains_in, in_contains}
use Rattle.h5_laws.proofs.SoundLaws.LinksThere.{GroupAt, link_is}
use Rattle.h5_open.specs.declared.opened.object.OpenedObject.{OpenedObject}
use Rattle.h5_open.specs.declared.opened.object.OpenedContent.TheVariants as content
use Rattle.h5_open.specs.LinkTaken.{IsLinkTaken}
use Rattle.h5_open.specs.Opened.Kept.{IsOpened}
use Rattle.h5_open.specs.Opened.Objects.{link_to, links_by, object_blocks, objects_of, table_of, tree_of}
use Rattle.h5_open.specs.Opened.Sound.{IsHeaderIn}
use Rattle.h5_open.specs.Opened.State.{opened_state}
use Rattle.h5_open.proofs.GroupRelinked.{IsGroupRelinked}
use Rattle.h5_open.proofs.LinkCalls.{group_read}
use Rattle.h5_open.proofs.LinksTaken.{link_named, links_taken}
use Rattle.h5_open.proofs.OpenedLaws.Entries.{names_ascend}
use Rattle.h5_open.proofs.OpenedLaws.LinkedHeaders.{linked_header}
use Rattle.h5_open.proofs.OpenedLaws.Sounds.{object_of, sound}
use Rattle.h5_open.proofs.RelinkedTree.{group_there}

-- a link that is left was there
was_there : {X : Type 0} (l x : X) (front back : List X) → In x (front ++ back) → In x (front ++ l ∷ back)
was_there l x [] back at = inr at
was_there l x (y ∷ front) back (inl e) = inl e
was_there l x (y ∷ front) back (inr at) = inr (was_there l x front back at)

module _ (old : Space) (slots : List (Option OpenedObject)) (numbers : BTreeMap ℕ ℕ) (opened : IsOpened old slots numbers) (parent : ℕ) (p : OpenedObject) (t : SymbolTable)
    (at : slice_get slots parent ≡ Some (Some p)) (kind : p.content ≡ content.Group t) (name : List ℕ) (link : Link) (there : link_in (tree_of old.bytes slots) parent name ≡ Some link) where
  abbrev table : FinMap nat_cmp ℕ
  table = table_of slots

  abbrev tree : Tree
  tree = tree_of old.bytes slots

  abbrev group : GroupAt tree parent
  group = group_there old slots numbers opened parent p t at kind

  rises : Ascend (links_told old.bytes t)
  rises = names_ascend old.bytes t (group_read old slots numbers opened parent p t at kind)

  its_link : get group.links name ≡ Some link
  its_link = sym (link_is tree parent group name) ∙ there

  -- the link of the file that it is
  pub told_link : (target : Target) × Contains (links_told old.bytes t) (name, target) × (link_to table target ≡ link)
  told_link =
      let named = link_named table (links_told old.bytes t) rises name link its_link in
      (named.0, contains_in (name, named.0) (links_told old.bytes t) named.1, named.2)

  -- ---- when it is taken

  module _ (mid : Space) (is : IsLinkTaken old mid t name) where
    put : IsLinkPut (name, told_link.0) (links_told mid.bytes t) (links_told old.bytes t)
    put = is.links told_link.0 told_link.1

    links_now : links_by table (links_told mid.bytes t) ≡ remove (links_by table (links_told old.bytes t)) name
    links_now =
        ap (links_by table) put.before
        ∙ links_taken table name told_link.0 put.front put.back (subst Ascend put.after rises) (subst Ascend put.before (names_ascend mid.bytes t (is.group).read))
        ∙ ap (λ (ls : List (List ℕ × Target)). remove (links_by table ls) name) (sym put.after)

    -- each link that is left leads to a header of the table, or to a text
    led : (name' : List ℕ) (h : ℕ) → Contains (links_told mid.bytes t) (name', Header h) → IsHeaderIn table h
    led name' h left =
        linked_header (opened_state old slots) (sound old slots numbers opened) parent p (object_of old slots numbers opened parent p at) t kind name' h
        (subst (In (name', Header h)) (sym put.after)
        (was_there (name, told_link.0) (name', Header h) put.front put.back (subst (In (name', Header h)) put.before (in_contains (name', Header h) (links_told mid.bytes t) left))))

    -- then bytes of other blocks may be written
    pub unlinked : (new : Space) (written : List Block) → Moves mid new (end_field mid.bytes ∷ written) (end_field new.bytes ∷ written)
        → ((q : ℕ) → cover q written + cover q (object_blocks old.bytes p) ≤ cover q (flat_map (object_blocks old.bytes) (objects_of slots)))
        → end_of_file new.bytes ≡ length new.bytes → length new.bytes ≤ most_bytes
        → IsGroupRelinked old mid new slots parent p t written (λ links. remove links name)
    unlinked new written later beside end small = record {
      group = at;
      kind = kind;
      links = links_now;
      read = (is.group).read;
      exact = is.exact;
      k = is.k;
      moves = is.moves;
      later = later;
      beside = beside;
      led = led;
      end = end;
      small = small;
    }

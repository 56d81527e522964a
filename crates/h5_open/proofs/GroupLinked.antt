-- A group of an opened image into which one link was put where it stands.
use Rattle.std.proofs.Common.{◌≡◌, inl, inr, ℕ, ◌+◌, ◌≤◌, List, ◌∷◌, ◌++◌, length, sym, ap, ◌∙◌, subst, Option, Some}
use Rattle.std.specs.Prelude.{slice_get}
use Rattle.std.specs.Ordering.{nat_cmp}
use Rattle.std.specs.BTreeMap.{BTreeMap}
use Rattle.std.specs.FinMap.{FinMap, insert}
use Rattle.std.specs.List.{Contains, flat_map}
use Rattle.h5_bytes.specs.Blocks.{cover}
use Rattle.h5_bytes.specs.declared.Block.{Block}
use Rattle.h5_model.specs.Format.Addresses.{SymbolTable}
use Rattle.h5_model.specs.Format.Limits.{most_bytes}
use Rattle.h5_model.specs.Format.Links.{Ascend}
use Rattle.h5_model.specs.Format.Superblock.{k_values, end_of_file, end_field}
use Rattle.h5_model.specs.Format.Symbols.{Target, Header}
use Rattle.h5_model.specs.Tree.Objects.{Links}
use Rattle.h5_space.specs.Moves.{Moves}
use Rattle.h5_space.specs.Space.{Space}
use Rattle.h5_header.specs.Listed.{messages_in}
use Rattle.h5_group.specs.Exact.{HasExactKeys}
use Rattle.h5_group.specs.Links.{IsGroupRead}
use Rattle.h5_group.specs.Told.{blocks_told, links_told}
use Rattle.h5_laws.proofs.Lists.{In, in_contains, put_or_old}
use Rattle.h5_open.specs.declared.opened.object.OpenedObject.{OpenedObject}
use Rattle.h5_open.specs.declared.opened.object.OpenedContent.TheVariants as content
use Rattle.h5_open.specs.Opened.Kept.{IsContentKept, IsOpened}
use Rattle.h5_open.specs.Opened.Objects.{link_to, links_by, object_blocks, objects_of, table_of}
use Rattle.h5_open.specs.Opened.Sound.{IsHeaderIn}
use Rattle.h5_open.specs.Opened.State.{opened_state}
use Rattle.h5_open.proofs.GroupRelinked.{IsGroupRelinked}
use Rattle.h5_open.proofs.LinksPut.{links_put}
use Rattle.h5_open.proofs.OpenedLaws.Entries.{names_ascend}
use Rattle.h5_open.proofs.OpenedLaws.LinkedHeaders.{linked_header}
use Rattle.h5_open.proofs.OpenedLaws.Sounds.{object_of, sound}

-- One link was put into a group, then the bytes of these other blocks were written, and the end of file address.
pub record IsGroupLinked (old mid new : Space) (slots : List (Option OpenedObject)) (parent : ℕ) (p : OpenedObject) (t : SymbolTable) (name : List ℕ) (target : Target)
    (written : List Block) : Type 0 where
  pub group : slice_get slots parent ≡ Some (Some p)
  pub kind : p.content ≡ content.Group t
  pub front : List (List ℕ × Target)
  pub back : List (List ℕ × Target)
  pub was : links_told old.bytes t ≡ front ++ back
  pub put : links_told mid.bytes t ≡ front ++ (name, target) ∷ back
  pub read : IsGroupRead mid.bytes t
  pub exact : HasExactKeys old.bytes t → HasExactKeys mid.bytes t
  pub k : k_values mid.bytes ≡ k_values old.bytes
  pub moves : Moves old mid (blocks_told old.bytes t) (blocks_told mid.bytes t)
  pub later : Moves mid new (end_field mid.bytes ∷ written) (end_field new.bytes ∷ written)
  pub beside : (q : ℕ) → cover q written + cover q (object_blocks old.bytes p) ≤ cover q (flat_map (object_blocks old.bytes) (objects_of slots))
  pub led : (h : ℕ) → target ≡ Header h → IsHeaderIn (table_of slots) h
  pub end : end_of_file new.bytes ≡ length new.bytes
  pub small : length new.bytes ≤ most_bytes

-- the links of a group with one more
abbrev pub with_one : FinMap nat_cmp ℕ → List ℕ → Target → Links → Links
with_one table name target links = insert links name (link_to table target)

module _ (old mid new : Space) (slots : List (Option OpenedObject)) (numbers : BTreeMap ℕ ℕ) (opened : IsOpened old slots numbers) (parent : ℕ) (p : OpenedObject) (t : SymbolTable)
    (name : List ℕ) (target : Target) (written : List Block) (is : IsGroupLinked old mid new slots parent p t name target written) where
  read_before : IsGroupRead old.bytes t
  read_before = (subst (IsContentKept old.bytes (messages_in old.bytes p.messages.list)) is.kind ((object_of old slots numbers opened parent p is.group).kept).content).2

  abbrev change : Links → Links
  change = with_one (table_of slots) name target

  links_now : links_by (table_of slots) (links_told mid.bytes t) ≡ change (links_by (table_of slots) (links_told old.bytes t))
  links_now =
      ap (links_by (table_of slots)) is.put
      ∙ links_put (table_of slots) name target is.front is.back (subst Ascend is.was (names_ascend old.bytes t read_before)) (subst Ascend is.put (names_ascend mid.bytes t is.read))
      ∙ ap (λ (ls : List (List ℕ × Target)). change (links_by (table_of slots) ls)) (sym is.was)

  -- each of its links leads to a header of the table, or to a text
  led : (name' : List ℕ) (h : ℕ) → Contains (links_told mid.bytes t) (name', Header h) → IsHeaderIn (table_of slots) h
  led name' h at =
      let here : In (name', Header h) (is.front ++ (name, target) ∷ is.back)
      = subst (In (name', Header h)) is.put (in_contains (name', Header h) (links_told mid.bytes t) at) in
      elim (put_or_old (name', Header h) (name, target) is.front is.back here) [
        | inl new ↦ is.led h (sym (ap (λ (l : List ℕ × Target). l.1) new))
        | inr there ↦ linked_header (opened_state old slots) (sound old slots numbers opened) parent p (object_of old slots numbers opened parent p is.group) t is.kind name' h
            (subst (In (name', Header h)) (sym is.was) there)
      ]

  pub relinked : IsGroupRelinked old mid new slots parent p t written (with_one (table_of slots) name target)
  relinked = record {
    group = is.group;
    kind = is.kind;
    links = links_now;
    read = is.read;
    exact = is.exact;
    k = is.k;
    moves = is.moves;
    later = is.later;
    beside = is.beside;
    led = led;
    end = is.end;
    small = is.small;
  }

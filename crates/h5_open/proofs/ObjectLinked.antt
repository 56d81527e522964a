-- The group into which a link to a new object was put, by the table with the object's header in addition: its links are those that it had,
-- and the new one, which leads to the next number.
use Rattle.std.proofs.Common.{◌≡◌, inl, inr, ℕ, List, [], ◌∷◌, ◌++◌, length, sym, ap, ◌∙◌, subst, Option, Some}
use Rattle.std.specs.Ordering.{nat_cmp}
use Rattle.std.specs.BTreeMap.{BTreeMap}
use Rattle.std.specs.FinMap.{FinMap, get, insert}
use Rattle.std.specs.List.{Contains}
use Rattle.h5_model.specs.Format.Addresses.{SymbolTable}
use Rattle.h5_model.specs.Format.Links.{Ascend}
use Rattle.h5_model.specs.Format.Symbols.{Target, Header}
use Rattle.h5_model.specs.Tree.Objects.{ToObject}
use Rattle.h5_space.specs.Space.{Space}
use Rattle.h5_group.specs.Told.{links_told}
use Rattle.h5_laws.proofs.Lists.{In, in_contains, put_or_old}
use Rattle.h5_open.specs.declared.opened.added.ObjectBytes.{ObjectBytes}
use Rattle.h5_open.specs.declared.opened.object.OpenedObject.{OpenedObject}
use Rattle.h5_open.specs.ObjectAdded.{IsObjectStored}
use Rattle.h5_open.specs.Opened.Kept.{IsOpened}
use Rattle.h5_open.specs.Opened.Objects.{header_of, links_by, number_in, table_of}
use Rattle.h5_open.specs.Opened.Sound.{IsHeaderIn}
use Rattle.h5_open.specs.Opened.State.{opened_state}
use Rattle.h5_open.proofs.LinkCalls.{group_read}
use Rattle.h5_open.proofs.LinksPut.{links_put}
use Rattle.h5_open.proofs.ObjectBlock.{links_took}
use Rattle.h5_open.proofs.ObjectPut.{IsObjectPut}
use Rattle.h5_open.proofs.OpenedLaws.Entries.{names_ascend}
use Rattle.h5_open.proofs.OpenedLaws.LinkedHeaders.{linked_header}
use Rattle.h5_open.proofs.OpenedLaws.Sounds.{object_of, sound}
use Rattle.h5_open.proofs.PushedTable.{pushed_led, pushed_links, pushed_new, pushed_number}

module _ (old taken linked new : Space) (slots : List (Option OpenedObject)) (numbers : BTreeMap ℕ ℕ) (opened : IsOpened old slots numbers) (parent : ℕ) (p o : OpenedObject)
    (t : SymbolTable) (name : List ℕ) (at : ℕ) (b : ObjectBytes) (is : IsObjectPut old taken linked new slots parent p o t name at b)
    (place_new : (n : ℕ) → get (table_of slots) n ≡ Some (header_of o) → ⊥) where
  abbrev table : FinMap nat_cmp ℕ
  table = table_of slots

  abbrev table' : FinMap nat_cmp ℕ
  table' = table_of (slots ++ Some o ∷ [])

  abbrev next : ℕ
  next = length slots

  abbrev its : IsObjectStored old taken linked new t name at b
  its = is.stored

  abbrev front : List (List ℕ × Target)
  front = its.put.front

  abbrev back : List (List ℕ × Target)
  back = its.put.back

  was : links_told old.bytes t ≡ front ++ back
  was = sym (links_took old taken linked new slots numbers opened parent p o t name at b is) ∙ its.put.before

  led_before : (x : List ℕ) (h : ℕ) → In (x, Header h) (links_told old.bytes t) → IsHeaderIn table h
  led_before = linked_header (opened_state old slots) (sound old slots numbers opened) parent p (object_of old slots numbers opened parent p is.group) t is.kind

  -- the links that were there, and the number of the new one
  before : links_by table' (front ++ back) ≡ links_by table (links_told old.bytes t)
  before = ap (links_by table') (sym was) ∙ pushed_links slots o opened.reads.1.holds.own place_new (links_told old.bytes t) led_before

  number : number_in table' at ≡ next
  number = ap (number_in table') (sym is.kept.header) ∙ pushed_number slots o opened.reads.1.holds.own place_new

  pub links_with : links_by table' (links_told linked.bytes t) ≡ insert (links_by table (links_told old.bytes t)) name (ToObject next)
  links_with =
      ap (links_by table') its.put.after
      ∙ links_put table' name (Header at) front back (subst Ascend was (names_ascend old.bytes t (group_read old slots numbers opened parent p t is.group is.kind)))
      (subst Ascend its.put.after (names_ascend linked.bytes t its.apart.read))
      ∙ (λ i. insert (before i) name (ToObject (number i)))

  -- each leads to a header of the table, or to a text
  pub led_with : (x : List ℕ) (h : ℕ) → Contains (links_told linked.bytes t) (x, Header h) → IsHeaderIn table' h
  led_with x h there =
      let here : In (x, Header h) (front ++ (name, Header at) ∷ back)
      = subst (In (x, Header h)) its.put.after (in_contains (x, Header h) (links_told linked.bytes t) there) in
      elim (put_or_old (x, Header h) (name, Header at) front back here) [
        | inl added ↦
            let same : Header at ≡ Header h = sym (ap (λ (l : List ℕ × Target). l.1) added) in
            let one : at ≡ h = cc in
            (next, pushed_new slots o ∙ ap (λ (k : ℕ). Some k) (is.kept.header ∙ one))
        | inr stood ↦ pushed_led slots o h (led_before x h (subst (In (x, Header h)) (sym was) stood))
      ]

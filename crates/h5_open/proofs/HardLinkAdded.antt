-- A hard link to an array that is put into a group of an opened image where the group stands, and counted where the array's header stands,
-- is an edit in place.
use Rattle.std.proofs.Common.{◌≡◌, ℕ, ◌+◌, ◌≤◌, ◌==◌, List, [], ◌∷◌, length, sym, ap, ◌∙◌, subst, arith, Option, Some, None}
use Rattle.std.specs.Prelude.{slice_get, if◌then◌else◌}
use Rattle.std.specs.Ordering.{nat_cmp}
use Rattle.std.specs.BTreeMap.{BTreeMap}
use Rattle.std.specs.FinMap.{FinMap, insert}
use Rattle.std.proofs.lemmas.Option.{same_Some}
use Rattle.h5_model.specs.Edits.Applied.{with_links}
use Rattle.h5_model.specs.Format.Addresses.{SymbolTable}
use Rattle.h5_model.specs.Format.Messages.{prefix_at, reference_count}
use Rattle.h5_model.specs.Format.Symbols.{Target, Header}
use Rattle.h5_model.specs.Tree.Objects.{Tree, Link, ToObject, hard_links, link_in, with_object}
use Rattle.h5_space.specs.Space.{Space}
use Rattle.h5_laws.specs.Trees.Sound.{IsSoundTree}
use Rattle.h5_laws.proofs.SoundLaws.Counts.{adds, leads_itself, unled}
use Rattle.h5_open.specs.declared.opened.object.OpenedObject.{OpenedObject}
use Rattle.h5_open.specs.declared.opened.object.OpenedContent.TheVariants as content
use Rattle.h5_open.specs.ChangedInPlace.{IsChangedInPlace, is_among}
use Rattle.h5_open.specs.Opened.Kept.{IsOpened}
use Rattle.h5_open.specs.Opened.Objects.{header_of, link_to, number_in, table_of, tree_of}
use Rattle.h5_open.specs.Opened.Sound.{IsObjectOf}
use Rattle.h5_open.specs.Opened.State.{opened_state}
use Rattle.h5_open.specs.SlotsInPlace.{IsSlotsInPlace}
use Rattle.h5_open.proofs.GroupLinked.{IsGroupLinked, relinked, with_one}
use Rattle.h5_open.proofs.GroupRelinked.{IsGroupRelinked}
use Rattle.h5_open.proofs.LinkTree.{linked_counts}
use Rattle.h5_open.proofs.OpenedLaws.HeaderNumbers.{number_is}
use Rattle.h5_open.proofs.OpenedLaws.Sounds.{object_of}
use Rattle.h5_open.proofs.RelinkedWithTarget.{both_in_place}
use Rattle.h5_open.proofs.RelinkedTree.{count_was}
use Rattle.h5_open.proofs.SlotsInPlace.{slots_changed, slots_opened}
use Rattle.h5_open.proofs.TargetCounted.{IsTargetCounted, count_mid, recounted}

-- a group is no array
pub kinds_differ : (slots : List (Option OpenedObject)) (m n : ℕ) (p o : OpenedObject) (t : SymbolTable) → slice_get slots m ≡ Some (Some p) → slice_get slots n ≡ Some (Some o)
    → p.content ≡ content.Group t → o.content ≡ content.Array → n ≡ m → ⊥
kinds_differ slots m n p o t at there group array here =
    let one : p ≡ o = same_Some p o (same_Some (Some p) (Some o) (sym at ∙ ap (slice_get slots) (sym here) ∙ there)) in
    let never : content.Group t ≡ content.Array = sym group ∙ ap (λ (x : OpenedObject). x.content) one ∙ array in
    absurd (cc)

module _ (old mid set new : Space) (slots : List (Option OpenedObject)) (numbers : BTreeMap ℕ ℕ) (opened : IsOpened old slots numbers) (parent : ℕ) (p : OpenedObject) (t : SymbolTable)
    (name : List ℕ) (number : ℕ) (o : OpenedObject) (is : IsGroupLinked old mid new slots parent p t name (Header (header_of o)) o.messages.blocks)
    (its : IsTargetCounted mid set new slots number o) (free : link_in (tree_of old.bytes slots) parent name ≡ None) where
  abbrev table : FinMap nat_cmp ℕ
  table = table_of slots

  abbrev tree : Tree
  tree = tree_of old.bytes slots

  abbrev target : Target
  target = Header (header_of o)

  -- the tree, by the header that the link names
  abbrev named : Tree
  named = with_object tree parent (with_links (λ links. insert links name (link_to table target)))

  abbrev tree' : Tree
  tree' = with_object tree parent (with_links (λ links. insert links name (ToObject number)))

  apart : number ≡ parent → ⊥
  apart = kinds_differ slots parent number p o t is.group its.target is.kind its.array

  of : IsObjectOf (opened_state old slots) number o
  of = object_of old slots numbers opened number o its.target

  number_here : number_in table (header_of o) ≡ number
  number_here = number_is table opened.reads.1.holds.own number (header_of o) of.header

  link_is : link_to table target ≡ ToObject number
  link_is = ap (λ (n : ℕ). ToObject n) number_here

  tree_is : named ≡ tree'
  tree_is = ap (λ (l : Link). with_object tree parent (with_links (λ links. insert links name l))) link_is

  other_link : (n : ℕ) → (n ≡ number → ⊥) → link_to table target ≡ ToObject n → ⊥
  other_link n other e = let same : ToObject number ≡ ToObject n = sym link_is ∙ e in let one : number ≡ n = cc in other (sym one)

  one_more : adds number (link_to table target) ≡ 1
  one_more = ap (adds number) link_is ∙ leads_itself number

  abbrev link_is_in : IsGroupRelinked old mid new slots parent p t o.messages.blocks (with_one table name target)
  link_is_in = relinked old mid new slots numbers opened parent p t name target o.messages.blocks is

  abbrev count : ℕ
  count = reference_count (prefix_at mid.bytes (header_of o)) + 1

  counts : (n : ℕ) → (n ≡ number → ⊥) → hard_links named n ≡ hard_links tree n
  counts n other =
      let all = linked_counts old mid new slots numbers opened parent p t name target o.messages.blocks is free n in
      let none = unled n (link_to table target) (other_link n other) in
      omega (arith, all, none)

  counted : count ≡ hard_links named number + (if number == 0 then 1 else 0)
  counted =
      let mids = count_mid old mid set new slots numbers opened parent p t (with_one table name target) number o count link_is_in (recounted mid set new slots number o its) apart in
      let was = count_was old slots numbers opened number o its.target in
      let all = linked_counts old mid new slots numbers opened parent p t name target o.messages.blocks is free number in
      let one = one_more in
      omega (arith, mids, was, all, one)

  hard_in_place : IsSlotsInPlace old new slots slots tree named (is_among (parent ∷ number ∷ []))
  hard_in_place = both_in_place old mid set new slots numbers opened parent p t (with_one table name target) number o count link_is_in
      (recounted mid set new slots number o its) apart counts counted

  -- ---- so

  pub hard_opened : IsSoundTree tree' → IsOpened new slots numbers
  hard_opened good = slots_opened old new slots slots numbers numbers opened named (is_among (parent ∷ number ∷ [])) (subst IsSoundTree (sym tree_is) good) hard_in_place opened.index

  pub hard_changed : IsSoundTree tree' → (bytes : ℕ) → length new.bytes ≤ length old.bytes + bytes
      → IsChangedInPlace (opened_state old slots) (opened_state new slots) tree' (length slots) (parent ∷ number ∷ []) bytes
  hard_changed good bytes room =
      subst (λ (x : Tree). IsChangedInPlace (opened_state old slots) (opened_state new slots) x (length slots) (parent ∷ number ∷ []) bytes) tree_is
      (slots_changed old new slots slots numbers numbers opened named (parent ∷ number ∷ []) bytes (subst IsSoundTree (sym tree_is) good) hard_in_place opened.index room)

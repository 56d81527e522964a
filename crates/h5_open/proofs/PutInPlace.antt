-- An object that was put where it was to stand, with a link to it in a group, is an edit in place: so the image is opened with the object.
use Rattle.std.proofs.Common.{◌≡◌, ℕ, ◌+◌, ◌<◌, ◌≤◌, ◌==◌, false, cond, List, [], ◌∷◌, ◌++◌, length, sym, ap, ◌∙◌, subst, arith, Option, Some, None}
use Rattle.std.specs.Prelude.{option_map}
use Rattle.std.specs.Option.{option_flatten}
use Rattle.std.specs.Ordering.{nat_cmp}
use Rattle.std.specs.BTreeMap.{BTreeMap, is_at, get as lookup}
use Rattle.std.specs.FinMap.{FinMap, get, insert}
use Rattle.std.proofs.lemmas.Bool.Decides.{nat_tests}
use Rattle.std.proofs.lemmas.List.{length-append}
use Rattle.std.proofs.lemmas.Option.{slice_get_past, slice_get_within}
use Rattle.h5_bytes.specs.declared.Block.{Block}
use Rattle.h5_bytes.proofs.BlockLaws.{cover-append}
use Rattle.h5_model.specs.Format.Addresses.{SymbolTable}
use Rattle.h5_model.specs.Format.Superblock.{end_field}
use Rattle.h5_model.specs.Tree.Objects.{Tree, Links, Object, ToObject, hard_links, link_in}
use Rattle.h5_space.specs.Moves.{Moves}
use Rattle.h5_space.specs.Space.{Space}
use Rattle.h5_space.proofs.MovesLaws.{moves_same}
use Rattle.h5_laws.specs.Trees.Sound.{IsSoundTree}
use Rattle.h5_laws.proofs.SoundLaws.Counts.{leads_itself, unled}
use Rattle.h5_laws.proofs.SoundLaws.Linked.{IsBare}
use Rattle.h5_laws.proofs.SoundLaws.LinksThere.{GroupAt}
use Rattle.h5_laws.proofs.SoundLaws.Read.{sound_reading}
use Rattle.h5_open.specs.declared.opened.added.ObjectBytes.{ObjectBytes}
use Rattle.h5_open.specs.declared.opened.object.OpenedObject.{OpenedObject}
use Rattle.h5_open.specs.ChangedInPlace.{IsChangedInPlace, is_among}
use Rattle.h5_open.specs.ObjectAdded.{IsToBeMade, object_place, tree_with}
use Rattle.h5_open.specs.Opened.Kept.{IsIndex, IsOpened}
use Rattle.h5_open.specs.Opened.Objects.{header_of, object_blocks, object_in, table_of, tree_of}
use Rattle.h5_open.specs.Opened.State.{opened_state}
use Rattle.h5_open.specs.SlotsInPlace.{IsObjectMade, IsSlotsInPlace, IsTouchedObject}
use Rattle.h5_open.proofs.GroupWritten.{IsGroupWritten, written_moves, written_object}
use Rattle.h5_open.proofs.IndexLaws.{index_push}
use Rattle.h5_open.proofs.ObjectBlock.{put_block, put_written}
use Rattle.h5_open.proofs.ObjectLinked.{led_with, links_with}
use Rattle.h5_open.proofs.ObjectMade.{made_in_place}
use Rattle.h5_open.proofs.ObjectPut.{IsObjectPut}
use Rattle.h5_open.proofs.ObjectThere.{its_bare, its_blocks, its_count, its_kept, its_led, its_object, its_place_new}
use Rattle.h5_open.proofs.OpenedLaws.Entries.{get_tree}
use Rattle.h5_open.proofs.RelinkedTree.{group_there, written_touched}
use Rattle.h5_open.proofs.RelinkedWithTarget.{differs}
use Rattle.h5_open.proofs.SlotsInPlace.{slots_changed, slots_opened}
use Rattle.h5_open.proofs.ToldObject.{told_object}
use Rattle.h5_open.proofs.TreeWith.{none_led, with_counts, with_group, with_here, with_others}

module _ (old taken linked new : Space) (slots : List (Option OpenedObject)) (numbers : BTreeMap ℕ ℕ) (opened : IsOpened old slots numbers) (parent : ℕ) (p o : OpenedObject)
    (t : SymbolTable) (name : List ℕ) (at : ℕ) (b : ObjectBytes) (is : IsObjectPut old taken linked new slots parent p o t name at b)
    (free : link_in (tree_of old.bytes slots) parent name ≡ None) (object : Object) (to_be : IsToBeMade (opened_state old slots) b object)
    (place : at ≡ object_place (opened_state old slots) b) where
  abbrev slots' : List (Option OpenedObject)
  slots' = slots ++ Some o ∷ []

  abbrev table : FinMap nat_cmp ℕ
  table = table_of slots

  abbrev table' : FinMap nat_cmp ℕ
  table' = table_of slots'

  abbrev tree : Tree
  tree = tree_of old.bytes slots

  abbrev next : ℕ
  next = length slots

  abbrev tree' : Tree
  tree' = tree_with tree parent name next object

  abbrev change : Links → Links
  change links = insert links name (ToObject next)

  abbrev own : List Block
  own = put_block at b

  written : IsGroupWritten old linked new slots parent p t own []
  written = put_written old taken linked new slots numbers opened parent p o t name at b is

  -- ---- the tree

  abbrev group : GroupAt tree parent
  group = group_there old slots numbers opened parent p t is.group is.kind

  unused : get tree next ≡ None
  unused = get_tree old.bytes slots next ∙ ap (λ (s : Option (Option OpenedObject)). option_map (object_in old.bytes table) (option_flatten s)) (slice_get_past slots next (omega arith))

  bare : IsBare object
  bare = its_bare old taken linked new slots numbers opened parent p o t name at b is object to_be place

  low : parent < next
  low = slice_get_within slots parent (Some p) is.group

  other_number : parent ≡ next → ⊥
  other_number e = let l = low in omega (arith, l, e)

  counts : (n : ℕ) → (n ≡ next → ⊥) → hard_links tree' n ≡ hard_links tree n
  counts n other =
      let all = with_counts tree parent name next object group free unused bare n in
      let none = unled n (ToObject next) (λ e. let same : next ≡ n = cc in other (sym same)) in
      omega (arith, all, none)

  -- ---- the two objects

  place_new : (n : ℕ) → get table n ≡ Some (header_of o) → ⊥
  place_new = its_place_new old taken linked new slots numbers opened parent p o t name at b is object to_be place

  group_now : IsTouchedObject new.bytes table' tree' parent p
  group_now =
      let links = links_with old taken linked new slots numbers opened parent p o t name at b is place_new in
      let now = written_object old linked new slots numbers opened parent p t own [] written table table' change links in
      written_touched old linked new slots numbers opened parent p t own [] written table' tree' (led_with old taken linked new slots numbers opened parent p o t name at b is place_new)
      (with_group tree parent name next object group free unused bare other_number ∙ ap (λ (x : Object). Some x) (sym now)) (counts parent other_number)

  object_now : IsTouchedObject new.bytes table' tree' next o
  object_now = record {
    kept = its_kept old taken linked new slots numbers opened parent p o t name at b is object to_be place;
    object = object_in new.bytes table' o;
    there = with_here tree parent name next object group free unused bare
        ∙ ap (λ (x : Object). Some x) (sym (its_object old taken linked new slots numbers opened parent p o t name at b is object to_be place table'));
    blocks = object_blocks new.bytes o;
    has = told_object new.bytes table' o (its_kept old taken linked new slots numbers opened parent p o t name at b is object to_be place)
        (its_led old taken linked new slots numbers opened parent p o t name at b is object to_be place table');
    counted =
        let one = its_count old taken linked new slots numbers opened parent p o t name at b is object to_be place in
        let all = with_counts tree parent name next object group free unused bare next in
        let none = none_led tree parent name next object group free unused bare (sound_reading old.bytes table tree opened.reads.0 opened.reads.1) in
        let itself = leads_itself next in
        let l = low in
        let no_root : (next == 0) ≡ false = grind (arith, nat_tests, l) in
        rw no_root (omega (arith, one, all, none, itself));
  }

  -- ---- what moves

  all_moves : Moves old new (end_field old.bytes ∷ object_blocks old.bytes p) (end_field new.bytes ∷ object_blocks new.bytes o ++ object_blocks new.bytes p)
  all_moves = moves_same old new (end_field old.bytes ∷ (object_blocks old.bytes p ++ [])) (end_field new.bytes ∷ (own ++ (object_blocks new.bytes p ++ [])))
      (end_field old.bytes ∷ object_blocks old.bytes p) (end_field new.bytes ∷ object_blocks new.bytes o ++ object_blocks new.bytes p)
      (λ q. omega (arith, cover-append q (object_blocks old.bytes p) []))
      (λ q.
      let its = its_blocks old taken linked new slots numbers opened parent p o t name at b is object to_be place q in
      omega (arith, its, cover-append q (object_blocks new.bytes p) [], cover-append q (object_blocks new.bytes o) (object_blocks new.bytes p)))
      (written_moves old linked new slots numbers opened parent p t own [] written)

  put_made : IsObjectMade old new slots tree tree' parent p o
  put_made = record {
    group = is.group;
    few = is.few;
    same = λ n new_out out. with_others tree parent name next object group free unused bare n (differs next n new_out) (differs parent n out);
    counts = λ n new_out out. counts n (differs next n new_out);
    remade = group_now;
    made = object_now;
    moves = all_moves;
    end = is.stored.end;
    small = is.stored.small;
  }

  put_in_place : IsSlotsInPlace old new slots slots' tree tree' (is_among (next ∷ parent ∷ []))
  put_in_place = made_in_place old new slots tree tree' parent p o put_made

  -- ---- so

  module _ (good : IsSoundTree tree') (numbers' : BTreeMap ℕ ℕ)
      (updates : (q : ℕ) → lookup nat_cmp numbers' q ≡ cond (is_at (nat_cmp at) q) (Some next) (lookup nat_cmp numbers q)) where
    index : IsIndex table' numbers'
    index = index_push slots numbers opened.index o numbers'
        (λ q. updates q ∙ ap (λ (k : ℕ). cond (is_at (nat_cmp k) q) (Some next) (lookup nat_cmp numbers q)) (sym is.kept.header))

    pub put_opened : IsOpened new slots' numbers'
    put_opened = slots_opened old new slots slots' numbers numbers' opened tree' (is_among (next ∷ parent ∷ [])) good put_in_place index

    pub put_changed : (bytes : ℕ) → length new.bytes ≤ length old.bytes + bytes
        → IsChangedInPlace (opened_state old slots) (opened_state new slots') tree' (next + 1) (next ∷ parent ∷ []) bytes
    put_changed bytes room =
        let more : length slots' ≡ next + 1 = omega (arith, length-append slots (Some o ∷ [])) in
        subst (λ (n : ℕ). IsChangedInPlace (opened_state old slots) (opened_state new slots') tree' n (next ∷ parent ∷ []) bytes) more
        (slots_changed old new slots slots' numbers numbers' opened tree' (next ∷ parent ∷ []) bytes good put_in_place index room)

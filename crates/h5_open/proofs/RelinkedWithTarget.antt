-- An edit in place that changes the links of one group, and counts the links to one array anew.
use Rattle.std.proofs.Common.{◌≡◌, inl, inr, ℕ, ◌+◌, ◌==◌, true, false, Bool, List, [], ◌∷◌, ◌++◌, refl, sym, ap, ◌∙◌, subst, arith, Option, Some, None}
use Rattle.std.specs.Prelude.{slice_get, ◌||◌, if◌then◌else◌}
use Rattle.std.specs.Option.{option_flatten}
use Rattle.std.specs.Ordering.{nat_cmp}
use Rattle.std.specs.BTreeMap.{BTreeMap}
use Rattle.std.specs.FinMap.{FinMap}
use Rattle.std.specs.List.{Contains, flat_map}
use Rattle.std.proofs.lemmas.Bool.Decides.{nat_tests}
use Rattle.std.proofs.lemmas.Option.{same_Some}
use Rattle.h5_bytes.specs.Blocks.{cover}
use Rattle.h5_bytes.specs.declared.Block.{Block}
use Rattle.h5_bytes.proofs.BlockLaws.{cover-append}
use Rattle.h5_model.specs.Edits.Applied.{with_links}
use Rattle.h5_model.specs.Format.Addresses.{SymbolTable}
use Rattle.h5_model.specs.Format.Superblock.{end_field}
use Rattle.h5_model.specs.Format.Symbols.{Target, Header}
use Rattle.h5_model.specs.Tree.Objects.{Tree, Object, Links, hard_links, with_object}
use Rattle.h5_space.specs.Moves.{Moves}
use Rattle.h5_space.specs.Space.{Space}
use Rattle.h5_space.proofs.MovesLaws.{moves_beside, moves_same}
use Rattle.h5_header.specs.Listed.{messages_in}
use Rattle.h5_layout.specs.Data.{data_blocks}
use Rattle.h5_layout.specs.Told.{layout_told, type_told}
use Rattle.h5_laws.proofs.Lists.{in_contains}
use Rattle.h5_open.specs.declared.opened.object.OpenedObject.{OpenedObject}
use Rattle.h5_open.specs.ChangedInPlace.{is_among}
use Rattle.h5_open.specs.Opened.Kept.{IsOpened}
use Rattle.h5_open.specs.Opened.Objects.{content_links, object_blocks, object_in, table_of, tree_of}
use Rattle.h5_open.specs.Opened.Sound.{IsHeaderIn, IsObjectOf}
use Rattle.h5_open.specs.Opened.State.{opened_state}
use Rattle.h5_open.specs.SlotsInPlace.{AreOnce, IsSlotsInPlace, IsTouchedObject, blocks_at}
use Rattle.h5_open.proofs.GroupRelinked.{IsGroupRelinked, linked_moves}
use Rattle.h5_open.proofs.ObjectMade.{among_two, not_two}
use Rattle.h5_open.proofs.OpenedLaws.Sounds.{object_of}
use Rattle.h5_open.proofs.RelinkedTree.{group_touched, relinked_others}
use Rattle.h5_open.proofs.SlotEdits.{slots_stay}
use Rattle.h5_open.proofs.TargetCounted.{IsTargetRecounted, target_blocks, target_counts, target_kept, target_parts, target_same}
use Rattle.h5_open.proofs.ToldObject.{told_object}
use Rattle.h5_open.proofs.TouchedBlocks.{blocks_of_slot, touched_moves}

-- numbers that a test tells apart
pub differs : (a b : ℕ) → (a == b) ≡ false → b ≡ a → ⊥
differs a b out same =
    let here : (a == b) ≡ true = grind (arith, nat_tests, same) in
    let never : true ≡ false = sym here ∙ out in
    absurd (cc)

module _ (old mid set new : Space) (slots : List (Option OpenedObject)) (numbers : BTreeMap ℕ ℕ) (opened : IsOpened old slots numbers) (parent : ℕ) (p : OpenedObject) (t : SymbolTable)
    (change : Links → Links) (number : ℕ) (o : OpenedObject) (count : ℕ) (is : IsGroupRelinked old mid new slots parent p t o.messages.blocks change)
    (its : IsTargetRecounted mid set new slots number o count) (apart : number ≡ parent → ⊥)
    (counts : (n : ℕ) → (n ≡ number → ⊥) → hard_links (with_object (tree_of old.bytes slots) parent (with_links change)) n ≡ hard_links (tree_of old.bytes slots) n)
    (counted : count ≡ hard_links (with_object (tree_of old.bytes slots) parent (with_links change)) number + (if number == 0 then 1 else 0)) where
  abbrev table : FinMap nat_cmp ℕ
  table = table_of slots

  abbrev tree : Tree
  tree = tree_of old.bytes slots

  abbrev tree' : Tree
  tree' = with_object tree parent (with_links change)

  abbrev header : List Block
  header = o.messages.blocks

  abbrev cells : List Block
  cells = data_blocks old.bytes (type_told (messages_in old.bytes o.messages.list)) (layout_told (messages_in old.bytes o.messages.list))

  of : IsObjectOf (opened_state old slots) number o
  of = object_of old slots numbers opened number o its.target

  -- ---- the two objects

  group_now : IsTouchedObject new.bytes table tree' parent p
  group_now = group_touched old mid new slots numbers opened parent p t header change is (counts parent (λ e. apart (sym e)))

  no_links : (name : List ℕ) (h : ℕ) → Contains (content_links new.bytes o.content) (name, Header h) → IsHeaderIn table h
  no_links name h at =
      absurd (in_contains (name, Header h) [] (subst (λ (ls : List (List ℕ × Target)). Contains ls (name, Header h)) (ap (content_links new.bytes) its.array) at))

  target_now : IsTouchedObject new.bytes table tree' number o
  target_now = record {
    kept = target_kept old mid set new slots numbers opened parent p t change number o count is its apart;
    object = object_in new.bytes table o;
    there = relinked_others old mid new slots numbers opened parent p t header change is number apart ∙ of.there
        ∙ ap (λ (x : Object). Some x) (sym (target_same old mid set new slots numbers opened parent p t change number o count is its apart table));
    blocks = object_blocks new.bytes o;
    has = told_object new.bytes table o (target_kept old mid set new slots numbers opened parent p t change number o count is its apart) no_links;
    counted = target_counts old mid set new slots numbers opened parent p t change number o count is its apart ∙ counted;
  }

  -- ---- what moves

  once : AreOnce (parent ∷ number ∷ [])
  once =
      let other : (number == parent) ≡ false = let differ = apart in grind (arith, nat_tests, differ) in
      (ap (λ (b : Bool). b || false) other, (refl, tt))

  all_moves : Moves old new ((end_field old.bytes ∷ (object_blocks old.bytes p ++ header)) ++ cells) ((end_field new.bytes ∷ (object_blocks new.bytes p ++ header)) ++ cells)
  all_moves = moves_beside old new (end_field old.bytes ∷ (object_blocks old.bytes p ++ header)) (end_field new.bytes ∷ (object_blocks new.bytes p ++ header)) cells
      (linked_moves old mid new slots numbers opened parent p t header change is)

  covered : (image : List ℕ) → object_blocks image o ≡ header ++ cells → (q : ℕ)
      → cover q (end_field image ∷ flat_map (blocks_at image slots) (parent ∷ number ∷ [])) ≡ cover q ((end_field image ∷ (object_blocks image p ++ header)) ++ cells)
  covered image parts q =
      let first = ap (cover q) (blocks_of_slot image slots parent p is.group) in
      let second = ap (cover q) (blocks_of_slot image slots number o its.target ∙ parts) in
      omega (
        arith,
        first,
        second,
        cover-append q (blocks_at image slots parent) (blocks_at image slots number ++ []),
        cover-append q (blocks_at image slots number) [],
        cover-append q header cells,
        cover-append q (object_blocks image p) header,
        cover-append q (end_field image ∷ (object_blocks image p ++ header)) cells,
      )

  parts_old : object_blocks old.bytes o ≡ header ++ cells
  parts_old = target_parts old mid set new slots numbers opened parent p t change number o count is its apart

  parts_new : object_blocks new.bytes o ≡ header ++ cells
  parts_new = target_blocks old mid set new slots numbers opened parent p t change number o count is its apart ∙ parts_old

  touched_now : (n : ℕ) (x : OpenedObject) → is_among (parent ∷ number ∷ []) n ≡ true → slice_get slots n ≡ Some (Some x) → IsTouchedObject new.bytes table tree' n x
  touched_now n x mine at = elim (among_two parent number n mine) [
    | inl here ↦
        let one : p ≡ x = same_Some p x (same_Some (Some p) (Some x) (sym is.group ∙ ap (slice_get slots) here ∙ at)) in
        subst (IsTouchedObject new.bytes table tree' n) one (subst (λ (k : ℕ). IsTouchedObject new.bytes table tree' k p) here group_now)
    | inr here ↦
        let one : o ≡ x = same_Some o x (same_Some (Some o) (Some x) (sym its.target ∙ ap (slice_get slots) here ∙ at)) in
        subst (IsTouchedObject new.bytes table tree' n) one (subst (λ (k : ℕ). IsTouchedObject new.bytes table tree' k o) here target_now)
  ]

  full : (n : ℕ) → is_among (parent ∷ number ∷ []) n ≡ true → option_flatten (slice_get slots n) ≡ None → ⊥
  full n mine none = elim (among_two parent number n mine) [
    | inl here ↦ (let never : Some p ≡ None = ap option_flatten (sym is.group ∙ ap (slice_get slots) here) ∙ none in cc)
    | inr here ↦ (let never : Some o ≡ None = ap option_flatten (sym its.target ∙ ap (slice_get slots) here) ∙ none in cc)
  ]

  pub both_in_place : IsSlotsInPlace old new slots slots tree tree' (is_among (parent ∷ number ∷ []))
  both_in_place = record {
    moves = touched_moves old new slots slots (parent ∷ number ∷ []) once
        (moves_same old new ((end_field old.bytes ∷ (object_blocks old.bytes p ++ header)) ++ cells) ((end_field new.bytes ∷ (object_blocks new.bytes p ++ header)) ++ cells)
        (end_field old.bytes ∷ flat_map (blocks_at old.bytes slots) (parent ∷ number ∷ [])) (end_field new.bytes ∷ flat_map (blocks_at new.bytes slots) (parent ∷ number ∷ []))
        (covered old.bytes parts_old) (covered new.bytes parts_new) all_moves);
    end = is.end;
    small = is.small;
    slots_moved = slots_stay slots (is_among (parent ∷ number ∷ [])) opened.low;
    same = λ n out. relinked_others old mid new slots numbers opened parent p t header change is n (differs parent n (not_two parent number n out).0);
    counts = λ n out some. counts n (differs number n (not_two parent number n out).1);
    remade = touched_now;
    gone = λ n mine none. absurd (full n mine none);
  }

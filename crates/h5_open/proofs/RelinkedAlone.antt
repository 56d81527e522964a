-- An edit in place that changes the links of one group alone.
use Rattle.std.proofs.Common.{◌≡◌, ℕ, ◌==◌, true, false, Bool, List, [], ◌∷◌, ◌++◌, refl, sym, ap, ◌∙◌, subst, Option, Some, None, arith}
use Rattle.std.specs.Prelude.{slice_get, ◌||◌}
use Rattle.std.specs.Option.{option_flatten}
use Rattle.std.specs.BTreeMap.{BTreeMap}
use Rattle.std.specs.List.{flat_map}
use Rattle.std.proofs.lemmas.Bool.Decides.{nat_tests}
use Rattle.std.proofs.lemmas.Option.{same_Some}
use Rattle.h5_bytes.specs.Blocks.{cover}
use Rattle.h5_bytes.specs.declared.Block.{Block}
use Rattle.h5_model.specs.Edits.Applied.{with_links}
use Rattle.h5_model.specs.Format.Addresses.{SymbolTable}
use Rattle.h5_model.specs.Format.Superblock.{end_field}
use Rattle.h5_model.specs.Tree.Objects.{Tree, Links, hard_links, with_object}
use Rattle.h5_space.specs.Space.{Space}
use Rattle.h5_space.proofs.MovesLaws.{moves_same}
use Rattle.h5_open.specs.declared.opened.object.OpenedObject.{OpenedObject}
use Rattle.h5_open.specs.ChangedInPlace.{is_among}
use Rattle.h5_open.specs.Opened.Kept.{IsOpened}
use Rattle.h5_open.specs.Opened.Objects.{object_blocks, table_of, tree_of}
use Rattle.h5_open.specs.SlotsInPlace.{IsSlotsInPlace, IsTouchedObject, blocks_at}
use Rattle.h5_open.proofs.GroupRelinked.{IsGroupRelinked, linked_moves}
use Rattle.h5_open.proofs.RelinkedTree.{group_touched, relinked_others}
use Rattle.h5_open.proofs.SlotEdits.{slots_stay}
use Rattle.h5_open.proofs.TouchedBlocks.{blocks_of_slot, touched_moves}

-- a number that is among one
among_one : (m n : ℕ) → is_among (m ∷ []) n ≡ true → m ≡ n
among_one m n mine = go (m == n) refl mine where
  go : (b : Bool) → (m == n) ≡ b → (b || false) ≡ true → m ≡ n
  go true here is = grind (arith, nat_tests, here)
  go false here is = absurd (let never : false ≡ true = is in cc)

not_one : (m n : ℕ) → is_among (m ∷ []) n ≡ false → n ≡ m → ⊥
not_one m n out same =
    let here : (m == n) ≡ true = grind (arith, nat_tests, same) in
    let never : true ≡ false = sym (ap (λ (b : Bool). b || false) here) ∙ out in
    absurd (cc)

module _ (old mid new : Space) (slots : List (Option OpenedObject)) (numbers : BTreeMap ℕ ℕ) (opened : IsOpened old slots numbers) (parent : ℕ) (p : OpenedObject) (t : SymbolTable)
    (change : Links → Links) (is : IsGroupRelinked old mid new slots parent p t [] change)
    (counts : (n : ℕ) → hard_links (with_object (tree_of old.bytes slots) parent (with_links change)) n ≡ hard_links (tree_of old.bytes slots) n) where
  abbrev tree : Tree
  tree = tree_of old.bytes slots

  abbrev tree' : Tree
  tree' = with_object tree parent (with_links change)

  group_now : IsTouchedObject new.bytes (table_of slots) tree' parent p
  group_now = group_touched old mid new slots numbers opened parent p t [] change is (counts parent)

  covered : (image : List ℕ) (q : ℕ) → cover q (end_field image ∷ flat_map (blocks_at image slots) (parent ∷ [])) ≡ cover q (end_field image ∷ (object_blocks image p ++ []))
  covered image q = ap (λ (bs : List Block). cover q (end_field image ∷ (bs ++ []))) (blocks_of_slot image slots parent p is.group)

  pub alone_in_place : IsSlotsInPlace old new slots slots tree tree' (is_among (parent ∷ []))
  alone_in_place = record {
    moves = touched_moves old new slots slots (parent ∷ []) (refl, tt)
        (moves_same old new (end_field old.bytes ∷ (object_blocks old.bytes p ++ [])) (end_field new.bytes ∷ (object_blocks new.bytes p ++ []))
        (end_field old.bytes ∷ flat_map (blocks_at old.bytes slots) (parent ∷ [])) (end_field new.bytes ∷ flat_map (blocks_at new.bytes slots) (parent ∷ []))
        (covered old.bytes) (covered new.bytes) (linked_moves old mid new slots numbers opened parent p t [] change is));
    end = is.end;
    small = is.small;
    slots_moved = slots_stay slots (is_among (parent ∷ [])) opened.low;
    same = λ n out. relinked_others old mid new slots numbers opened parent p t [] change is n (not_one parent n out);
    counts = λ n out some. counts n;
    remade = λ n o mine at.
        let here : parent ≡ n = among_one parent n mine in
        let now : p ≡ o = same_Some p o (same_Some (Some p) (Some o) (sym is.group ∙ ap (slice_get slots) here ∙ at)) in
        subst (IsTouchedObject new.bytes (table_of slots) tree' n) now (subst (λ (k : ℕ). IsTouchedObject new.bytes (table_of slots) tree' k p) here group_now);
    gone = λ n mine none.
        let here : parent ≡ n = among_one parent n mine in
        absurd (let never : Some p ≡ None = ap option_flatten (sym (ap (slice_get slots) (sym here) ∙ is.group)) ∙ none in cc);
  }

-- A soft link that is put into a group of an opened image where the group stands is an edit in place.
use Rattle.std.proofs.Common.{◌≡◌, ℕ, ◌+◌, ◌≤◌, List, [], ◌∷◌, length, arith, Option, None}
use Rattle.std.specs.BTreeMap.{BTreeMap}
use Rattle.std.specs.FinMap.{insert}
use Rattle.h5_model.specs.Edits.Applied.{with_links}
use Rattle.h5_model.specs.Format.Addresses.{SymbolTable}
use Rattle.h5_model.specs.Format.Symbols.{Text}
use Rattle.h5_model.specs.Tree.Objects.{Tree, Soft, hard_links, link_in, with_object}
use Rattle.h5_space.specs.Space.{Space}
use Rattle.h5_laws.specs.Trees.Sound.{IsSoundTree}
use Rattle.h5_open.specs.declared.opened.object.OpenedObject.{OpenedObject}
use Rattle.h5_open.specs.ChangedInPlace.{IsChangedInPlace, is_among}
use Rattle.h5_open.specs.Opened.Kept.{IsOpened}
use Rattle.h5_open.specs.Opened.Objects.{table_of, tree_of}
use Rattle.h5_open.specs.Opened.State.{opened_state}
use Rattle.h5_open.specs.SlotsInPlace.{IsSlotsInPlace}
use Rattle.h5_open.proofs.GroupLinked.{IsGroupLinked, relinked, with_one}
use Rattle.h5_open.proofs.LinkTree.{linked_counts}
use Rattle.h5_open.proofs.RelinkedAlone.{alone_in_place}
use Rattle.h5_open.proofs.SlotsInPlace.{slots_changed, slots_opened}

module _ (old mid new : Space) (slots : List (Option OpenedObject)) (numbers : BTreeMap ℕ ℕ) (opened : IsOpened old slots numbers) (parent : ℕ) (p : OpenedObject) (t : SymbolTable)
    (name text : List ℕ) (is : IsGroupLinked old mid new slots parent p t name (Text text) []) (free : link_in (tree_of old.bytes slots) parent name ≡ None) where
  abbrev tree : Tree
  tree = tree_of old.bytes slots

  abbrev tree' : Tree
  tree' = with_object tree parent (with_links (λ links. insert links name (Soft text)))

  counts : (n : ℕ) → hard_links tree' n ≡ hard_links tree n
  counts n = omega (arith, linked_counts old mid new slots numbers opened parent p t name (Text text) [] is free n)

  soft_in_place : IsSlotsInPlace old new slots slots tree tree' (is_among (parent ∷ []))
  soft_in_place = alone_in_place old mid new slots numbers opened parent p t (with_one (table_of slots) name (Text text))
      (relinked old mid new slots numbers opened parent p t name (Text text) [] is) counts

  -- ---- so

  pub soft_opened : IsSoundTree tree' → IsOpened new slots numbers
  soft_opened good = slots_opened old new slots slots numbers numbers opened tree' (is_among (parent ∷ [])) good soft_in_place opened.index

  pub soft_changed : IsSoundTree tree' → (bytes : ℕ) → length new.bytes ≤ length old.bytes + bytes
      → IsChangedInPlace (opened_state old slots) (opened_state new slots) tree' (length slots) (parent ∷ []) bytes
  soft_changed good bytes room = slots_changed old new slots slots numbers numbers opened tree' (parent ∷ []) bytes good soft_in_place opened.index room

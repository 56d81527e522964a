-- A group of an opened image, by its number: its slot, the group that stands there, and what is told of each table of it.
use Rattle.std.proofs.Common.{◌≡◌, ℕ, List, sym, subst, Option, IsSome}
use Rattle.std.specs.BTreeMap.{BTreeMap}
use Rattle.h5_model.specs.Format.Addresses.{SymbolTable}
use Rattle.h5_model.specs.Tree.Objects.{links_of}
use Rattle.h5_space.specs.Space.{Space}
use Rattle.h5_group.specs.LinkEdits.{IsGroupApart}
use Rattle.h5_open.specs.declared.opened.object.OpenedObject.{OpenedObject}
use Rattle.h5_open.specs.LinkAdded.{IsGroupOf, IsGroupSlot}
use Rattle.h5_open.specs.Opened.Kept.{IsOpened}
use Rattle.h5_open.specs.Opened.State.{FileState, opened_state}
use Rattle.h5_open.proofs.GroupTable.{one_table, table_of_slot}
use Rattle.h5_open.proofs.LinkCalls.{group_stood}
use Rattle.h5_open.proofs.LinkSlots.{group_slot}

-- the slots that were lent
pub group_lent : (lent slots : List (Option OpenedObject)) (number : ℕ) (t : SymbolTable) → lent ≡ slots → IsGroupSlot lent number t → IsGroupSlot slots number t
group_lent lent slots number t same = subst (λ (xs : List (Option OpenedObject)). IsGroupSlot xs number t) same

module _ (old : Space) (slots : List (Option OpenedObject)) (numbers : BTreeMap ℕ ℕ) (opened : IsOpened old slots numbers) (f : FileState) (view : opened_state old slots ≡ f)
    (parent : ℕ) where
  pub group_found : IsSome (links_of f.tree parent) → (t : SymbolTable) × IsGroupSlot slots parent t
  group_found some = group_slot old.bytes slots parent (subst (λ (g : FileState). IsSome (links_of g.tree parent)) (sym view) some)

  module _ (t : SymbolTable) (slot : IsGroupSlot slots parent t) where
    pub group_here : IsGroupApart old t
    group_here = group_stood old slots numbers opened parent slot.0 t slot.1 slot.2

    -- a table of the group is this one
    pub one_here : (u : SymbolTable) → IsGroupOf f parent u → t ≡ u
    one_here u is =
        one_table (opened_state old slots) parent t u (table_of_slot old slots numbers opened parent t slot) (subst (λ (g : FileState). IsGroupOf g parent u) (sym view) is)

    -- so what holds of it holds of each
    pub told_of : (P : List ℕ → SymbolTable → Type 0) → P old.bytes t → (u : SymbolTable) → IsGroupOf f parent u → P f.image u
    told_of P holds u is = subst (P f.image) (one_here u is) (subst (λ (g : FileState). P g.image t) view holds)

-- A link put into a group of an opened image where the group stands: the group, where the link leads, and the tree with the link (File
-- Format Specification 3.0, sections III.A.1 and III.C).
use Rattle.std.specs.Prelude.{◌≡◌, ℕ, IsSome, Option, Some, option_and_then, List, [], ◌∷◌, ⊤, slice_get}
use Rattle.std.specs.FinMap.{get, insert}
use Rattle.h5_bytes.specs.declared.Block.{Block}
use Rattle.h5_model.specs.declared.link.LinkTo.{LinkTo}
use Rattle.h5_model.specs.declared.link.LinkTo.TheVariants as to
use Rattle.h5_model.specs.declared.object_no.ObjectNo.{ObjectNo}
use Rattle.h5_model.specs.Edits.Applied.{with_links}
use Rattle.h5_model.specs.Format.Addresses.{SymbolTable, symbol_table_of}
use Rattle.h5_model.specs.Format.MessageTypes.{symbol_table_kind}
use Rattle.h5_model.specs.Format.Messages.{Message, HasMessages, first_body}
use Rattle.h5_model.specs.Tree.Objects.{Tree, Soft, ToObject, dataset_of, with_object}
use Rattle.h5_model.specs.Tree.Objects as tree
use Rattle.h5_group.specs.Heap.Links.{Leads, ToArray, ToText}
use Rattle.h5_open.specs.declared.opened.object.OpenedObject.{OpenedObject}
use Rattle.h5_open.specs.declared.opened.object.OpenedContent.TheVariants as content
use Rattle.h5_open.specs.Opened.Objects.{header_of}
use Rattle.h5_open.specs.Opened.State.{FileState}

-- the slot of this number has a group, at this tree and heap
abbrev pub IsGroupSlot : List (Option OpenedObject) → ℕ → SymbolTable → Type 0
IsGroupSlot slots number table = (p : OpenedObject) × (slice_get slots number ≡ Some (Some p)) × (p.content ≡ content.Group table)

-- the slot of this number has an array
abbrev pub IsArraySlot : List (Option OpenedObject) → ℕ → OpenedObject → Type 0
IsArraySlot slots number o = (slice_get slots number ≡ Some (Some o)) × (o.content ≡ content.Array)

-- a link leads to an array in its slot, or to a text
abbrev pub IsTargetSlot : List (Option OpenedObject) → LinkTo ObjectNo → Type 0
IsTargetSlot slots (to.Object number) = (o : OpenedObject) × IsArraySlot slots number.0 o
IsTargetSlot slots (to.Soft text) = ⊤

-- the same, by the header of the array
abbrev pub IsLeadOf : List (Option OpenedObject) → LinkTo ObjectNo → Leads → Type 0
IsLeadOf slots (to.Object number) lead = (o : OpenedObject) × IsArraySlot slots number.0 o × (lead ≡ ToArray (header_of o))
IsLeadOf slots (to.Soft text) lead = lead ≡ ToText text.now

-- The object of this number is a group, at this tree and heap, as the messages of its header say.
pub record IsGroupOf (f : FileState) (number : ℕ) (table : SymbolTable) : Type 0 where
  pub header : ℕ
  pub at : get f.table number ≡ Some header
  pub messages : List Message
  pub blocks : List Block
  pub listed : HasMessages f.image header messages blocks
  pub names : option_and_then symbol_table_of (first_body symbol_table_kind messages) ≡ Some table

-- a link leads to an array of the tree, or to a text
abbrev pub IsLinkTarget : Tree → tree.Link → Type 0
IsLinkTarget tree (ToObject number) = IsSome (dataset_of tree number)
IsLinkTarget tree (Soft text) = ⊤

-- the tree with a link more in one of its groups
abbrev pub with_link : Tree → ℕ → List ℕ → tree.Link → Tree
with_link tree parent name link = with_object tree parent (with_links (λ links. insert links name link))

-- the objects that are touched where a link comes or goes: the group, and the object to which the link leads
abbrev pub ends_of : ℕ → tree.Link → List ℕ
ends_of parent (ToObject number) = parent ∷ number ∷ []
ends_of parent (Soft text) = parent ∷ []

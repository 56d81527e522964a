-- The tree and the heap of a group of an opened image, as the messages of its header say.
use Rattle.std.proofs.Common.{◌≡◌, ℕ, List, sym, ◌∙◌, subst, Option, Some}
use Rattle.std.specs.Prelude.{option_and_then}
use Rattle.std.specs.BTreeMap.{BTreeMap}
use Rattle.std.proofs.lemmas.Option.{same_Some}
use Rattle.h5_model.specs.Format.Addresses.{SymbolTable, symbol_table_of}
use Rattle.h5_model.specs.Format.MessageTypes.{symbol_table_kind}
use Rattle.h5_model.specs.Format.Messages.{Message, HasMessages, first_body}
use Rattle.h5_model.proofs.OneReading.{one_messages, some_same}
use Rattle.h5_space.specs.Space.{Space}
use Rattle.h5_header.specs.Listed.{messages_in}
use Rattle.h5_open.specs.declared.opened.object.OpenedObject.{OpenedObject}
use Rattle.h5_open.specs.declared.opened.object.OpenedContent.{OpenedContent}
use Rattle.h5_open.specs.declared.opened.object.OpenedContent.TheVariants as content
use Rattle.h5_open.specs.LinkAdded.{IsGroupOf, IsGroupSlot}
use Rattle.h5_open.specs.Opened.Kept.{IsContentKept, IsOpened}
use Rattle.h5_open.specs.Opened.Objects.{header_of}
use Rattle.h5_open.specs.Opened.State.{FileState, opened_state}
use Rattle.h5_open.proofs.OpenedLaws.Sounds.{object_of}

-- the messages say one of each
pub one_table : (f : FileState) (number : ℕ) (t u : SymbolTable) → IsGroupOf f number t → IsGroupOf f number u → t ≡ u
one_table f number t u is too =
    let header : is.header ≡ too.header = same_Some is.header too.header (sym is.at ∙ too.at) in
    let listed : HasMessages f.image is.header too.messages too.blocks
    = subst (λ (h : ℕ). HasMessages f.image h too.messages too.blocks) (sym header) too.listed in
    let same : is.messages ≡ too.messages = one_messages f.image is.header is.messages too.messages is.blocks too.blocks is.listed listed in
    some_same (option_and_then symbol_table_of (first_body symbol_table_kind is.messages)) t u is.names
    (subst (λ (ms : List Message). option_and_then symbol_table_of (first_body symbol_table_kind ms) ≡ Some u) (sym same) too.names)

-- and they are those of the group's slot
pub table_of_slot : (image : Space) (slots : List (Option OpenedObject)) (numbers : BTreeMap ℕ ℕ) → IsOpened image slots numbers → (number : ℕ) (t : SymbolTable)
    → IsGroupSlot slots number t → IsGroupOf (opened_state image slots) number t
table_of_slot image slots numbers opened number t slot =
    let p : OpenedObject = slot.0 in
    let of = object_of image slots numbers opened number p slot.1 in
    let ms : List Message = messages_in image.bytes p.messages.list in
    let kept : IsContentKept image.bytes ms (content.Group t) = subst (λ (c : OpenedContent). IsContentKept image.bytes ms c) slot.2 of.kept.content in
    record { header = header_of p; at = of.header; messages = ms; blocks = p.messages.blocks; listed = of.kept.header.has; names = kept.1 }

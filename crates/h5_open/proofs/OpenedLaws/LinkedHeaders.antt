-- The header that a link of a group names is that of an object.
use Rattle.std.proofs.Common.{◌≡◌, ℕ, List, sym, subst, inl, inr, arith}
use Rattle.std.specs.Ordering.{nat_cmp}
use Rattle.std.specs.FinMap.{FinMap, entries}
use Rattle.h5_model.specs.Format.Addresses.{SymbolTable}
use Rattle.h5_model.specs.Format.Messages.{Message, HasMessages}
use Rattle.h5_model.specs.Format.Reads.{HasContent, IsSame}
use Rattle.h5_model.specs.Format.Symbols.{Header}
use Rattle.h5_model.specs.Tree.Objects.{Link, ToObject, Soft}
use Rattle.h5_model.proofs.OneReading.{one_group, one_messages}
use Rattle.h5_header.specs.Listed.{messages_in}
use Rattle.h5_group.specs.Told.{links_told, blocks_told}
use Rattle.h5_laws.proofs.Lists.{In}
use Rattle.h5_laws.proofs.Maps.{tied_left}
use Rattle.h5_laws.proofs.Objects.{content_cases, has_object, object_at}
use Rattle.h5_open.specs.declared.opened.object.OpenedObject.{OpenedObject}
use Rattle.h5_open.specs.declared.opened.object.OpenedContent.TheVariants as content
use Rattle.h5_open.specs.Opened.Kept.{IsContentKept}
use Rattle.h5_open.specs.Opened.Sound.{IsSound, IsObjectOf, IsHeaderIn}
use Rattle.h5_open.specs.Opened.State.{FileState}
use Rattle.h5_open.proofs.OpenedLaws.ReadBlocks.{group_kept}

hard_to : (table : FinMap nat_cmp ℕ) (l : List ℕ × Link) (name : List ℕ) (header : ℕ) → IsSame table l (name, Header header) → IsHeaderIn table header
hard_to table (n, ToObject number) name header is = (number, is.1)
hard_to table (n, Soft text) name header is = absurd is

pub linked_header : (f : FileState) → IsSound f → (number : ℕ) (o : OpenedObject) → IsObjectOf f number o → (g : SymbolTable) → o.content ≡ content.Group g
    → (name : List ℕ) (header : ℕ) → In (name, Header header) (links_told f.image g) → IsHeaderIn f.table header
linked_header f sound number o of g is name header there =
    let ms = messages_in f.image o.messages.list in
    let x = object_at f.image f.table f.tree sound.placed sound.reads.holds number o.messages.header of.header in
    let has = has_object f.image f.table f.tree sound.placed sound.reads.holds x.0 x.1 in
    let listed = subst (λ (h : ℕ). HasMessages f.image h has.messages has.header_blocks) x.3 has.listed in
    let same : has.messages ≡ ms = one_messages f.image o.messages.header has.messages ms has.header_blocks o.messages.blocks listed ((of.kept).header).has in
    let here : HasContent f.image f.table ms (x.0).object.content has.content_blocks
    = subst (λ (l : List Message). HasContent f.image f.table l (x.0).object.content has.content_blocks) same has.content in
    let kept : IsContentKept f.image ms (content.Group g) = subst (IsContentKept f.image ms) is (of.kept).content in
    elim (content_cases f.image f.table ms (x.0).object.content has.content_blocks here) [
      | inl c ↦
          let told = group_kept f.image ms c.2 has.content_blocks g c.3 kept in
          let one : c.2 ≡ links_told f.image g = one_group f.image ms c.2 (links_told f.image g) has.content_blocks (blocks_told f.image g) c.3 told in
          let tied = tied_left (IsSame f.table) (entries c.0) c.2 (name, Header header) c.4 (subst (In (name, Header header)) (sym one) there) in
          hard_to f.table tied.0 name header tied.2
      | inr d ↦ absurd (omega (arith, d.2.array.one_space, (kept.0).alone.0))
    ]

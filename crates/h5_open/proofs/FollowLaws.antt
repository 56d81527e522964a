-- A link that leads to no object, to one that was read before, or to a new one.
use Rattle.std.proofs.Common.{Bor, ap, ◌≡◌, ◌≢◌, ◌==◌, inl, ℕ, ◌+◌, ◌-◌, ◌<◌, ◌≤◌, List, [], ◌∷◌, ◌++◌, length, get_or, refl, sym, ◌∙◌, subst, Some, arith}
use Rattle.std.specs.List.{Contains}
use Rattle.std.specs.Prelude.{slice_get}
use Rattle.std.proofs.lemmas.List.{append-nil}
use Rattle.h5_model.specs.Format.Limits.{most_hard_links, most_names}
use Rattle.h5_model.specs.Format.MessageTypes.{symbol_table_kind}
use Rattle.h5_bytes.specs.declared.Block.{Block}
use Rattle.h5_model.specs.Format.Reached.{Named, naming_of, ObjectHeader}
use Rattle.h5_model.specs.Faults.HeaderFaults.{SomeMessage}
use Rattle.h5_model.specs.Format.Symbols.{Target, Header, Text}
use Rattle.h5_model.specs.declared.open_fault.Cause.{Cause}
use Rattle.h5_model.specs.declared.open_fault.Cause.TheVariants.{GroupLinkedTwice, TooLarge}
use Rattle.h5_header.specs.Listed.{messages_in}
use Rattle.h5_laws.proofs.Lists.{In, in_all, in_at, in_contains, contains_in, in_right}
use Rattle.h5_header.specs.Walk.Walked.{IsFollowed}
use Rattle.h5_header.proofs.WalkLaws.ListLaws.{prefix_there}
use Rattle.h5_header.specs.Kinds.{IsOfGroup}
use Rattle.h5_open.specs.declared.opened.object.OpenedObject.{OpenedObject}
use Rattle.h5_open.specs.declared.opened.object.OpenedContent.{OpenedContent}
use Rattle.h5_open.specs.declared.opened.object.OpenedContent.TheVariants as content
use Rattle.h5_open.specs.Counted.Counts.{AreCounted, IsLinkedFully, IsRefusedAgain}
use Rattle.h5_open.specs.Counted.Links.{leading_links, all_links}
use Rattle.h5_open.specs.Opened.Kept.{IsObjectKept, IsContentKept}
use Rattle.h5_open.specs.Opened.Refused.{IsOpenRefusedAt}
use Rattle.h5_open.specs.Opened.Objects.{content_links}
use Rattle.h5_open.specs.Placed.Whole.{IsGroupContent}
use Rattle.h5_open.specs.Walk.{IsNamedBy, IsUnder, IsReady, AreFurtherObjects, IsTreeRead, IsLinkReady, IsLinkRead, CountsLink}
use Rattle.h5_group.specs.Links.{lent_target}
use Rattle.h5_model.specs.declared.link.LinkTo.{LinkTo}
use Rattle.h5_model.specs.declared.link.LinkTo.TheVariants as target
use Rattle.h5_open.proofs.CountedLaws.CountLaws.{counted_text, one_more}
use Rattle.h5_open.proofs.FoundLaws.{group_at}
use Rattle.h5_open.proofs.GrowLaws.{bare}

-- ---- nothing is read

nothing : (image : List ℕ) (held : List Block) (followed : List Named) (objects : List OpenedObject) (field : ℕ) → IsUnder image held followed objects
    → AreFurtherObjects image held held followed field objects objects []
nothing image held followed objects field under = record { grown = sym (append-nil objects); new = []; under = under; stands = tt; led = tt }

pub array_read : (image : List ℕ) (held : List Block) (followed : List Named) (objects : List OpenedObject) (field header depth : ℕ) (name : List ℕ)
    → IsReady image held followed objects field header (depth + 1) → (o : OpenedObject) → Contains objects o → o.messages.header ≡ header → (IsGroupContent o.content → ⊥)
    → IsLinkRead image held held followed objects objects field depth (name, Header header)
array_read image held followed objects field header depth name ready o among same array = record {
  more = [];
  further = nothing image held followed objects field ready.under;
  led = (o, among, same, bare image objects (most_names - (depth + 1)) o (none o.content array));
} where
  none : (c : OpenedContent) → (IsGroupContent c → ⊥) → content_links image c ≡ []
  none (content.Group t) array = absurd (array tt)
  none content.Array array = refl

-- ---- a new object is read

pub tree_read : (image : List ℕ) (held now : List Block) (followed : List Named) (objects after : List OpenedObject) (field header depth : ℕ) (name : List ℕ)
    → IsTreeRead image held now followed objects after field header (depth + 1) → IsLinkRead image held now followed objects after field depth (name, Header header)
tree_read image held now followed objects after field header depth name tree = record {
  more = tree.object ∷ tree.others;
  further = tree.further;
  led = (tree.object, there, tree.header_is, tree.shallow);
} where
  there : Contains after tree.object
  there = subst (λ (xs : List OpenedObject). Contains xs tree.object) (sym (tree.further).grown)
      (contains_in tree.object (objects ++ tree.object ∷ tree.others) (in_right tree.object objects (tree.object ∷ tree.others) (inl refl)))

-- ---- a group is met a second time

group_of : (image : List ℕ) (o : OpenedObject) → IsObjectKept image o → IsGroupContent o.content → IsOfGroup (messages_in image o.messages.list)
group_of image o kept group = go o.content kept.content group where
  go : (c : OpenedContent) → IsContentKept image (messages_in image o.messages.list) c → IsGroupContent c → IsOfGroup (messages_in image o.messages.list)
  go (content.Group t) is group = is.0
  go content.Array is group = absurd group

twice : (image : List ℕ) (held : List Block) (followed : List Named) (objects : List OpenedObject) (field header depth : ℕ) → IsReady image held followed objects field header depth
    → (o : OpenedObject) → Contains objects o → o.messages.header ≡ header → IsGroupContent o.content → IsOpenRefusedAt image GroupLinkedTwice header
twice image held followed objects field header depth ready o among same group =
    let at : In o objects = in_contains o objects among in
    let kept : IsObjectKept image o = in_all (IsObjectKept image) o objects (ready.under).each at in
    let by : IsNamedBy followed o = in_all (IsNamedBy followed) o objects (ready.under).named at in
    let is : IsFollowed image held by.0 = in_all (IsFollowed image held) by.0 followed ((ready.under).walked).all (in_contains by.0 followed by.1) in
    let other : by.0.field ≢ field = in_all (λ (z : Named). z.field ≢ field) by.0 followed (ready.met).fresh (in_contains by.0 followed by.1) in (
      naming_of field ObjectHeader header depth,
      (ready.met).reached,
      refl,
      (
        subst (λ (h : ℕ). h + 16 ≤ length image) same (prefix_there image o.messages.header (messages_in image o.messages.list) o.messages.blocks (kept.header).has (kept.header).inside),
        (
          refl,
          subst (λ (h : ℕ). SomeMessage image h (λ kind. kind == symbol_table_kind)) same (group_at image o.messages.header (messages_in image o.messages.list) o.messages.blocks (kept.header).has (group_of image o kept group)),
          (by.0, is.reached, other, by.2 ∙ same, by.3),
        ),
      ),
    )

-- ---- an array is met once too often

too_often : (image : List ℕ) (held : List Block) (followed : List Named) (objects : List OpenedObject) (field header depth : ℕ) → IsReady image held followed objects field header depth
    → (counts : List ℕ) (name : List ℕ) (waiting : List (List ℕ × Target)) → AreCounted image objects counts ((name, Header header) ∷ waiting)
    → (number : ℕ) (o : OpenedObject) → slice_get objects number ≡ Some o → o.messages.header ≡ header → most_hard_links ≤ get_or counts number 0 → IsOpenRefusedAt image TooLarge header
too_often image held followed objects field header depth ready counts name waiting are number o here same most =
    let kept : IsObjectKept image o = in_all (IsObjectKept image) o objects (ready.under).each (in_at objects number o here) in
    let met = (ready.under).fields header in
    let one : leading_links header ((name, Header header) ∷ waiting) ≡ 1 + leading_links header waiting = one_more header header name waiting refl in
    let exact : get_or counts number 0 + leading_links header ((name, Header header) ∷ waiting) ≡ leading_links header (all_links image objects)
    = subst (λ (h : ℕ). get_or counts number 0 + leading_links h ((name, Header header) ∷ waiting) ≡ leading_links h (all_links image objects)) same (are.each number o here).exact in
    let many : most_hard_links < length met.fields = omega (arith, most, one, exact, met.long) in (
      naming_of field ObjectHeader header depth,
      (ready.met).reached,
      refl,
      (
        subst (λ (h : ℕ). h + 16 ≤ length image) same (prefix_there image o.messages.header (messages_in image o.messages.list) o.messages.blocks (kept.header).has (kept.header).inside),
        inl (refl, (met.fields, met.name, many)),
      ),
    )

-- what is not counted is refused
pub refused_again : (image : List ℕ) (held : List Block) (followed : List Named) (objects : List OpenedObject) (field header depth : ℕ) → IsReady image held followed objects field header depth
    → (counts : List ℕ) (name : List ℕ) (waiting : List (List ℕ × Target)) → AreCounted image objects counts ((name, Header header) ∷ waiting)
    → (number : ℕ) (o : OpenedObject) → slice_get objects number ≡ Some o → o.messages.header ≡ header → (cause : Cause) (address : ℕ)
    → IsRefusedAgain o (get_or counts number 0) cause address → IsOpenRefusedAt image cause address
refused_again image held followed objects field header depth ready counts name waiting are number o here same cause address refused =
    subst (IsOpenRefusedAt image cause) (sym (refused.header ∙ same)) (go cause refused.full) where
      go : (c : Cause) → IsLinkedFully o (get_or counts number 0) c → IsOpenRefusedAt image c header
      go GroupLinkedTwice group = twice image held followed objects field header depth ready o (contains_in o objects (in_at objects number o here)) same group
      go TooLarge most = too_often image held followed objects field header depth ready counts name waiting are number o here same most
      go _ never = absurd never

-- ---- by the link's target

-- where a link leads, by what was told of it
pub leads_to : (t : Target) (to : LinkTo ℕ) (header : ℕ) → lent_target to ≡ t → to ≡ target.Object header → t ≡ Header header
leads_to t to header same is = sym same ∙ ap lent_target is

pub leads_to_text : (t : Target) (to : LinkTo ℕ) (text : Bor (List ℕ)) → lent_target to ≡ t → to ≡ target.Soft text → t ≡ Text text.now
leads_to_text t to text same is = sym same ∙ ap lent_target is

pub leads_to_none : (t : Target) (to : LinkTo ℕ) → lent_target to ≡ t → ((header : ℕ) → to ≡ target.Object header → ⊥) → (header : ℕ) → t ≡ Header header → ⊥
leads_to_none t (target.Object at) same none header is = none at refl
leads_to_none t (target.Soft text) same none header is = let never : Text text.now ≡ Header header = same ∙ is in cc

pub ready_at : (image : List ℕ) (held : List Block) (followed : List Named) (objects : List OpenedObject) (field depth : ℕ) (l : List ℕ × Target) (header : ℕ) → l.1 ≡ Header header
    → IsLinkReady image held followed objects field depth l → IsReady image held followed objects field header (depth + 1)
ready_at image held followed objects field depth l header is ready =
    subst (λ (t : Target). IsLinkReady image held followed objects field depth (l.0, t)) is ready

pub counted_at : (image : List ℕ) (objects : List OpenedObject) (counts : List ℕ) (waiting : List (List ℕ × Target)) (l : List ℕ × Target) (header : ℕ) → l.1 ≡ Header header
    → AreCounted image objects counts (l ∷ waiting) → AreCounted image objects counts ((l.0, Header header) ∷ waiting)
counted_at image objects counts waiting l header is are =
    subst (λ (t : Target). AreCounted image objects counts ((l.0, t) ∷ waiting)) is are

-- a soft link is no more to count
pub soft_counted : (image : List ℕ) (objects : List OpenedObject) (counts : List ℕ) (l : List ℕ × Target) (text : List ℕ) → l.1 ≡ Text text
    → CountsLink image objects counts objects counts l
soft_counted image objects counts l text is waiting are =
    counted_text image objects counts l.0 text waiting
    (subst (λ (t : Target). AreCounted image objects counts ((l.0, t) ∷ waiting)) is are)

pub read_at : (image : List ℕ) (held now : List Block) (followed : List Named) (objects after : List OpenedObject) (field depth : ℕ) (l : List ℕ × Target) (header : ℕ) → l.1 ≡ Header header
    → IsLinkRead image held now followed objects after field depth (l.0, Header header) → IsLinkRead image held now followed objects after field depth l
read_at image held now followed objects after field depth l header is read =
    subst (λ (t : Target). IsLinkRead image held now followed objects after field depth (l.0, t)) (sym is) read

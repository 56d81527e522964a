-- A link that is put into a group of an opened image, then counted in the header of an array to which it leads, and then the end of file
-- address written: what is known before, and what the image is then.
use Rattle.std.proofs.Common.{◌≡◌, ◌↔◌, ℕ, ◌+◌, ◌<◌, ◌≤◌, true, List, [], ◌∷◌, ◌++◌, length, refl, sym, ap, ◌∙◌, subst, arith, Option, Some, None, IsSome, Ok, Err}
use Rattle.std.specs.BTreeMap.{BTreeMap}
use Rattle.std.proofs.lemmas.Option.{same_Some}
use Rattle.h5_model.specs.Format.Limits.{most_bytes, most_hard_links}
use Rattle.h5_model.specs.declared.link.Link.{Link}
use Rattle.h5_model.specs.declared.link.LinkTo.{LinkTo}
use Rattle.h5_model.specs.declared.link.LinkTo.TheVariants as to
use Rattle.h5_model.specs.declared.object_no.ObjectNo.{ObjectNo}
use Rattle.h5_model.specs.Format.Addresses.{SymbolTable}
use Rattle.h5_model.specs.Format.Messages.{prefix_at, reference_count}
use Rattle.h5_model.specs.Format.PlainLength.{link_span}
use Rattle.h5_model.specs.Format.Superblock.{k_values, superblock_length, end_of_file, end_field}
use Rattle.h5_model.specs.Format.Symbols.{Header, Text}
use Rattle.h5_model.specs.Tree.Links.{tree_target}
use Rattle.h5_model.specs.Tree.Objects.{link_in, links_of}
use Rattle.h5_model.specs.Tree.Paths.{is_name}
use Rattle.h5_space.specs.Moves.{Moves, Spends}
use Rattle.h5_space.specs.Space.{Space}
use Rattle.h5_header.specs.Listed.{messages_in}
use Rattle.h5_header.specs.Standing.{IsStanding}
use Rattle.h5_group.specs.Exact.{HasExactKeys}
use Rattle.h5_group.specs.Edited.{IsLinkPut}
use Rattle.h5_group.specs.Heap.Links.{Leads, ToArray, target_link, target_of_leads}
use Rattle.h5_group.specs.Heap.Written.{texts_span}
use Rattle.h5_group.specs.LinkEdits.{IsFullFor, IsGroupApart, IsPlainLead, link_room}
use Rattle.h5_group.specs.Links.{HasNone}
use Rattle.h5_group.specs.Told.{blocks_told, links_told}
use Rattle.h5_laws.specs.Trees.Sound.{IsSoundTree}
use Rattle.h5_open.specs.declared.opened.object.OpenedObject.{OpenedObject}
use Rattle.h5_open.specs.ChangedInPlace.{IsChangedInPlace}
use Rattle.h5_open.specs.LinkAdded.{IsArraySlot, IsGroupOf, IsGroupSlot, IsLeadOf, IsLinkTarget, IsTargetSlot, ends_of, with_link}
use Rattle.h5_open.specs.Opened.Kept.{IsOpened}
use Rattle.h5_open.specs.Opened.Objects.{header_of, tree_of}
use Rattle.h5_open.specs.Opened.State.{FileState, opened_state}
use Rattle.h5_open.proofs.GroupOf.{group_found, group_here, one_here, told_of}
use Rattle.h5_open.proofs.HardLinkAdded.{hard_changed, hard_opened}
use Rattle.h5_open.proofs.LinkAdded.{soft_changed, soft_opened}
use Rattle.h5_open.proofs.LinkCalls.{hard_put, name_is_new, name_is_one, soft_put, target_few, text_is_plain}
use Rattle.h5_open.proofs.LinkSlots.{array_slot}
use Rattle.h5_open.proofs.TargetCounted.{IsTargetCounted}
use Rattle.h5_open.proofs.TargetStands.{marked_long, still_standing}

-- one link more is counted in the header of an array
pub record IsHeaderCounted (mid set : Space) (o : OpenedObject) : Type 0 where
  pub standing : IsStanding set.bytes o.messages
  pub messages : messages_in set.bytes o.messages.list ≡ messages_in mid.bytes o.messages.list
  pub counted : reference_count (prefix_at set.bytes (header_of o)) ≡ reference_count (prefix_at mid.bytes (header_of o)) + 1
  pub moves : Moves mid set o.messages.blocks o.messages.blocks
  pub long : length set.bytes ≡ length mid.bytes

-- where a link leads to one; where it leads to a text nothing is
abbrev pub IsCountedAt : Space → Space → List (Option OpenedObject) → LinkTo ObjectNo → Type 0
IsCountedAt mid set slots (to.Object number) = (o : OpenedObject) × IsArraySlot slots number.0 o × IsHeaderCounted mid set o
IsCountedAt mid set slots (to.Soft text) = set ≡ mid

counted_long : (mid set : Space) (slots : List (Option OpenedObject)) (to : LinkTo ObjectNo) → IsCountedAt mid set slots to → length set.bytes ≡ length mid.bytes
counted_long mid set slots (to.Object number) is = is.2.long
counted_long mid set slots (to.Soft text) same = ap (λ (s : Space). length s.bytes) same

-- ---- where it leads

target_slot : (image : List ℕ) (slots : List (Option OpenedObject)) (to : LinkTo ObjectNo) → IsLinkTarget (tree_of image slots) (tree_target to) → IsTargetSlot slots to
target_slot image slots (to.Object number) some = array_slot image slots number.0 some
target_slot image slots (to.Soft text) some = tt

span_by : (slots : List (Option OpenedObject)) (name : List ℕ) (to : LinkTo ObjectNo) (lead : Leads) → IsLeadOf slots to lead → texts_span (name, lead) ≡ link_span (name, tree_target to)
span_by slots name (to.Object number) lead is = ap (λ (l : Leads). texts_span (name, l)) is.2
span_by slots name (to.Soft text) lead is = ap (λ (l : Leads). texts_span (name, l)) is

pub no_fault : {A E : Type 0} (a : A) (e : E) → Ok a ≡ Err e → ⊥
no_fault a e is = absurd (cc)

-- what is left of the room, where neither refusal holds
pub fits_by : (Deep Full Filled : Type 0) (k : ℕ) → (Deep → ⊥) → (Full → ⊥) → Deep ↔ Filled → Full ↔ ((Filled → ⊥) × (most_bytes < k)) → k ≤ most_bytes
fits_by Deep Full Filled k no_deep no_full deep full =
    let high : most_bytes < k → ⊥ = λ more. no_full (full.1 (λ filled. no_deep (deep.1 filled), more)) in
    omega (arith, high)

module _ (old : Space) (slots : List (Option OpenedObject)) (numbers : BTreeMap ℕ ℕ) (opened : IsOpened old slots numbers) (f : FileState) (view : opened_state old slots ≡ f)
    (parent : ℕ) (link : Link ObjectNo) (group : IsSome (links_of f.tree parent)) (free : link_in f.tree parent link.name.now ≡ None) (target : IsLinkTarget f.tree (tree_target link.to))
    (good : IsSoundTree (with_link f.tree parent link.name.now (tree_target link.to))) where
  abbrev name : List ℕ
  name = link.name.now

  abbrev state : FileState
  state = opened_state old slots

  free_here : link_in (tree_of old.bytes slots) parent name ≡ None
  free_here = subst (λ (g : FileState). link_in g.tree parent name ≡ None) (sym view) free

  good_here : IsSoundTree (with_link (tree_of old.bytes slots) parent name (tree_target link.to))
  good_here = subst (λ (g : FileState). IsSoundTree (with_link g.tree parent name (tree_target link.to))) (sym view) good

  pub group_there : (t : SymbolTable) × IsGroupSlot slots parent t
  group_there = group_found old slots numbers opened f view parent group

  pub target_there : IsTargetSlot slots link.to
  target_there = target_slot old.bytes slots link.to (subst (λ (g : FileState). IsLinkTarget g.tree (tree_target link.to)) (sym view) target)

  module _ (t : SymbolTable) (slot : IsGroupSlot slots parent t) where
    abbrev p : OpenedObject
    p = slot.0

    pub group_stands : IsGroupApart old t
    group_stands = group_here old slots numbers opened f view parent t slot

    pub name_new : HasNone old.bytes t name
    name_new = name_is_new old slots numbers opened parent p t slot.1 slot.2 name free_here

    pub name_one : is_name name ≡ true
    name_one = name_is_one old slots numbers opened parent p t slot.1 slot.2 name free_here (tree_target link.to) good_here

    plain_by : (to : LinkTo ObjectNo) → IsSoundTree (with_link (tree_of old.bytes slots) parent name (tree_target to)) → (lead : Leads) → IsLeadOf slots to lead → IsPlainLead lead
    plain_by (to.Object number) sound lead is = subst IsPlainLead (sym is.2) tt
    plain_by (to.Soft text) sound lead is =
        subst IsPlainLead (sym is) (text_is_plain old slots numbers opened parent p t slot.1 slot.2 name free_here (tree_target (to.Soft text)) sound text.now refl)

    pub lead_plain : (lead : Leads) → IsLeadOf slots link.to lead → IsPlainLead lead
    lead_plain = plain_by link.to good_here

    pub deep_told : (Deep : Type 0) → Deep ↔ IsFullFor old.bytes t name → (u : SymbolTable) → IsGroupOf f parent u → Deep ↔ IsFullFor f.image u name
    deep_told Deep told = told_of old slots numbers opened f view parent t slot (λ (image : List ℕ) (u : SymbolTable). Deep ↔ IsFullFor image u name) told

    module _ (lead : Leads) (leads : IsLeadOf slots link.to lead) where
      pub span_is : texts_span (name, lead) ≡ link_span (name, tree_target link.to)
      span_is = span_by slots name link.to lead leads

      pub full_told : (Full : Type 0) → Full ↔ ((IsFullFor old.bytes t name → ⊥) × (most_bytes < length old.bytes + link_room old.bytes t (texts_span (name, lead))))
          → (u : SymbolTable) → IsGroupOf f parent u → Full ↔ ((IsFullFor f.image u name → ⊥) × (most_bytes < length f.image + link_room f.image u (link_span (name, tree_target link.to))))
      full_told Full told =
          told_of old slots numbers opened f view parent t slot
          (λ (image : List ℕ) (u : SymbolTable). Full ↔ ((IsFullFor image u name → ⊥) × (most_bytes < length image + link_room image u (link_span (name, tree_target link.to)))))
          (subst (λ (n : ℕ). Full ↔ ((IsFullFor old.bytes t name → ⊥) × (most_bytes < length old.bytes + link_room old.bytes t n))) span_is told)

      -- ---- when it is put

      module _ (mid : Space) (put : IsLinkPut (target_link (name, lead)) (links_told old.bytes t) (links_told mid.bytes t)) (after : IsGroupApart mid t)
          (moves : Moves old mid (blocks_told old.bytes t) (blocks_told mid.bytes t)) (k : k_values mid.bytes ≡ k_values old.bytes)
          (exact : HasExactKeys old.bytes t → HasExactKeys mid.bytes t) where
        -- the header of the array still stands, and counts few links
        pub array_standing : (number : ℕ) (o : OpenedObject) → IsArraySlot slots number o → IsStanding mid.bytes o.messages
        array_standing number o at = still_standing old slots numbers opened parent p t slot.1 slot.2 mid moves number o at.0 at.1

        pub array_few : (number : ℕ) (o : OpenedObject) → IsArraySlot slots number o → reference_count (prefix_at mid.bytes (header_of o)) ≤ most_hard_links + 1
        array_few number o at = target_few old slots numbers opened parent p t slot.1 slot.2 mid name (target_of_leads lead) put.front put.back put.before put.after
            after.read k moves exact number o at.0 at.1

        -- the superblock is there where the header is written
        pub superblock_there : (number : ℕ) (o : OpenedObject) → IsArraySlot slots number o → (set : Space) → Moves mid set o.messages.blocks o.messages.blocks
            → superblock_length set.bytes ≤ length set.bytes
        superblock_there number o at set moved = marked_long old slots numbers opened parent p t slot.1 slot.2 mid moves number o at.0 at.1 set moved

        module _ (set new : Space) (room : ℕ) (spends : Spends old mid (link_room old.bytes t (texts_span (name, lead))) room)
            (fits : length old.bytes + link_room old.bytes t (texts_span (name, lead)) ≤ most_bytes) (counted : IsCountedAt mid set slots link.to)
            (ended : Moves set new (end_field set.bytes ∷ []) (end_field new.bytes ∷ [])) (end : end_of_file new.bytes ≡ length new.bytes) (long : length new.bytes ≡ length set.bytes) where
          roomy : length new.bytes ≤ length old.bytes + link_room old.bytes t (link_span (name, tree_target link.to))
          roomy =
              let as_long = counted_long mid set slots link.to counted in
              let span = span_is in
              let grown = spends.grown in
              omega (arith, long, as_long, subst (λ (n : ℕ). length mid.bytes ≤ length old.bytes + link_room old.bytes t n) span grown)

          small : length new.bytes ≤ most_bytes
          small = let as_long = counted_long mid set slots link.to counted in let grown = spends.grown in omega (arith, long, as_long, grown, fits)

          -- opened, and changed in place
          abbrev Done : LinkTo ObjectNo → Type 0
          Done to = IsOpened new slots numbers
              × ((bytes : ℕ) → length new.bytes ≤ length old.bytes + bytes
              → IsChangedInPlace state (opened_state new slots) (with_link (tree_of old.bytes slots) parent name (tree_target to)) (length slots) (ends_of parent (tree_target to)) bytes)

          done_by : (to : LinkTo ObjectNo) → IsSoundTree (with_link (tree_of old.bytes slots) parent name (tree_target to)) → IsLeadOf slots to lead → IsCountedAt mid set slots to → Done to
          done_by (to.Soft text) sound is same =
              let written : Moves mid new (end_field mid.bytes ∷ []) (end_field new.bytes ∷ [])
              = subst (λ (s : Space). Moves s new (end_field s.bytes ∷ []) (end_field new.bytes ∷ [])) same ended in
              let put_there : links_told mid.bytes t ≡ put.front ++ (name, Text text.now) ∷ put.back
              = put.after ∙ ap (λ (l : Leads). put.front ++ (name, target_of_leads l) ∷ put.back) is in
              let linked = soft_put old slots numbers opened parent p t slot.1 slot.2 mid name (Text text.now) put.front put.back put.before put_there after.read k moves exact
              text.now refl new written end small in (
                soft_opened old mid new slots numbers opened parent p t name text.now linked free_here sound,
                soft_changed old mid new slots numbers opened parent p t name text.now linked free_here sound,
              )
          done_by (to.Object number) sound is of =
              let o : OpenedObject = of.0 in
              let array = of.1 in
              let one : is.0 ≡ o = same_Some is.0 o (same_Some (Some is.0) (Some o) (sym is.1.0 ∙ array.0)) in
              let leads_there : lead ≡ ToArray (header_of o) = is.2 ∙ ap (λ (x : OpenedObject). ToArray (header_of x)) one in
              let put_there : links_told mid.bytes t ≡ put.front ++ (name, Header (header_of o)) ∷ put.back
              = put.after ∙ ap (λ (l : Leads). put.front ++ (name, target_of_leads l) ∷ put.back) leads_there in
              let its : IsTargetCounted mid set new slots number.0 o = record {
                target = array.0;
                array = array.1;
                standing = of.2.standing;
                messages = of.2.messages;
                counted = of.2.counted;
                marked = of.2.moves;
                ended = ended;
              } in
              let linked = hard_put old slots numbers opened parent p t slot.1 slot.2 mid name (Header (header_of o)) put.front put.back put.before put_there after.read k moves exact
              number.0 o array.0 array.1 refl set new its end small in (
                hard_opened old mid set new slots numbers opened parent p t name number.0 o linked its free_here sound,
                hard_changed old mid set new slots numbers opened parent p t name number.0 o linked its free_here sound,
              )

          done : Done link.to
          done = done_by link.to good_here leads counted

          pub added_opened : IsOpened new slots numbers
          added_opened = done.0

          pub added_changed : (u : SymbolTable) → IsGroupOf f parent u
              → IsChangedInPlace f (opened_state new slots) (with_link f.tree parent name (tree_target link.to)) f.next (ends_of parent (tree_target link.to))
              (link_room f.image u (link_span (name, tree_target link.to)))
          added_changed u is =
              subst (λ (v : SymbolTable). IsChangedInPlace f (opened_state new slots) (with_link f.tree parent name (tree_target link.to)) f.next (ends_of parent (tree_target link.to))
              (link_room f.image v (link_span (name, tree_target link.to)))) (one_here old slots numbers opened f view parent t slot u is)
              (subst (λ (g : FileState). IsChangedInPlace g (opened_state new slots) (with_link g.tree parent name (tree_target link.to)) g.next (ends_of parent (tree_target link.to))
              (link_room g.image t (link_span (name, tree_target link.to)))) view (done.1 (link_room old.bytes t (link_span (name, tree_target link.to))) roomy))

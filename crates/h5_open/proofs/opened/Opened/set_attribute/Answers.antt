use Rattle.std.proofs.Common.{◌≡◌, ◌↔◌, ◌∷◌, [], ℕ, MutBor, get_or, IsSome, ◌+◌, ◌<◌, ◌≤◌, ◌∙◌, Bool, true, false, nat_lt, length, List, Option, Some, None, Ok, Err, refl, sym, ap, subst, arith}
use Rattle.std.specs.Prelude.{slice_get}
use Rattle.std.specs.BTreeMap.{BTreeMap}
use Rattle.std.specs.FinMap.{get, insert}
use Rattle.std.specs.Option.{option_copied_mut}
use Rattle.std.proofs.lemmas.Bool.Decides.{nat_tests}
use Rattle.std.proofs.lemmas.Option.{same_Some, slice_get_within}
use Rattle.std.proofs.lemmas.Result.{err_from_is_err_and}
use Rattle.h5_model.specs.Edits.Applied.{with_attributes}
use Rattle.h5_model.specs.Format.AttributeBody.{attribute_of}
use Rattle.h5_model.specs.Format.Limits.{most_bytes, most_cells}
use Rattle.h5_model.specs.Format.Messages.{prefix_at, reference_count, most_messages}
use Rattle.h5_model.specs.Format.Reads.{HasAttributes}
use Rattle.h5_model.specs.Format.Superblock.{end_of_file, end_field}
use Rattle.h5_model.specs.Tree.Objects.{Attribute, Attributes, with_object}
use Rattle.h5_model.specs.Tree.Places.{extent_cells}
use Rattle.h5_space.specs.Moves.{Moves, Spends}
use Rattle.h5_space.specs.Space.{Space}
use Rattle.h5_header.specs.declared.add.AddFault.{AddFault}
use Rattle.h5_header.specs.declared.add.AddFault.TheVariants as fault
use Rattle.h5_header.specs.Listed.{Listed, messages_in}
use Rattle.h5_header.specs.Standing.{IsStanding}
use Rattle.h5_attr.specs.Still.{IsSaidStill}
use Rattle.h5_open.specs.declared.opened.object.OpenedObject.{OpenedObject}
use Rattle.h5_open.specs.Attributed.{has_full_header}
use Rattle.h5_open.specs.ChangedInPlace.{IsChangedInPlace}
use Rattle.h5_open.specs.Opened.Kept.{IsOpened}
use Rattle.h5_open.specs.Opened.State.{FileState, opened_state}
use Rattle.h5_open.proofs.AttributeEdits.{room_opened, slot_same}
use Rattle.h5_open.proofs.AttributeOpened.{IsHeaderEdited, attributes_changed, attributes_opened}
use Rattle.h5_open.proofs.HeaderInPlace.{header_full, room_apart, room_edited, room_movable, room_standing, room_superblock, slots_with, with_messages}
use Rattle.h5_open.proofs.OpenedLaws.Entries.{slot_of}
use Rattle.h5_open.proofs.OpenedLaws.LentSlots.{lent_some_mut, slot_lent_mut, slot_read}
use Rattle.h5_open.proofs.OpenedLaws.Sounds.{sound}
use Rattle.h5_open.proofs.opened.Opened.set_attribute.Goals as goal
use Rattle.h5_open.proofs.opened.Opened.set_attribute.Goals.{After-from_residual, After-write_end}

-- what is said of the total, by the header's own
header_by : (P : Type 0) (full : Bool) (n : ℕ) → full ≡ nat_lt most_messages (n + 2) → P ↔ (most_messages < n + 2) → P ↔ (full ≡ true)
header_by P full n is told = (
  λ holds. let low = told.0 holds in grind (arith, nat_tests, low, is),
  λ tested. let high : most_messages < n + 2 = grind (arith, nat_tests, tested, is) in told.1 high,
)

image_by : (P Q : Type 0) (full : Bool) (n : ℕ) → full ≡ nat_lt most_messages (n + 2) → P ↔ ((n + 2 ≤ most_messages) × Q) → P ↔ ((full ≡ false) × Q)
image_by P Q full n is told = (
  λ holds. let both = told.0 holds in let low = both.0 in (grind (arith, nat_tests, low, is), both.1),
  λ both. let tested = both.0 in let low : n + 2 ≤ most_messages = grind (arith, nat_tests, tested, is) in told.1 (low, both.1),
)

-- room that is left where it was made
no_fault : (e : AddFault) → Ok (tt {0}) ≡ Err e → ⊥
no_fault e is = absurd (cc)

room_by : (P Q : Type 0) (n k : ℕ) → (P → ⊥) → (Q → ⊥) → P ↔ (most_messages < n + 2) → Q ↔ ((n + 2 ≤ most_messages) × (most_bytes < k)) → k ≤ most_bytes
room_by P Q n k small short header image =
    let none : most_messages < n + 2 → ⊥ = λ high. small (header.1 high) in
    let low : n + 2 ≤ most_messages = omega (arith, none) in
    let fits : most_bytes < k → ⊥ = λ high. short (image.1 (low, high)) in
    omega (arith, fits)

with_made : (image r : Space) (a b : ℕ) → r ≡ record image { room_bytes = a; room_blocks = b } → r ≡ record image { room_bytes = r.room_bytes; room_blocks = r.room_blocks }
with_made image r a b made = subst (λ (x : Space). x ≡ record image { room_bytes = x.room_bytes; room_blocks = x.room_blocks }) (sym made) refl

module _ (image : Space) (slots : List (Option OpenedObject)) (numbers : BTreeMap ℕ ℕ) (opened : IsOpened image slots numbers) (f : FileState) (view : opened_state image slots ≡ f)
    (number : ℕ) (there : IsSome (get f.table number)) where
  slot : (p : OpenedObject) × (slice_get slots number ≡ Some (Some p))
  slot = go (get f.table number) refl there where
    go : (found : Option ℕ) → get f.table number ≡ found → IsSome found → (p : OpenedObject) × (slice_get slots number ≡ Some (Some p))
    go None is some = absurd (let never : false ≡ true = some in cc)
    go (Some h) is some = let at = slot_of slots number h (ap (λ (g : FileState). get g.table number) view ∙ is) in (at.0, at.1)

  lent : (read : Option OpenedObject) → read ≡ get_or slots number read → (r : Option (MutBor OpenedObject)) → option_copied_mut r ≡ read → (b : MutBor OpenedObject) → r ≡ Some b
      → slice_get slots number ≡ Some (Some b.now)
  lent = slot_lent_mut slots number slot.0 slot.1

  module _ (p : OpenedObject) (at : slice_get slots number ≡ Some (Some p)) where
    full : has_full_header f number ≡ nat_lt most_messages (length p.messages.list + 2)
    full = ap (λ (g : FileState). has_full_header g number) (sym view) ∙ header_full image slots numbers opened number p at

    image_of : (P : Type 0) (size : ℕ) → P ↔ ((length p.messages.list + 2 ≤ most_messages) × (most_bytes < length image.bytes + (32 + size)))
        → P ↔ ((length p.messages.list + 2 ≤ most_messages) × (most_bytes < length f.image + (32 + size)))
    image_of P size = subst (λ (g : FileState). P ↔ ((length p.messages.list + 2 ≤ most_messages) × (most_bytes < length g.image + (32 + size)))) view

    module _ (r : Space) (was : r ≡ record image { room_bytes = r.room_bytes; room_blocks = r.room_blocks }) where
      roomy_opened : IsOpened r slots numbers
      roomy_opened = room_opened image r slots numbers (ap (λ (s : Space). s.bytes) was) (ap (λ (s : Space). s.free) was) opened

      roomy_view : opened_state r slots ≡ f
      roomy_view = ap (λ (s : Space). opened_state s slots) was ∙ view

      -- nothing was kept
      slots_stay : (m : Listed) → m ≡ p.messages → slots_with r slots numbers roomy_opened number p at m ≡ slots
      slots_stay m same = ap (slots_with r slots numbers roomy_opened number p at) same ∙ slot_same slots number (Some p) at

      -- ---- set

      module _ (room : ℕ) (roomy : Listed) (is : roomy ≡ record p.messages { room = room }) (mid new : Space) (m : Listed) (body : List ℕ)
          (attribute : (name : List ℕ) × (a : Attribute) × (attribute_of body ≡ Some (name, a)) × (extent_cells a.sizes ≤ most_cells))
          (room_left : length image.bytes + (32 + length body) ≤ most_bytes)
          (standing : IsStanding mid.bytes m) (header : m.header ≡ roomy.header) (still : IsSaidStill (messages_in r.bytes roomy.list) (messages_in mid.bytes m.list))
          (set : (name : List ℕ) → (a : Attribute) → attribute_of body ≡ Some (name, a) → extent_cells a.sizes ≤ most_cells → (before : Attributes)
          → HasAttributes (messages_in r.bytes roomy.list) before → HasAttributes (messages_in mid.bytes m.list) (insert before name a))
          (counted : reference_count (prefix_at mid.bytes m.header) ≡ reference_count (prefix_at r.bytes roomy.header))
          (moves : Moves r mid roomy.blocks m.blocks) (spends : Spends r mid (32 + length body) 1) (ended : Moves mid new (end_field mid.bytes ∷ []) (end_field new.bytes ∷ []))
          (end : end_of_file new.bytes ≡ length new.bytes) (long : length new.bytes ≡ length mid.bytes) where
        abbrev slots' : List (Option OpenedObject)
        slots' = slots_with r slots numbers roomy_opened number p at m

        same_long : length r.bytes ≡ length image.bytes
        same_long = ap (λ (s : Space). length s.bytes) was

        few : (name : List ℕ) (a : Attribute) → attribute_of body ≡ Some (name, a) → extent_cells a.sizes ≤ most_cells
        few name a says =
            let same = same_Some (attribute.0, attribute.1) (name, a) (sym attribute.2 ∙ says) in
            subst (λ (x : List ℕ × Attribute). extent_cells (x.1).sizes ≤ most_cells) same attribute.3

        edited : (name : List ℕ) (a : Attribute) → attribute_of body ≡ Some (name, a)
            → IsHeaderEdited r mid new slots slots' number p (with_messages r slots numbers roomy_opened number p at m) (λ before. insert before name a)
        edited name a says = room_edited r slots numbers roomy_opened number p at room roomy is mid new m (λ before. insert before name a) standing header still
            (set name a says (few name a says)) counted moves ended end (omega (arith, long, spends.grown, same_long, room_left))

        set_opened : IsOpened new slots' numbers
        set_opened = attributes_opened r mid new slots slots' numbers roomy_opened number p (with_messages r slots numbers roomy_opened number p at m)
            (λ before. insert before attribute.0 attribute.1) (edited attribute.0 attribute.1 attribute.2)

        set_changed : (name : List ℕ) (a : Attribute) → attribute_of body ≡ Some (name, a)
            → IsChangedInPlace f (opened_state new slots') (with_object f.tree number (with_attributes (λ before. insert before name a))) f.next (number ∷ []) (32 + length body)
        set_changed name a says =
            subst (λ (g : FileState). IsChangedInPlace g (opened_state new slots') (with_object g.tree number (with_attributes (λ before. insert before name a))) g.next (number ∷ [])
            (32 + length body)) roomy_view
            (attributes_changed r mid new slots slots' numbers roomy_opened number p (with_messages r slots numbers roomy_opened number p at m)
            (λ before. insert before name a) (edited name a says) (32 + length body) (omega (arith, long, spends.grown)))

pub index_mut-requires : goal.index_mut-requires
index_mut-requires c =
    let there = slot c.self.inside.image c.self.inside.index.objects.items c.self.inside.index.numbers c.self.invariant c.args.self.now c.self.view_is c.args.number c.requires.there in
    omega (arith, slice_get_within c.self.inside.index.objects.items c.args.number (Some there.0) there.1)

pub unwrap-object-requires : goal.unwrap-object-requires
unwrap-object-requires c =
    let there = slot c.self.inside.image c.self.inside.index.objects.items c.self.inside.index.numbers c.self.invariant c.args.self.now c.self.view_is c.args.number c.requires.there in
    lent_some_mut c.as_mut.result there.0
    (c.as_mut.ensures.value ∙ slot_read c.self.inside.index.objects.items c.args.number there.0 there.1 c.index_mut.result.now c.index_mut.ensures.value)

-- ---- refused

-- the slot
at_refused : (c : After-from_residual) → slice_get c.self.inside.index.objects.items c.args.number ≡ Some (Some c.unwrap-object.result.now)
at_refused c = lent c.self.inside.image c.self.inside.index.objects.items c.self.inside.index.numbers c.self.invariant c.args.self.now c.self.view_is c.args.number c.requires.there
    c.index_mut.result.now c.index_mut.ensures.value c.as_mut.result c.as_mut.ensures.value c.unwrap-object.result c.unwrap-object.ensures

refused : (c : After-from_residual) → IsOpened c.make_room.new.image
    (slots_with c.make_room.new.image c.self.inside.index.objects.items c.self.inside.index.numbers
    (roomy_opened c.self.inside.image c.self.inside.index.objects.items c.self.inside.index.numbers c.self.invariant c.args.self.now c.self.view_is c.args.number c.requires.there c.unwrap-object.result.now (at_refused c) c.make_room.new.image c.in_err-make_room.ensures.as_it_was)
    c.args.number c.unwrap-object.result.now (at_refused c) c.make_room.new.self) c.self.inside.index.numbers
refused c =
    let opened = roomy_opened c.self.inside.image c.self.inside.index.objects.items c.self.inside.index.numbers c.self.invariant c.args.self.now c.self.view_is c.args.number c.requires.there c.unwrap-object.result.now (at_refused c) c.make_room.new.image c.in_err-make_room.ensures.as_it_was in
    subst (λ (slots : List (Option OpenedObject)). IsOpened c.make_room.new.image slots c.self.inside.index.numbers)
    (sym (slots_stay c.self.inside.image c.self.inside.index.objects.items c.self.inside.index.numbers c.self.invariant c.args.self.now c.self.view_is c.args.number c.requires.there c.unwrap-object.result.now (at_refused c) c.make_room.new.image c.in_err-make_room.ensures.as_it_was
    c.make_room.new.self c.in_err-make_room.ensures.refused)) opened

pub invariant_of-self : goal.invariant_of-self
invariant_of-self c = refused (goal.at.invariant_of-self c).After-from_residual

pub returns-in_err-make_room-clause-header_full : goal.returns-in_err-make_room-clause-header_full
returns-in_err-make_room-clause-header_full c =
    let answered = err_from_is_err_and c.from_residual.result c.from_residual.ensures.1 in
    let p = c.unwrap-object.result.now in
    let at = lent c.self.inside.image c.self.inside.index.objects.items c.self.inside.index.numbers c.self.invariant c.args.self.now c.self.view_is c.args.number c.requires.there
    c.index_mut.result.now c.index_mut.ensures.value c.as_mut.result c.as_mut.ensures.value c.unwrap-object.result c.unwrap-object.ensures in
    rw (answered.1, answered.2) (header_by _ (has_full_header c.args.self.now c.args.number) (length p.messages.list) (full c.self.inside.image c.self.inside.index.objects.items c.self.inside.index.numbers c.self.invariant c.args.self.now c.self.view_is c.args.number c.requires.there p at)
    c.in_err-make_room.ensures.header_full)

pub returns-in_err-make_room-clause-image_full : goal.returns-in_err-make_room-clause-image_full
returns-in_err-make_room-clause-image_full c =
    let answered = err_from_is_err_and c.from_residual.result c.from_residual.ensures.1 in
    let p = c.unwrap-object.result.now in
    let at = lent c.self.inside.image c.self.inside.index.objects.items c.self.inside.index.numbers c.self.invariant c.args.self.now c.self.view_is c.args.number c.requires.there
    c.index_mut.result.now c.index_mut.ensures.value c.as_mut.result c.as_mut.ensures.value c.unwrap-object.result c.unwrap-object.ensures in
    rw (answered.1, answered.2) (image_by _ _ (has_full_header c.args.self.now c.args.number) (length p.messages.list) (full c.self.inside.image c.self.inside.index.objects.items c.self.inside.index.numbers c.self.invariant c.args.self.now c.self.view_is c.args.number c.requires.there p at)
    (image_of c.self.inside.image c.self.inside.index.objects.items c.self.inside.index.numbers c.self.invariant c.args.self.now c.self.view_is c.args.number c.requires.there p at _ (length c.args.body.now) c.in_err-make_room.ensures.image_full))

pub returns-in_err-make_room-clause-sound : goal.returns-in_err-make_room-clause-sound
returns-in_err-make_room-clause-sound c =
    let w = (goal.at.returns-in_err-make_room-clause-sound c).After-from_residual in
    sound c.make_room.new.image _ c.self.inside.index.numbers (refused w)

-- ---- set

pub set-requires-clause-movable : goal.set-requires-clause-movable
set-requires-clause-movable c =
    let p = c.unwrap-object.result.now in
    let at = lent c.self.inside.image c.self.inside.index.objects.items c.self.inside.index.numbers c.self.invariant c.args.self.now c.self.view_is c.args.number c.requires.there
    c.index_mut.result.now c.index_mut.ensures.value c.as_mut.result c.as_mut.ensures.value c.unwrap-object.result c.unwrap-object.ensures in
    let r = c.make_room.new.image in
    let was = with_made c.self.inside.image r _ _ c.in_ok-make_room.ensures.made in
    room_movable r c.self.inside.index.objects.items c.self.inside.index.numbers (roomy_opened c.self.inside.image c.self.inside.index.objects.items c.self.inside.index.numbers c.self.invariant c.args.self.now c.self.view_is c.args.number c.requires.there p at r was) c.args.number p at _ c.make_room.new.self c.in_ok-make_room.ensures.kept

pub set-requires-clause-apart : goal.set-requires-clause-apart
set-requires-clause-apart c =
    let p = c.unwrap-object.result.now in
    let at = lent c.self.inside.image c.self.inside.index.objects.items c.self.inside.index.numbers c.self.invariant c.args.self.now c.self.view_is c.args.number c.requires.there
    c.index_mut.result.now c.index_mut.ensures.value c.as_mut.result c.as_mut.ensures.value c.unwrap-object.result c.unwrap-object.ensures in
    let r = c.make_room.new.image in
    let was = with_made c.self.inside.image r _ _ c.in_ok-make_room.ensures.made in
    room_apart r c.self.inside.index.objects.items c.self.inside.index.numbers (roomy_opened c.self.inside.image c.self.inside.index.objects.items c.self.inside.index.numbers c.self.invariant c.args.self.now c.self.view_is c.args.number c.requires.there p at r was) c.args.number p at _ c.make_room.new.self c.in_ok-make_room.ensures.kept

pub set-requires-clause-standing : goal.set-requires-clause-standing
set-requires-clause-standing c =
    let p = c.unwrap-object.result.now in
    let at = lent c.self.inside.image c.self.inside.index.objects.items c.self.inside.index.numbers c.self.invariant c.args.self.now c.self.view_is c.args.number c.requires.there
    c.index_mut.result.now c.index_mut.ensures.value c.as_mut.result c.as_mut.ensures.value c.unwrap-object.result c.unwrap-object.ensures in
    let r = c.make_room.new.image in
    let was = with_made c.self.inside.image r _ _ c.in_ok-make_room.ensures.made in
    room_standing r c.self.inside.index.objects.items c.self.inside.index.numbers (roomy_opened c.self.inside.image c.self.inside.index.objects.items c.self.inside.index.numbers c.self.invariant c.args.self.now c.self.view_is c.args.number c.requires.there p at r was) c.args.number p at _ c.make_room.new.self c.in_ok-make_room.ensures.kept

pub write_end-requires-clause-superblock : goal.write_end-requires-clause-superblock
write_end-requires-clause-superblock c =
    let p = c.unwrap-object.result.now in
    let at = lent c.self.inside.image c.self.inside.index.objects.items c.self.inside.index.numbers c.self.invariant c.args.self.now c.self.view_is c.args.number c.requires.there
    c.index_mut.result.now c.index_mut.ensures.value c.as_mut.result c.as_mut.ensures.value c.unwrap-object.result c.unwrap-object.ensures in
    let r = c.make_room.new.image in
    let was = with_made c.self.inside.image r _ _ c.in_ok-make_room.ensures.made in
    room_superblock r c.self.inside.index.objects.items c.self.inside.index.numbers (roomy_opened c.self.inside.image c.self.inside.index.objects.items c.self.inside.index.numbers c.self.invariant c.args.self.now c.self.view_is c.args.number c.requires.there p at r was) c.args.number p at _ c.make_room.new.self c.in_ok-make_room.ensures.kept
    c.set.new.image c.set.new.messages.blocks c.set.ensures.moves

at_set : (c : After-write_end) → slice_get c.self.inside.index.objects.items c.args.number ≡ Some (Some c.unwrap-object.result.now)
at_set c = lent c.self.inside.image c.self.inside.index.objects.items c.self.inside.index.numbers c.self.invariant c.args.self.now c.self.view_is c.args.number c.requires.there
    c.index_mut.result.now c.index_mut.ensures.value c.as_mut.result c.as_mut.ensures.value c.unwrap-object.result c.unwrap-object.ensures

was_set : (c : After-write_end) → c.make_room.new.image ≡ record c.self.inside.image { room_bytes = c.make_room.new.image.room_bytes; room_blocks = c.make_room.new.image.room_blocks }
was_set c = with_made c.self.inside.image c.make_room.new.image _ _ c.in_ok-make_room.ensures.made

left_set : (c : After-write_end) → length c.self.inside.image.bytes + (32 + length c.args.body.now) ≤ most_bytes
left_set c = room_by _ _ (length c.unwrap-object.result.now.messages.list) _ (no_fault fault.HeaderFull) (no_fault fault.ImageFull)
    c.in_ok-make_room.ensures.header_full c.in_ok-make_room.ensures.image_full

opened_set : (c : After-write_end) → IsOpened c.write_end.new.image
    (slots_with c.make_room.new.image c.self.inside.index.objects.items c.self.inside.index.numbers
    (roomy_opened c.self.inside.image c.self.inside.index.objects.items c.self.inside.index.numbers c.self.invariant c.args.self.now c.self.view_is c.args.number c.requires.there c.unwrap-object.result.now (at_set c) c.make_room.new.image (was_set c))
    c.args.number c.unwrap-object.result.now (at_set c) c.set.new.messages) c.self.inside.index.numbers
opened_set c =
    let e = c.set.ensures in
    let t = c.write_end.ensures in
    set_opened c.self.inside.image c.self.inside.index.objects.items c.self.inside.index.numbers c.self.invariant c.args.self.now c.self.view_is c.args.number c.requires.there c.unwrap-object.result.now (at_set c) c.make_room.new.image (was_set c)
    _ c.make_room.new.self c.in_ok-make_room.ensures.kept c.set.new.image c.write_end.new.image c.set.new.messages c.args.body.now c.requires.attribute (left_set c)
    e.standing e.header e.others e.set e.count e.moves e.spends t.moves t.end t.length

pub invariant_of-self-2 : goal.invariant_of-self-2
invariant_of-self-2 c = opened_set (goal.at.invariant_of-self-2 c).After-write_end

pub returns-clause-header_full : goal.returns-clause-header_full
returns-clause-header_full c =
    let w = (goal.at.returns-clause-header_full c).After-write_end in
    let p = c.unwrap-object.result.now in
    header_by _ (has_full_header c.args.self.now c.args.number) (length p.messages.list) (full c.self.inside.image c.self.inside.index.objects.items c.self.inside.index.numbers c.self.invariant c.args.self.now c.self.view_is c.args.number c.requires.there p (at_set w)) c.in_ok-make_room.ensures.header_full

pub returns-clause-sound : goal.returns-clause-sound
returns-clause-sound c = sound c.write_end.new.image _ c.self.inside.index.numbers (opened_set (goal.at.returns-clause-sound c).After-write_end)

pub returns-clause-changed : goal.returns-clause-changed
returns-clause-changed c name a says =
    let w = (goal.at.returns-clause-changed c).After-write_end in
    let e = c.set.ensures in
    let t = c.write_end.ensures in
    set_changed c.self.inside.image c.self.inside.index.objects.items c.self.inside.index.numbers c.self.invariant c.args.self.now c.self.view_is c.args.number c.requires.there c.unwrap-object.result.now (at_set w) c.make_room.new.image (was_set w)
    _ c.make_room.new.self c.in_ok-make_room.ensures.kept c.set.new.image c.write_end.new.image c.set.new.messages c.args.body.now c.requires.attribute (left_set w)
    e.standing e.header e.others e.set e.count e.moves e.spends t.moves t.end t.length name a says

use Rattle.std.proofs.Common.{◌≡◌, ◌∷◌, [], ℕ, MutBor, get_or, ◌∙◌, length, List, Option, Some, None, sym, subst, arith}
use Rattle.std.specs.Prelude.{IsTrue, position, slice_get}
use Rattle.std.specs.BTreeMap.{BTreeMap}
use Rattle.std.specs.FinMap.{contains_key, remove as without}
use Rattle.std.specs.Option.{option_copied_mut}
use Rattle.std.proofs.lemmas.Option.{same_Some, slice_get_within}
use Rattle.h5_model.specs.Edits.Applied.{with_attributes}
use Rattle.h5_model.specs.Format.Messages.{Message, prefix_at, reference_count}
use Rattle.h5_model.specs.Format.Reads.{HasAttributes}
use Rattle.h5_model.specs.Tree.Objects.{Attributes, Object, with_object}
use Rattle.h5_model.specs.Format.Superblock.{end_field}
use Rattle.h5_space.specs.Moves.{Moves, Spends}
use Rattle.h5_space.specs.Space.{Space}
use Rattle.h5_space.proofs.MovesLaws.{moves_none}
use Rattle.h5_header.specs.Listed.{Listed, messages_in}
use Rattle.h5_header.specs.Standing.{IsStanding}
use Rattle.h5_attr.specs.Attributes.{attributes_of, is_attribute_named}
use Rattle.h5_attr.specs.Still.{IsSaidStill}
use Rattle.h5_open.specs.declared.opened.object.OpenedObject.{OpenedObject}
use Rattle.h5_open.specs.Attributed.{IsAttributeThere}
use Rattle.h5_open.specs.ChangedInPlace.{IsChangedInPlace}
use Rattle.h5_open.specs.Opened.Kept.{IsOpened}
use Rattle.h5_open.specs.Opened.Objects.{object_in, table_of}
use Rattle.h5_open.specs.Opened.State.{FileState, opened_state}
use Rattle.h5_open.proofs.AttributeOpened.{IsHeaderEdited, attributes_changed, attributes_opened}
use Rattle.h5_open.proofs.HeaderInPlace.{end_as_it_was, header_edited, header_standing, slot_in_tree, slots_with, with_messages}
use Rattle.h5_open.proofs.NamedAttribute.{named_at, named_kind, named_there}
use Rattle.h5_open.proofs.OpenedLaws.LentSlots.{lent_some_mut, slot_lent_mut, slot_read}
use Rattle.h5_open.proofs.OpenedLaws.Sounds.{object_of}
use Rattle.h5_open.proofs.opened.Opened.remove_attribute.Goals as goal
use Rattle.h5_open.proofs.opened.Opened.remove_attribute.Goals.{After-remove_at}

module _ (image : Space) (slots : List (Option OpenedObject)) (numbers : BTreeMap ℕ ℕ) (opened : IsOpened image slots numbers) (f : FileState) (view : opened_state image slots ≡ f)
    (number : ℕ) (name : List ℕ) (there : IsAttributeThere f number name) where
  here : IsAttributeThere (opened_state image slots) number name
  here = subst (λ (g : FileState). IsAttributeThere g number name) (sym view) there

  slot : (p : OpenedObject) × (slice_get slots number ≡ Some (Some p))
  slot = slot_in_tree image.bytes slots number here.0 here.1

  lent : (read : Option OpenedObject) → read ≡ get_or slots number read → (r : Option (MutBor OpenedObject)) → option_copied_mut r ≡ read → (b : MutBor OpenedObject) → r ≡ Some b
      → slice_get slots number ≡ Some (Some b.now)
  lent = slot_lent_mut slots number slot.0 slot.1

  module _ (p : OpenedObject) (at : slice_get slots number ≡ Some (Some p)) where
    abbrev ms : List Message
    ms = messages_in image.bytes p.messages.list

    -- the message is found
    never : position (is_attribute_named name) ms ≡ None → ⊥
    never =
        let of = object_of image slots numbers opened number p at in
        let same : here.0 ≡ object_in image.bytes (table_of slots) p = same_Some here.0 (object_in image.bytes (table_of slots) p) (sym here.1 ∙ of.there) in
        named_there name ms (attributes_of ms) of.kept.header.attributes (subst (λ (o : Object). IsTrue (contains_key o.attributes name)) same here.2)

    module _ (new : Space) (m : Listed) (standing : IsStanding new.bytes m) (header : m.header ≡ p.messages.header) (still : IsSaidStill ms (messages_in new.bytes m.list))
        (removed : (before : Attributes) → HasAttributes ms before → HasAttributes (messages_in new.bytes m.list) (without before name))
        (counted : reference_count (prefix_at new.bytes m.header) ≡ reference_count (prefix_at image.bytes p.messages.header))
        (moves : Moves image new p.messages.blocks m.blocks) (spends : Spends image new 0 0) where
      long : length new.bytes ≡ length image.bytes
      long = omega (arith, moves.grown, spends.grown)

      edited : IsHeaderEdited image new new slots (slots_with image slots numbers opened number p at m) number p (with_messages image slots numbers opened number p at m)
          (λ before. without before name)
      edited = header_edited image slots numbers opened number p at new new m (λ before. without before name) standing header still removed counted moves
          (moves_none new (end_field new.bytes ∷ [])) (end_as_it_was image slots numbers opened number p at new m.blocks moves long)
          (omega (arith, long, opened.reads.1.holds.whole, opened.reads.1.holds.superblock.small))

      after : IsOpened new (slots_with image slots numbers opened number p at m) numbers
          × IsChangedInPlace f (opened_state new (slots_with image slots numbers opened number p at m))
          (with_object f.tree number (with_attributes (λ before. without before name))) f.next (number ∷ []) 0
      after = (
        attributes_opened image new new slots (slots_with image slots numbers opened number p at m) numbers opened number p
            (with_messages image slots numbers opened number p at m) (λ before. without before name) edited,
        subst (λ (g : FileState). IsChangedInPlace g (opened_state new (slots_with image slots numbers opened number p at m))
            (with_object g.tree number (with_attributes (λ before. without before name))) g.next (number ∷ []) 0) view
            (attributes_changed image new new slots (slots_with image slots numbers opened number p at m) numbers opened number p
            (with_messages image slots numbers opened number p at m) (λ before. without before name) edited 0 (omega (arith, long))),
      )

pub index_mut-requires : goal.index_mut-requires
index_mut-requires c =
    let there = slot c.self.inside.image c.self.inside.index.objects.items c.self.inside.index.numbers c.self.invariant c.args.self.now c.self.view_is c.args.number c.args.name.now c.requires.there in
    omega (arith, slice_get_within c.self.inside.index.objects.items c.args.number (Some there.0) there.1)

pub unwrap-object-requires : goal.unwrap-object-requires
unwrap-object-requires c =
    let there = slot c.self.inside.image c.self.inside.index.objects.items c.self.inside.index.numbers c.self.invariant c.args.self.now c.self.view_is c.args.number c.args.name.now c.requires.there in
    lent_some_mut c.as_mut.result there.0
    (c.as_mut.ensures.value ∙ slot_read c.self.inside.index.objects.items c.args.number there.0 there.1 c.index_mut.result.now c.index_mut.ensures.value)

pub new-requires : goal.new-requires
new-requires c =
    let at = lent c.self.inside.image c.self.inside.index.objects.items c.self.inside.index.numbers c.self.invariant c.args.self.now c.self.view_is c.args.number c.args.name.now c.requires.there
    c.index_mut.result.now c.index_mut.ensures.value c.as_mut.result c.as_mut.ensures.value c.unwrap-object.result c.unwrap-object.ensures in
    (header_standing c.self.inside.image c.self.inside.index.objects.items c.self.inside.index.numbers c.self.invariant c.args.number c.unwrap-object.result.now at).within

pub remove_at-requires-clause-attribute : goal.remove_at-requires-clause-attribute
remove_at-requires-clause-attribute c =
    named_kind c.args.name.now c.self.inside.image.bytes c.unwrap-object.result.now.messages.list c.in-Some.k (sym (rw c.new.ensures at c.find_named.ensures) ∙ c.in-Some.is)

pub remove_at-requires-clause-standing : goal.remove_at-requires-clause-standing
remove_at-requires-clause-standing c =
    let at = lent c.self.inside.image c.self.inside.index.objects.items c.self.inside.index.numbers c.self.invariant c.args.self.now c.self.view_is c.args.number c.args.name.now c.requires.there
    c.index_mut.result.now c.index_mut.ensures.value c.as_mut.result c.as_mut.ensures.value c.unwrap-object.result c.unwrap-object.ensures in
    header_standing c.self.inside.image c.self.inside.index.objects.items c.self.inside.index.numbers c.self.invariant c.args.number c.unwrap-object.result.now at

pub unreachable-requires : goal.unreachable-requires
unreachable-requires c =
    let at = lent c.self.inside.image c.self.inside.index.objects.items c.self.inside.index.numbers c.self.invariant c.args.self.now c.self.view_is c.args.number c.args.name.now c.requires.there
    c.index_mut.result.now c.index_mut.ensures.value c.as_mut.result c.as_mut.ensures.value c.unwrap-object.result c.unwrap-object.ensures in
    never c.self.inside.image c.self.inside.index.objects.items c.self.inside.index.numbers c.self.invariant c.args.self.now c.self.view_is c.args.number c.args.name.now c.requires.there
    c.unwrap-object.result.now at (sym (rw c.new.ensures at c.find_named.ensures) ∙ c.in-None.is)

-- the slot
lent_here : (c : After-remove_at) → slice_get c.self.inside.index.objects.items c.args.number ≡ Some (Some c.unwrap-object.result.now)
lent_here c = lent c.self.inside.image c.self.inside.index.objects.items c.self.inside.index.numbers c.self.invariant c.args.self.now c.self.view_is c.args.number c.args.name.now c.requires.there
    c.index_mut.result.now c.index_mut.ensures.value c.as_mut.result c.as_mut.ensures.value c.unwrap-object.result c.unwrap-object.ensures

-- the image afterwards
done : (c : After-remove_at) → IsOpened c.remove_at.new.image
    (slots_with c.self.inside.image c.self.inside.index.objects.items c.self.inside.index.numbers c.self.invariant c.args.number c.unwrap-object.result.now (lent_here c) c.remove_at.new.messages) c.self.inside.index.numbers
    × IsChangedInPlace c.args.self.now
    (opened_state c.remove_at.new.image (slots_with c.self.inside.image c.self.inside.index.objects.items c.self.inside.index.numbers c.self.invariant c.args.number c.unwrap-object.result.now (lent_here c) c.remove_at.new.messages))
    (with_object c.args.self.now.tree c.args.number (with_attributes (λ before. without before c.args.name.now))) c.args.self.now.next (c.args.number ∷ []) 0
done c =
    let found = sym (rw c.new.ensures at c.find_named.ensures) ∙ c.in-Some.is in
    let e = c.remove_at.ensures in
    after c.self.inside.image c.self.inside.index.objects.items c.self.inside.index.numbers c.self.invariant c.args.self.now c.self.view_is c.args.number c.args.name.now c.requires.there
    c.unwrap-object.result.now (lent_here c) c.remove_at.new.image c.remove_at.new.messages e.standing e.header e.others
    (e.removed c.args.name.now (named_at c.args.name.now c.self.inside.image.bytes c.unwrap-object.result.now.messages.list c.in-Some.k found)) e.count e.moves e.spends

pub invariant_of-self : goal.invariant_of-self
invariant_of-self c = (done (goal.at.invariant_of-self c).After-remove_at).0

pub returns : goal.returns
returns c = record { changed = (done (goal.at.returns c).After-remove_at).1 }

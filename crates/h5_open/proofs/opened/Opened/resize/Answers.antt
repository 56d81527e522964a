use Rattle.std.proofs.Common.{◌≡◌, ◌↔◌, ℕ, MutBor, get_or, ◌+◌, ◌<◌, ◌≤◌, ◌∙◌, Bool, true, false, length, List, Option, Some, Ok, Err, refl, arith}
use Rattle.std.specs.Prelude.{slice_get, slice_set}
use Rattle.std.specs.BTreeMap.{BTreeMap}
use Rattle.std.specs.Option.{option_copied_mut}
use Rattle.std.proofs.lemmas.Option.{slice_get_within}
use Rattle.std.proofs.lemmas.Result.{err_from_is_err_and}
use Rattle.h5_model.specs.Format.Limits.{most_bytes}
use Rattle.h5_space.specs.Space.{Space}
use Rattle.h5_header.specs.Listed.{messages_in}
use Rattle.h5_header.specs.declared.add.AddFault.{AddFault}
use Rattle.h5_header.specs.declared.add.AddFault.TheVariants as fault
use Rattle.h5_open.specs.declared.opened.object.OpenedObject.{OpenedObject}
use Rattle.h5_layout.specs.Extents.{extent_room}
use Rattle.h5_open.specs.Opened.Kept.{IsOpened}
use Rattle.h5_open.specs.Opened.State.{FileState, opened_state}
use Rattle.h5_open.proofs.OpenedLaws.LentSlots.{lent_some_mut, slot_lent_mut, slot_read}
use Rattle.h5_open.proofs.OpenedLaws.Sounds.{sound}
use Rattle.h5_open.proofs.ResizedCalls.{IsAsked, apart_here, header_said, image_said, refused_opened, resized_changed, resized_opened, resized_trimmed, sizes_here, slot, trimmed_here}
use Rattle.h5_open.proofs.opened.Opened.resize.Goals as goal
use Rattle.h5_open.proofs.opened.Opened.resize.Goals.{After-from_residual, After-unwrap-object, After-write_end}

-- the slot that is lent is the array's
lent : (image : Space) (slots : List (Option OpenedObject)) (numbers : BTreeMap ℕ ℕ) (opened : IsOpened image slots numbers) (f : FileState)
    (view : opened_state image slots ≡ f)
    (number : ℕ) (sizes : List ℕ) (asked : IsAsked f number sizes) (read : Option OpenedObject) → read ≡ get_or slots number read
    → (r : Option (MutBor OpenedObject)) → option_copied_mut r ≡ read → (b : MutBor OpenedObject) → r ≡ Some b → slice_get slots number ≡ Some (Some b.now)
lent image slots numbers opened f view number sizes asked =
    let there = slot image slots numbers opened f view number sizes asked in
    slot_lent_mut slots number there.0 there.1

-- an answer that is no refusal
no_fault : (e : AddFault) → Ok (tt {0}) ≡ Err e → ⊥
no_fault e is = absurd (cc)

fits_by : (P Q : Type 0) (b : Bool) (k : ℕ) → (P → ⊥) → (Q → ⊥) → P ↔ (b ≡ true) → Q ↔ ((b ≡ false) × (most_bytes < k)) → k ≤ most_bytes
fits_by P Q true k place short header image = absurd (place (header.1 refl))
fits_by P Q false k place short header image = let fits : most_bytes < k → ⊥ = λ high. short (image.1 (refl, high)) in omega (arith, fits)

pub index_mut-requires : goal.index_mut-requires
index_mut-requires c =
    let there = slot c.self.inside.image c.self.inside.index.objects.items c.self.inside.index.numbers c.self.invariant c.args.self.now c.self.view_is c.args.number
    c.args.sizes.now c.requires.array in
    omega (arith, slice_get_within c.self.inside.index.objects.items c.args.number (Some there.0) there.1)

pub unwrap-object-requires : goal.unwrap-object-requires
unwrap-object-requires c =
    let there = slot c.self.inside.image c.self.inside.index.objects.items c.self.inside.index.numbers c.self.invariant c.args.self.now c.self.view_is c.args.number
    c.args.sizes.now c.requires.array in
    lent_some_mut c.as_mut.result there.0
    (c.as_mut.ensures.value ∙ slot_read c.self.inside.index.objects.items c.args.number there.0 there.1 c.index_mut.result.now c.index_mut.ensures.value)

-- ---- asked for

at_start : (c : After-unwrap-object) → slice_get c.self.inside.index.objects.items c.args.number ≡ Some (Some c.unwrap-object.result.now)
at_start c = lent c.self.inside.image c.self.inside.index.objects.items c.self.inside.index.numbers c.self.invariant c.args.self.now c.self.view_is c.args.number
    c.args.sizes.now c.requires.array
    c.index_mut.result.now c.index_mut.ensures.value c.as_mut.result c.as_mut.ensures.value c.unwrap-object.result c.unwrap-object.ensures

pub resize_object-requires-clause-array : goal.resize_object-requires-clause-array
resize_object-requires-clause-array c =
    apart_here c.self.inside.image c.self.inside.index.objects.items c.self.inside.index.numbers c.self.invariant c.args.self.now c.self.view_is c.args.number
    c.args.sizes.now c.requires.array c.unwrap-object.result.now (at_start (goal.at.resize_object-requires-clause-array c).After-unwrap-object)

pub resize_object-requires-clause-sizes : goal.resize_object-requires-clause-sizes
resize_object-requires-clause-sizes c =
    sizes_here c.self.inside.image c.self.inside.index.objects.items c.self.inside.index.numbers c.self.invariant c.args.self.now c.self.view_is c.args.number
    c.args.sizes.now c.requires.array c.unwrap-object.result.now (at_start (goal.at.resize_object-requires-clause-sizes c).After-unwrap-object)

pub resize_object-requires-clause-trimmed : goal.resize_object-requires-clause-trimmed
resize_object-requires-clause-trimmed c =
    trimmed_here c.self.inside.image c.self.inside.index.objects.items c.self.inside.index.numbers c.self.invariant c.args.self.now c.self.view_is c.args.number
    c.args.sizes.now c.requires.array c.unwrap-object.result.now (at_start (goal.at.resize_object-requires-clause-trimmed c).After-unwrap-object)

-- ---- refused

at_refused : (c : After-from_residual) → slice_get c.self.inside.index.objects.items c.args.number ≡ Some (Some c.unwrap-object.result.now)
at_refused c = lent c.self.inside.image c.self.inside.index.objects.items c.self.inside.index.numbers c.self.invariant c.args.self.now c.self.view_is c.args.number
    c.args.sizes.now c.requires.array
    c.index_mut.result.now c.index_mut.ensures.value c.as_mut.result c.as_mut.ensures.value c.unwrap-object.result c.unwrap-object.ensures

refused : (c : After-from_residual)
    → IsOpened c.resize_object.new.image (slice_set c.self.inside.index.objects.items c.args.number (Some c.resize_object.new.object)) c.self.inside.index.numbers
refused c =
    let e = c.in_err-resize_object.ensures in
    refused_opened c.self.inside.image c.self.inside.index.objects.items c.self.inside.index.numbers c.self.invariant c.args.self.now c.self.view_is c.args.number
    c.args.sizes.now c.requires.array c.unwrap-object.result.now (at_refused c)
    c.resize_object.new.image e.as_it_was c.resize_object.new.object e.same

pub invariant_of-self : goal.invariant_of-self
invariant_of-self c = refused (goal.at.invariant_of-self c).After-from_residual

pub returns-in_err-resize_object-clause-sound : goal.returns-in_err-resize_object-clause-sound
returns-in_err-resize_object-clause-sound c =
    sound c.resize_object.new.image _ c.self.inside.index.numbers (refused (goal.at.returns-in_err-resize_object-clause-sound c).After-from_residual)

pub returns-in_err-resize_object-clause-header_full : goal.returns-in_err-resize_object-clause-header_full
returns-in_err-resize_object-clause-header_full c lacks says =
    let answered = err_from_is_err_and c.from_residual.result c.from_residual.ensures.1 in
    let at = at_refused (goal.at.returns-in_err-resize_object-clause-header_full c).After-from_residual in
    rw (answered.1, answered.2)
    (header_said c.self.inside.image c.self.inside.index.objects.items c.self.inside.index.numbers c.self.invariant c.args.self.now c.self.view_is c.args.number
    c.args.sizes.now c.requires.array c.unwrap-object.result.now at _ c.in_err-resize_object.ensures.header_full lacks says)

pub returns-in_err-resize_object-clause-image_full : goal.returns-in_err-resize_object-clause-image_full
returns-in_err-resize_object-clause-image_full c lacks says =
    let answered = err_from_is_err_and c.from_residual.result c.from_residual.ensures.1 in
    let at = at_refused (goal.at.returns-in_err-resize_object-clause-image_full c).After-from_residual in
    rw (answered.1, answered.2)
    (image_said c.self.inside.image c.self.inside.index.objects.items c.self.inside.index.numbers c.self.invariant c.args.self.now c.self.view_is c.args.number
    c.args.sizes.now c.requires.array c.unwrap-object.result.now at _ c.in_err-resize_object.ensures.image_full lacks says)

-- ---- resized

pub write_end-requires-clause-superblock : goal.write_end-requires-clause-superblock
write_end-requires-clause-superblock c = c.in_ok-resize_object.ensures.resized.resized.moved.stand.long

at_end : (c : After-write_end) → slice_get c.self.inside.index.objects.items c.args.number ≡ Some (Some c.unwrap-object.result.now)
at_end c = lent c.self.inside.image c.self.inside.index.objects.items c.self.inside.index.numbers c.self.invariant c.args.self.now c.self.view_is c.args.number
    c.args.sizes.now c.requires.array
    c.index_mut.result.now c.index_mut.ensures.value c.as_mut.result c.as_mut.ensures.value c.unwrap-object.result c.unwrap-object.ensures

fits : (c : After-write_end)
    → length c.self.inside.image.bytes + extent_room (messages_in c.self.inside.image.bytes c.unwrap-object.result.now.messages.list) c.args.sizes.now ≤ most_bytes
fits c =
    let e = c.in_ok-resize_object.ensures in
    fits_by _ _ _ _ (no_fault fault.HeaderFull) (no_fault fault.ImageFull) e.header_full e.image_full

small : (c : After-write_end) → length c.resize_object.new.image.bytes ≤ most_bytes
small c = omega (arith, fits c, c.in_ok-resize_object.ensures.spends)

opened_now : (c : After-write_end)
    → IsOpened c.write_end.new.image (slice_set c.self.inside.index.objects.items c.args.number (Some c.resize_object.new.object)) c.self.inside.index.numbers
opened_now c =
    let e = c.in_ok-resize_object.ensures in
    let t = c.write_end.ensures in
    resized_opened c.self.inside.image c.self.inside.index.objects.items c.self.inside.index.numbers c.self.invariant c.args.self.now c.self.view_is c.args.number
    c.args.sizes.now c.requires.array c.unwrap-object.result.now (at_end c)
    c.resize_object.new.image c.write_end.new.image c.resize_object.new.object e.resized e.spends (small c) t.moves t.end t.length

pub invariant_of-self-2 : goal.invariant_of-self-2
invariant_of-self-2 c = opened_now (goal.at.invariant_of-self-2 c).After-write_end

pub returns-clause-changed : goal.returns-clause-changed
returns-clause-changed c =
    let w = (goal.at.returns-clause-changed c).After-write_end in
    let e = c.in_ok-resize_object.ensures in
    let t = c.write_end.ensures in
    resized_changed c.self.inside.image c.self.inside.index.objects.items c.self.inside.index.numbers c.self.invariant c.args.self.now c.self.view_is c.args.number
    c.args.sizes.now c.requires.array c.unwrap-object.result.now (at_end w)
    c.resize_object.new.image c.write_end.new.image c.resize_object.new.object e.resized e.spends (small w) t.moves t.end t.length

pub returns-clause-sound : goal.returns-clause-sound
returns-clause-sound c = sound c.write_end.new.image _ c.self.inside.index.numbers (opened_now (goal.at.returns-clause-sound c).After-write_end)

pub returns-clause-trimmed : goal.returns-clause-trimmed
returns-clause-trimmed c =
    let w = (goal.at.returns-clause-trimmed c).After-write_end in
    let e = c.in_ok-resize_object.ensures in
    let t = c.write_end.ensures in
    resized_trimmed c.self.inside.image c.self.inside.index.objects.items c.self.inside.index.numbers c.self.invariant c.args.self.now c.self.view_is c.args.number
    c.args.sizes.now c.requires.array c.unwrap-object.result.now (at_end w)
    c.resize_object.new.image c.write_end.new.image c.resize_object.new.object e.resized e.spends (small w) t.moves t.end t.length

pub returns-clause-header_full : goal.returns-clause-header_full
returns-clause-header_full c lacks says =
    header_said c.self.inside.image c.self.inside.index.objects.items c.self.inside.index.numbers c.self.invariant c.args.self.now c.self.view_is c.args.number
    c.args.sizes.now c.requires.array c.unwrap-object.result.now (at_end (goal.at.returns-clause-header_full c).After-write_end)
    _ c.in_ok-resize_object.ensures.header_full lacks says

pub returns-clause-image_full : goal.returns-clause-image_full
returns-clause-image_full c lacks says =
    image_said c.self.inside.image c.self.inside.index.objects.items c.self.inside.index.numbers c.self.invariant c.args.self.now c.self.view_is c.args.number
    c.args.sizes.now c.requires.array c.unwrap-object.result.now (at_end (goal.at.returns-clause-image_full c).After-write_end)
    _ c.in_ok-resize_object.ensures.image_full lacks says

use Rattle.std.proofs.Common.{◌≡◌, ℕ, ◌<◌, ◌∙◌, List, Option, Some, length, get_or, arith}
use Rattle.std.specs.Prelude.{slice_get}
use Rattle.std.proofs.lemmas.List.Elements.{Contains-get_or}
use Rattle.std.proofs.lemmas.Option.{slice_get-get_or, slice_get_within}
use Rattle.h5_header.specs.Standing.{IsStanding}
use Rattle.h5_open.specs.declared.opened.object.OpenedObject.{OpenedObject}
use Rattle.h5_open.specs.LinkTaken.{AreHeadersStanding}
use Rattle.h5_open.proofs.CountsLowered.{all_lowered, none_lowered, one_lowered}
use Rattle.h5_open.proofs.OpenedLaws.LentSlots.{lent_some, slot_lent, slot_read}
use Rattle.h5_open.proofs.opened.unlinked.lower_counts.Goals as goal

-- the object whose turn it is
its_object : (image : List ℕ) (slots : List (Option OpenedObject)) (less : List (ℕ × ℕ)) (i : ℕ) → AreHeadersStanding image slots less → i < length less
    → (o : OpenedObject) × (slice_get slots (get_or less i (0, 0)).0 ≡ Some (Some o)) × IsStanding image o.messages
its_object image slots less i standing low = standing (get_or less i (0, 0)).0 (get_or less i (0, 0)).1 (Contains-get_or less i (0, 0) low)

pub loop-number-init : goal.loop-number-init
loop-number-init c = none_lowered c.args.image.now c.args.objects.now c.args.less.now c.requires.standing

pub bounds-objects-number : goal.bounds-objects-number
bounds-objects-number c =
    let its = its_object c.args.image.now.bytes c.args.objects.now c.args.less.now c.loop-number.number-index c.requires.standing c.loop-number-test.true in
    omega (arith, slice_get_within c.args.objects.now (get_or c.args.less.now c.loop-number.number-index (0, 0)).0 (Some its.0) its.1)

pub unwrap-object-requires : goal.unwrap-object-requires
unwrap-object-requires c =
    let its = its_object c.args.image.now.bytes c.args.objects.now c.args.less.now c.loop-number.number-index c.requires.standing c.loop-number-test.true in
    lent_some c.as_ref.result its.0
    (c.as_ref.ensures.value
    ∙ slot_read c.args.objects.now (get_or c.args.less.now c.loop-number.number-index (0, 0)).0 its.0 its.1 c.index-objects-number.result c.index-objects-number.is)

pub set_links-requires : goal.set_links-requires
set_links-requires c =
    let l = get_or c.args.less.now c.loop-number.number-index (0, 0) in
    let its = its_object c.args.image.now.bytes c.args.objects.now c.args.less.now c.loop-number.number-index c.requires.standing c.loop-number-test.true in
    let there = slot_lent c.args.objects.now l.0 its.0 its.1 c.index-objects-number.result c.index-objects-number.is c.as_ref.result c.as_ref.ensures.value c.unwrap-object.result c.unwrap-object.ensures in
    record {
      standing = (c.loop-number.invariant.each c.loop-number.number-index l.0 l.1 c.unwrap-object.result.now (slice_get-get_or c.args.less.now c.loop-number.number-index (0, 0) c.loop-number-test.true) there).standing;
    }

pub loop-number-preserved : goal.loop-number-preserved
loop-number-preserved c =
    let l = get_or c.args.less.now c.loop-number.number-index (0, 0) in
    let its = its_object c.args.image.now.bytes c.args.objects.now c.args.less.now c.loop-number.number-index c.requires.standing c.loop-number-test.true in
    let there = slot_lent c.args.objects.now l.0 its.0 its.1 c.index-objects-number.result c.index-objects-number.is c.as_ref.result c.as_ref.ensures.value c.unwrap-object.result c.unwrap-object.ensures in
    one_lowered c.args.image.now c.args.objects.now c.args.less.now c.requires.apart c.loop-number.image c.set_links.new.image
    c.loop-number.number-index l.0 l.1 c.unwrap-object.result.now (slice_get-get_or c.args.less.now c.loop-number.number-index (0, 0) c.loop-number-test.true) there
    c.loop-number.invariant c.set_links.ensures.standing c.set_links.ensures.messages c.set_links.ensures.count c.set_links.ensures.moves c.set_links.ensures.length
    c.set_links.ensures.room.1

pub returns-clause-lowered : goal.returns-clause-lowered
returns-clause-lowered c =
    all_lowered c.args.image.now c.args.objects.now c.args.less.now c.loop-number.image c.loop-number.number-index c.loop-number-test.false c.loop-number.invariant

use Rattle.std.proofs.Common.{◌≡◌, subst, arith}
use Rattle.h5_edit.proofs.ChangedLaws.StoredSlots.{AreStoredBelow, all_stored, stored_more}
use Rattle.h5_edit.proofs.ChangedLaws.WrittenSlots.{AreWritten, opened_counted, opened_written, written_more}
use Rattle.h5_edit.proofs.change.objects.opened_objects.Goals as goal

pub opened_slot-requires : goal.opened_slot-requires
opened_slot-requires c o there = c.requires c.loop-number.number o there

pub loop-number-preserved : goal.loop-number-preserved
loop-number-preserved c =
    let f = c.args.opened.now in
    record {
      objects = written_more f.tree c.loop-number.objects.items c.push.new.self.items c.loop-number.number
          c.in_ok-opened_slot.field-0 c.loop-number.invariant.objects c.in_ok-opened_slot.ensures.object c.in_ok-push.ensures.items;
      chunks = stored_more f c.loop-number.objects.items c.push.new.self.items c.loop-number.number
          c.in_ok-opened_slot.field-0 c.loop-number.invariant.chunks c.in_ok-opened_slot.ensures.stored c.in_ok-push.ensures.items;
    }

pub returns-clause-objects : goal.returns-clause-objects
returns-clause-objects c =
    let f = c.args.opened.now in
    let last : c.loop-number.number ≡ f.next = omega (arith, c.loop-number-test.false, c.loop-number.auto.number-end, c.next-number-end.ensures.next) in
    opened_written f.tree f.next c.loop-number.objects.items
    (subst (AreWritten f.tree c.loop-number.objects.items) last c.loop-number.invariant.objects) c.next-number-end.ensures.sound.numbers.given

pub returns-clause-counted : goal.returns-clause-counted
returns-clause-counted c =
    let f = c.args.opened.now in
    let last : c.loop-number.number ≡ f.next = omega (arith, c.loop-number-test.false, c.loop-number.auto.number-end, c.next-number-end.ensures.next) in
    opened_counted f.tree f.next c.loop-number.objects.items
    (subst (AreWritten f.tree c.loop-number.objects.items) last c.loop-number.invariant.objects)

pub returns-clause-stored : goal.returns-clause-stored
returns-clause-stored c =
    let f = c.args.opened.now in
    let last : c.loop-number.number ≡ f.next = omega (arith, c.loop-number-test.false, c.loop-number.auto.number-end, c.next-number-end.ensures.next) in
    all_stored f c.loop-number.objects.items
    (subst (AreStoredBelow f c.loop-number.objects.items) last c.loop-number.invariant.chunks) c.next-number-end.ensures.sound.numbers.given

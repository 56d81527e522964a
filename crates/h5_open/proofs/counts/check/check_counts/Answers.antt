use Rattle.std.proofs.Common.{◌≡◌, ◌<◌, ◌≤◌, ℕ, List, Option, Some, None, sym, ◌∙◌, subst, length, get_or, arith, below_more}
use Rattle.std.proofs.lemmas.Option.{slice_get_within}
use Rattle.std.proofs.lemmas.Result.{err_from_is_err_and}
use Rattle.std.specs.Prelude.{slice_get}
use Rattle.h5_laws.proofs.Lists.{in_all, in_at}
use Rattle.h5_model.specs.Format.Messages.{prefix_at, reference_count}
use Rattle.h5_model.specs.Format.Reads.{ReadsAs}
use Rattle.h5_open.specs.declared.opened.object.OpenedObject.{OpenedObject}
use Rattle.h5_open.specs.Opened.Kept.{IsObjectKept}
use Rattle.h5_open.specs.Opened.Objects.{IsDense, objects_of, table_of, tree_of}
use Rattle.h5_open.specs.Placed.Whole.{placed_of}
use Rattle.h5_open.proofs.CountedLaws.CountLaws.{count_read}
use Rattle.h5_open.proofs.CountedLaws.CheckLaws.{all_right, one_wrong, one_miscounted}
use Rattle.h5_open.proofs.CountedLaws.ObjectLaws.{header_inside}
use Rattle.h5_open.proofs.IndexLaws.{dense_length, slot_at}
use Rattle.h5_open.proofs.counts.check.check_counts.Goals as goal
use Rattle.h5_open.proofs.counts.check.check_counts.Goals.{in-Some+in_ok-check_object, in_default}

object_at : (slots items : List (Option OpenedObject)) → IsDense slots → items ≡ slots → (i : ℕ) (slot : Option OpenedObject) → i < length items → slot ≡ get_or items i slot
    → (o : OpenedObject) → slot ≡ Some o → slice_get (objects_of slots) i ≡ Some o
object_at slots items dense same i slot low is o here =
    let at = slot_at slots items dense same i slot low is in
    at.2 ∙ sym at.1 ∙ here

pub check_object-requires : goal.check_object-requires
check_object-requires c =
    let image = c.args.image.now.bytes in
    let slots = c.args.tally.now.index.objects.items in
    let o = c.in-Some.object in
    let here = object_at slots c.deref-slot-items.result.now c.requires.all c.deref-slot-items.ensures.value c.loop-number.number c.slot-item.result c.loop-number-test.true c.slot-item.is o c.in-Some.is in
    header_inside image o (in_all (IsObjectKept image) o (objects_of slots) c.requires.whole.each (in_at (objects_of slots) c.loop-number.number o here))

pub returns-in_err-check_object-clause-wrong : goal.returns-in_err-check_object-clause-wrong
returns-in_err-check_object-clause-wrong c =
    let slots = c.args.tally.now.index.objects.items in
    let o = c.in-Some.object in
    let i = c.loop-number.number in
    let here = object_at slots c.deref-slot-items.result.now c.requires.all c.deref-slot-items.ensures.value i c.slot-item.result c.loop-number-test.true c.slot-item.is o c.in-Some.is in
    let fault = c.in_err-check_object.field-0.0 in
    let wrong = c.in_err-check_object.ensures in
    let counts = c.args.tally.now.counts.items in
    let read : c.index.result.now ≡ get_or counts i 0 = count_read counts i c.index.result.now (omega (arith, slice_get_within (objects_of slots) i o here, c.requires.counted.long)) c.index.ensures in
    let p = err_from_is_err_and c.from_residual.result c.from_residual.ensures.1 in
    rw (p.1, p.2)
    (one_miscounted c.args.image.now.bytes (objects_of slots) c.requires.whole counts c.requires.counted i o here fault.cause fault.address wrong.cause wrong.address (λ right. wrong.wrong (right ∙ sym read)))

pub returns-in_err-check_object-clause-refused : goal.returns-in_err-check_object-clause-refused
returns-in_err-check_object-clause-refused c =
    let slots = c.args.tally.now.index.objects.items in
    let o = c.in-Some.object in
    let i = c.loop-number.number in
    let here = object_at slots c.deref-slot-items.result.now c.requires.all c.deref-slot-items.ensures.value i c.slot-item.result c.loop-number-test.true c.slot-item.is o c.in-Some.is in
    let fault = c.in_err-check_object.field-0.0 in
    let wrong = c.in_err-check_object.ensures in
    let counts = c.args.tally.now.counts.items in
    let image = c.args.image.now.bytes in
    let read : c.index.result.now ≡ get_or counts i 0 = count_read counts i c.index.result.now (omega (arith, slice_get_within (objects_of slots) i o here, c.requires.counted.long)) c.index.ensures in
    let p = err_from_is_err_and c.from_residual.result c.from_residual.ensures.1 in
    rw (p.1, p.2)
    (one_wrong image (objects_of slots) c.requires.whole counts c.requires.counted fault.cause fault.address
    (one_miscounted image (objects_of slots) c.requires.whole counts c.requires.counted i o here fault.cause fault.address wrong.cause wrong.address (λ right. wrong.wrong (right ∙ sym read))))

pub loop-number-preserved : goal.loop-number-preserved
loop-number-preserved c k o low there =
    let image = c.args.image.now.bytes in
    let slots = c.args.tally.now.index.objects.items in
    let objects = objects_of slots in
    let counts = c.args.tally.now.counts.items in
    let i = c.loop-number.number in
    let at = slot_at slots c.deref-slot-items.result.now c.requires.all c.deref-slot-items.ensures.value i c.slot-item.result c.loop-number-test.true c.slot-item.is in
    let right : reference_count (prefix_at image (at.0).messages.header) ≡ get_or counts i 0 = elim c.match-slot.branch [
      | in-Some+in_ok-check_object w ↦
          let both : Some w.in-Some.object ≡ Some at.0 = sym w.in-Some.is ∙ at.1 in
          let one : w.in-Some.object ≡ at.0 = cc in
          subst (λ (y : OpenedObject). reference_count (prefix_at image y.messages.header) ≡ get_or counts i 0) one
          (w.in_ok-check_object.ensures.right ∙ count_read counts i w.index.result.now (omega (arith, slice_get_within objects i at.0 at.2, c.requires.counted.long)) w.index.ensures)
      | in_default w ↦ absurd (let never : None ≡ Some at.0 = sym w.in_default.is ∙ at.1 in cc)
    ] in
    below_more (λ n. (x : OpenedObject) → slice_get objects n ≡ Some x → reference_count (prefix_at image x.messages.header) ≡ get_or counts n 0) i
    (λ n less x here. c.loop-number.invariant n x less here)
    (λ x here.
    let both : Some at.0 ≡ Some x = sym at.2 ∙ here in
    let one : at.0 ≡ x = cc in
    subst (λ (y : OpenedObject). reference_count (prefix_at image y.messages.header) ≡ get_or counts i 0) one right)
    k low o there

pub returns-clause-reads : goal.returns-clause-reads
returns-clause-reads c =
    let image = c.args.image.now.bytes in
    let slots = c.args.tally.now.index.objects.items in
    let objects = objects_of slots in
    let end : length slots ≤ c.loop-number.number = rw c.deref-slot-items.ensures.value at c.loop-number-test.false in
    subst (λ (s : List (Option OpenedObject)). ReadsAs image (table_of s) (tree_of image s) (placed_of image objects)) (sym c.requires.all)
    (all_right image objects c.requires.whole c.args.tally.now.counts.items c.requires.counted
    (λ number o here. c.loop-number.invariant number o (omega (arith, end, dense_length slots c.requires.all, slice_get_within objects number o here)) here))

use Rattle.std.proofs.Common.{◌≡◌, ℕ, ◌+◌, ◌-◌, ◌<◌, ◌≤◌, ◌++◌, ◌∙◌, List, Option, Some, None, get_or, length, length-append, replicate, sym, ap, subst, arith}
use Rattle.std.proofs.lemmas.List.{length-replicate}
use Rattle.std.proofs.lemmas.Option.{slice_get-get_or}
use Rattle.std.specs.BTreeMap.{BTreeMap}
use Rattle.std.specs.Prelude.{slice_get}
use Rattle.h5_model.specs.Format.Limits.{most_numbers}
use Rattle.h5_laws.proofs.Lists.{in_at}
use Rattle.h5_space.specs.Space.{Space}
use Rattle.h5_open.specs.declared.index.Index.{Index}
use Rattle.h5_open.specs.declared.opened.object.OpenedObject.{OpenedObject}
use Rattle.h5_open.specs.Opened.Kept.{IsOpened}
use Rattle.h5_open.proofs.RenumberedLaws.Arranged.{IsArranged, arranged_empty, arranged_more, arranged_none, arranged_opened, arranged_table}
use Rattle.h5_open.proofs.RenumberedLaws.GrownSlots.{opened_grown}
use Rattle.h5_open.proofs.RenumberedLaws.SameHeaders.{own_of}
use Rattle.h5_open.proofs.numbers.order.renumber.Goals as goal
use Rattle.h5_open.proofs.numbers.order.renumber.Goals.{in-Some, in_default}

-- with the slots that were left
left_long : (slots more : List (Option OpenedObject)) (count : ℕ) → length slots ≤ count → more ≡ slots ++ replicate (count - length slots) None → length more ≡ count
left_long slots more count given left =
    let both = ap (λ (s : List (Option OpenedObject)). length s) left ∙ length-append slots (replicate (count - length slots) None) in
    omega (arith, both, length-replicate {A = Option OpenedObject} (count - length slots) None, given)

left_opened : (image : Space) (slots more : List (Option OpenedObject)) (numbers numbers' : BTreeMap ℕ ℕ) (count : ℕ) → IsOpened image slots numbers → length slots ≤ count → count ≤ most_numbers
    → more ≡ slots ++ replicate (count - length slots) None → numbers' ≡ numbers → IsOpened image more numbers'
left_opened image slots more numbers numbers' count opened given few left same =
    subst (IsOpened image more) (sym same)
    (subst (λ (s : List (Option OpenedObject)). IsOpened image s numbers) (sym left) (opened_grown image slots (count - length slots) numbers opened (omega (arith, given, few))))

-- a header that was read
read_slot : (hs : List (Option ℕ)) (n : ℕ) (slot : Option ℕ) → n < length hs → get_or hs n None ≡ slot → slice_get hs n ≡ Some slot
read_slot hs n slot low is = slice_get-get_or hs n None low ∙ ap (λ (s : Option ℕ). Some s) is

pub loop-number-init : goal.loop-number-init
loop-number-init c =
    let first = c.args.index.now in
    let now = c.leave_slots.new.index in
    let hs = c.args.headers.now in
    arranged_none c.args.image.now hs now.objects.items now.numbers
    (left_opened c.args.image.now first.objects.items now.objects.items first.numbers now.numbers (length hs) c.requires.opened c.requires.given c.requires.few
    c.in_ok-leave_slots.ensures.left c.leave_slots.ensures.numbers) c.requires.read

pub give_number-requires-clause-there : goal.give_number-requires-clause-there
give_number-requires-clause-there c =
    let hs = c.args.headers.now in
    let number = c.loop-number.number in
    c.loop-number.invariant.all c.in-Some.header (in_at hs number (Some c.in-Some.header) (read_slot hs number (Some c.in-Some.header) c.loop-number-test.true c.in-Some.is))

pub give_number-requires-clause-number : goal.give_number-requires-clause-number
give_number-requires-clause-number c =
    let hs = c.args.headers.now in
    let long = left_long c.args.index.now.objects.items c.leave_slots.new.index.objects.items (length hs) c.requires.given c.in_ok-leave_slots.ensures.left in
    omega (arith, c.loop-number.invariant.many, long, c.loop-number-test.true)

pub loop-number-preserved : goal.loop-number-preserved
loop-number-preserved c =
    let hs = c.args.headers.now in
    let number = c.loop-number.number in
    let first = c.leave_slots.new.index.objects.items in
    let before = c.loop-number.index in
    elim c.match-header.branch [
      | in-Some w ↦
          let now = w.give_number.new.index in
          let more : IsArranged hs first now.objects.items now.numbers (number + 1) =
          arranged_more hs first before.objects.items now.objects.items before.numbers now.numbers number w.in-Some.header c.loop-number.invariant
          (own_of c.args.image.now.bytes hs c.requires.read.0 c.requires.read.1) (read_slot hs number (Some w.in-Some.header) c.loop-number-test.true w.in-Some.is) w.give_number.ensures.given
          w.give_number.ensures.len w.give_number.ensures.index in
          subst (λ (x : Index). IsArranged hs first x.objects.items x.numbers (number + 1)) (sym w.index-is) more
      | in_default w ↦
          let same : IsArranged hs first before.objects.items before.numbers (number + 1) =
          arranged_empty hs first before.objects.items before.numbers number c.loop-number.invariant (read_slot hs number None c.loop-number-test.true w.in_default.is) in
          subst (λ (x : Index). IsArranged hs first x.objects.items x.numbers (number + 1)) (sym w.index-is) same
    ]

pub returns-clause-opened : goal.returns-clause-opened
returns-clause-opened c =
    let first = c.args.index.now in
    let left = c.leave_slots.new.index in
    let now = c.loop-number.index in
    let hs = c.args.headers.now in
    arranged_opened c.args.image.now hs left.objects.items left.numbers
    (left_opened c.args.image.now first.objects.items left.objects.items first.numbers left.numbers (length hs) c.requires.opened c.requires.given c.requires.few
    c.in_ok-leave_slots.ensures.left c.leave_slots.ensures.numbers) c.requires.read now.objects.items now.numbers c.loop-number.number c.loop-number.invariant c.loop-number-test.false

pub returns-clause-table : goal.returns-clause-table
returns-clause-table c =
    let first = c.args.index.now in
    let left = c.leave_slots.new.index in
    let now = c.loop-number.index in
    let hs = c.args.headers.now in
    arranged_table c.args.image.now hs left.objects.items left.numbers
    (left_opened c.args.image.now first.objects.items left.objects.items first.numbers left.numbers (length hs) c.requires.opened c.requires.given c.requires.few
    c.in_ok-leave_slots.ensures.left c.leave_slots.ensures.numbers) c.requires.read now.objects.items now.numbers c.loop-number.number c.loop-number.invariant c.loop-number-test.false

pub returns-clause-length : goal.returns-clause-length
returns-clause-length c =
    let long = left_long c.args.index.now.objects.items c.leave_slots.new.index.objects.items (length c.args.headers.now) c.requires.given c.in_ok-leave_slots.ensures.left in
    c.loop-number.invariant.many ∙ long
